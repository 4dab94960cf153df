-- One call of a drive, and what the drives have after it.
use Rattle.std.proofs.Common.{◌≡◌, ◌∙◌, ap, refl, sym, inl, arith, length, slice_index_or, slice_set}
use Rattle.std.specs.Prelude.{Ok, Err}
use Rattle.std.proofs.lemmas.List.{get_or_default}
use Rattle.put_stage.specs.Dues.{after}
use Rattle.put_stage.specs.Work.{due_at}
use Rattle.put_stage.specs.declared.dues.Due.{Due}
use Rattle.put_stage.specs.declared.dues.Due.TheVariants.{Block, Nothing}
use Rattle.put_stage.proofs.LeftLemmas.{fewer_after}
use Rattle.put_stage.proofs.StepLemmas.{bad_letter, one_goes_on, step_works, stepped}
use Rattle.put_stage.proofs.stage.Stage.step.Goals as goal

pub returns-in-Ok-clause-once : goal.returns-in-Ok-clause-once
returns-in-Ok-clause-once g c =
    let D = g.D.Drive in
    let old = c.args.self.now in
    let k = c.in-Some.index in
    let due : Due = slice_index_or old.dues k Block in
    let places : length old.dues ≡ 16 = omega arith in
    let same : due_at old k ≡ due = get_or_default old.dues k Nothing Block (omega (arith, places, c.in-Some.ensures.0.within, old.load.set.few_drives)) in
    inl (
      k,
      stepped D k old _ c.args.drives.now c.index-drives-index.result c.call_on.new.drive (Ok c.in-Ok.field-0) due
          places c.requires same c.in-Some.ensures.0 c.in-Some.ensures.1 (refl, ap (slice_set old.dues k) (c.after.ensures ∙ ap (after old.load.alone) (sym same)))
          c.in-Ok.ensures.letter c.call_on.ensures.spares c.in-Ok.ensures.called,
    )

pub returns-in-Ok-clause-works : goal.returns-in-Ok-clause-works
returns-in-Ok-clause-works g c =
    let D = g.D.Drive in
    let old = c.args.self.now in
    let k = c.in-Some.index in
    let due : Due = slice_index_or old.dues k Block in
    let places : length old.dues ≡ 16 = omega arith in
    let same : due_at old k ≡ due = get_or_default old.dues k Nothing Block (omega (arith, places, c.in-Some.ensures.0.within, old.load.set.few_drives)) in
    step_works D k old _ c.args.drives.now c.index-drives-index.result c.call_on.new.drive (Ok c.in-Ok.field-0) due
    places c.requires same c.in-Some.ensures.0 (refl, ap (slice_set old.dues k) (c.after.ensures ∙ ap (after old.load.alone) (sym same))) refl c.in-Ok.ensures.works

pub returns-in-Err-clause-once : goal.returns-in-Err-clause-once
returns-in-Err-clause-once g c =
    let D = g.D.Drive in
    let old = c.args.self.now in
    let k = c.in-Some.index in
    let due : Due = slice_index_or old.dues k Block in
    let places : length old.dues ≡ 16 = omega arith in
    let same : due_at old k ≡ due = get_or_default old.dues k Nothing Block (omega (arith, places, c.in-Some.ensures.0.within, old.load.set.few_drives)) in
    inl (
      k,
      stepped D k old _ c.args.drives.now c.index-drives-index.result c.call_on.new.drive (Err c.in-Err.why) due
          places c.requires same c.in-Some.ensures.0 c.in-Some.ensures.1 (c.set.ensures, refl) c.in-Err.ensures.letter c.call_on.ensures.spares c.in-Err.ensures.called,
    )

pub returns-in-Err-clause-works : goal.returns-in-Err-clause-works
returns-in-Err-clause-works g c =
    let D = g.D.Drive in
    let old = c.args.self.now in
    let k = c.in-Some.index in
    let due : Due = slice_index_or old.dues k Block in
    let places : length old.dues ≡ 16 = omega arith in
    let same : due_at old k ≡ due = get_or_default old.dues k Nothing Block (omega (arith, places, c.in-Some.ensures.0.within, old.load.set.few_drives)) in
    step_works D k old _ c.args.drives.now c.index-drives-index.result c.call_on.new.drive (Err c.in-Err.why) due
    places c.requires same c.in-Some.ensures.0 (c.set.ensures, refl) refl c.in-Err.ensures.works

pub returns-in-Ok-clause-fewer : goal.returns-in-Ok-clause-fewer
returns-in-Ok-clause-fewer g c = λ place is.
    let old = c.args.self.now in
    let k = c.in-Some.index in
    let due : Due = slice_index_or old.dues k Block in
    let places : length old.dues ≡ 16 = omega arith in
    let same : due_at old k ≡ due = get_or_default old.dues k Nothing Block (omega (arith, places, c.in-Some.ensures.0.within, old.load.set.few_drives)) in
    fewer_after (Ok c.in-Ok.field-0) k old _ places c.in-Some.ensures.0 (refl, ap (slice_set old.dues k) (c.after.ensures ∙ ap (after old.load.alone) (sym same))) refl
    tt

pub returns-in-Err-clause-fewer : goal.returns-in-Err-clause-fewer
returns-in-Err-clause-fewer g c = λ place is.
    let old = c.args.self.now in
    let k = c.in-Some.index in
    let places : length old.dues ≡ 16 = omega arith in
    fewer_after (Err c.in-Err.why) k old _ places c.in-Some.ensures.0 (c.set.ensures, refl) refl
    (bad_letter c.in-Err.why _ _ _ _ _ c.in-Err.ensures.letter)

pub returns-in-Ok-clause-drives : goal.returns-in-Ok-clause-drives
returns-in-Ok-clause-drives g c =
    one_goes_on g.D.Drive c.args.drives.now c.in-Some.index c.index-drives-index.result c.call_on.new.drive
    (omega (arith, c.requires, c.in-Some.ensures.0.within)) c.call_on.ensures.goes_on

pub returns-in-Err-clause-drives : goal.returns-in-Err-clause-drives
returns-in-Err-clause-drives g c =
    one_goes_on g.D.Drive c.args.drives.now c.in-Some.index c.index-drives-index.result c.call_on.new.drive
    (omega (arith, c.requires, c.in-Some.ensures.0.within)) c.call_on.ensures.goes_on
