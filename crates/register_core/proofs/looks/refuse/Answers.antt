use Rattle.std.proofs.Common.{◌+◌, ◌<◌, ◌∙◌, List, length, refl, subst, sym, arith}
use Rattle.call_types.specs.declared.why.Why.{Why}
use Rattle.register_core.proofs.FoundLemmas.{looked_up}
use Rattle.register_core.proofs.RefusalLemmas.{RefusedSoFar, refused_no, refused_yes}
use Rattle.register_core.proofs.looks.refuse.Goals as goal
use Rattle.register_core.proofs.looks.refuse.Goals.{then-has_content, else-has_content}

pub set-requires : goal.set-requires
set-requires c = omega (arith, c.loop-k.invariant.counted)

pub loop-k-init : goal.loop-k-init
loop-k-init c = record { counted = refl; each = λ j below. absurd (omega arith); others = λ j from. refl }

pub loop-k-preserved : goal.loop-k-preserved
loop-k-preserved c =
    let files = c.args.files.now in
    let content = c.args.content.now in
    let k = c.loop-k.k in
    let low : k < length files = omega arith in
    let at = looked_up files k c.index-files-k.result low c.index-files-k.is in
    elim c.if-has_content.branch [
      | then-has_content w ↦
          let has = c.has_content.ensures.0 w.if-has_content.true in
          subst (λ (whys : List Why). RefusedSoFar files content c.args.place c.args.whys whys (k + 1)) (sym (w.refused-is ∙ w.set.ensures))
          (refused_yes files content c.args.place c.args.whys c.loop-k.refused k (omega (arith, c.loop-k.invariant.counted))
          (has.0, at ∙ has.1, has.2) c.loop-k.invariant)
      | else-has_content w ↦
          subst (λ (whys : List Why). RefusedSoFar files content c.args.place c.args.whys whys (k + 1)) (sym w.refused-is)
          (refused_no files content c.args.place c.args.whys c.loop-k.refused k
          (λ has. let yes = c.has_content.ensures.1 (has.0, sym at ∙ has.1, has.2) in let no = w.if-has_content.false in absurd cc) c.loop-k.invariant)
    ]

pub returns : goal.returns
returns c = record {
  counted = c.loop-k.invariant.counted;
  each = λ k below. c.loop-k.invariant.each k (omega arith);
}
