use Rattle.std.proofs.Common.{◌∙◌, ap, length, subst, subst₂, sym}
use Rattle.op_steps.specs.Going.{StepsSo}
use Rattle.op_steps.specs.Store.{slots_seen}
use Rattle.store_shared.specs.Passes.{SlotsFit, set_of, slots_of}
use Rattle.store_shared.specs.Serving.{reached}
use Rattle.store_shared.proofs.OrderLemmas.{fit_count, fit_index, fit_set, slots_fit, whole_slice}
use Rattle.store_shared.proofs.pass.PlainPass.step.Goals as goal

pub step_op-requires-clause-fits : goal.step_op-requires-clause-fits
step_op-requires-clause-fits g c =
    let pass = c.args.self.now in
    subst (λ plan. SlotsFit plan (slots_seen g.A.Audit.entries g.A.Audit.count (slots_of pass))) (sym c.requires.set)
    (slots_fit g.A.Audit.entries g.A.Audit.count (set_of pass) (slots_of pass) pass.count pass.index pass.of_set)

pub step_op-requires-clause-disks : goal.step_op-requires-clause-disks
step_op-requires-clause-disks g c = ap length c.as_mut_slice-disks.ensures.value ∙ (c.args.self.now.drives ∙ ap (λ s. s.drives) (sym c.requires.set))

pub invariant_of-self-clause-count : goal.invariant_of-self-clause-count
invariant_of-self-clause-count g c =
    fit_count g.A.Audit.entries g.A.Audit.count (g.O.Op.set c.args.op.now) c.step_op.new.slots.items c.step_op.ensures.fits

pub invariant_of-self-clause-index : goal.invariant_of-self-clause-index
invariant_of-self-clause-index g c =
    fit_index g.A.Audit.entries g.A.Audit.count (g.O.Op.set c.args.op.now) c.step_op.new.slots.items c.step_op.ensures.fits

pub invariant_of-self-clause-of_set : goal.invariant_of-self-clause-of_set
invariant_of-self-clause-of_set g c = λ k d inside.
    fit_set g.A.Audit.entries g.A.Audit.count (g.O.Op.set c.args.op.now) c.step_op.new.slots.items c.step_op.ensures.fits k d inside ∙ c.requires.set

pub invariant_of-self-clause-drives : goal.invariant_of-self-clause-drives
invariant_of-self-clause-drives g c =
    let was = c.args.self.now.disks in
    ap length (whole_slice c.step_op.new.disks was.items was.len (c.step_op.auto.disks ∙ c.as_mut_slice-disks.ensures.len))
    ∙ (c.step_op.ensures.disks ∙ (ap length c.as_mut_slice-disks.ensures.value ∙ c.args.self.now.drives))

pub returns-clause-steps : goal.returns-clause-steps
returns-clause-steps g c =
    let was = c.args.self.now.disks in
    subst₂ (λ old new. StepsSo g.D.Drive g.T.Teller.takes g.T.Teller.breaks (g.O.Op.step c.args.op.now) (g.O.Op.stands c.args.op.now) (g.O.Op.stands c.step_op.new.op) (g.O.Op.set c.args.op.now)
    (λ claim. reached g.D.Drive g.F.Feed g.T.Teller (slots_seen g.A.Audit.entries g.A.Audit.count c.args.self.now.slots.items) old c.args.feed.now
    c.args.teller.now claim)
    (λ claim. reached g.D.Drive g.F.Feed g.T.Teller (slots_seen g.A.Audit.entries g.A.Audit.count c.step_op.new.slots.items) new c.step_op.new.feed
    c.step_op.new.teller claim)
    c.args.stubs.now.items c.step_op.new.stubs.items) c.as_mut_slice-disks.ensures.value
    (sym (whole_slice c.step_op.new.disks was.items was.len (c.step_op.auto.disks ∙ c.as_mut_slice-disks.ensures.len))) c.step_op.ensures.steps
