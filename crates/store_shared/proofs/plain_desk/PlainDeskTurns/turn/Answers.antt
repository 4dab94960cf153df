use Rattle.std.proofs.Common.{◌∙◌, refl, subst, subst₂, sym}
use Rattle.std.proofs.lemmas.List.{length-map}
use Rattle.drive_base.specs.View.{view, views}
use Rattle.op_steps.specs.Going.{StepsSo}
use Rattle.op_steps.specs.Store.{AreInOrder, slots_seen, store_of}
use Rattle.store_shared.specs.Passes.{SlotsFit}
use Rattle.store_shared.proofs.OrderLemmas.{fit_order, order_fit, whole_slice}
use Rattle.store_shared.proofs.plain_desk.PlainDeskTurns.turn.Goals as goal

pub turn-requires-clause-order : goal.turn-requires-clause-order
turn-requires-clause-order g c =
    subst (λ slots. AreInOrder (g.O.Op.set c.args.op.now) (slots_seen g.A.Audit.entries g.A.Audit.count slots) (views g.D.Drive c.args.disks.now))
    (sym c.as_mut_slice.ensures.value)
    (fit_order (g.O.Op.set c.args.op.now) (slots_seen g.A.Audit.entries g.A.Audit.count c.args.slots.now.items) (views g.D.Drive c.args.disks.now)
    c.requires.fits (length-map c.args.disks.now (view g.D.Drive) ∙ c.requires.disks))

pub returns-clause-fits : goal.returns-clause-fits
returns-clause-fits g c =
    let slots = whole_slice c.turn.new.slots c.args.slots.now.items c.args.slots.now.len (c.turn.auto.slots ∙ c.as_mut_slice.ensures.len) in
    subst (λ slots. SlotsFit (g.O.Op.set c.args.op.now) (slots_seen g.A.Audit.entries g.A.Audit.count slots)) (sym slots)
    (order_fit (g.O.Op.set c.args.op.now) (slots_seen g.A.Audit.entries g.A.Audit.count c.turn.new.slots) (views g.D.Drive c.turn.new.disks) c.turn.ensures.order)

pub returns-clause-steps : goal.returns-clause-steps
returns-clause-steps g c = λ feed teller.
    let slots_are = whole_slice c.turn.new.slots c.args.slots.now.items c.args.slots.now.len (c.turn.auto.slots ∙ c.as_mut_slice.ensures.len) in
    subst₂ (λ old new. StepsSo g.D.Drive g.T.Teller.takes g.T.Teller.breaks (g.O.Op.step c.args.op.now) (g.O.Op.stands c.args.op.now) (g.O.Op.stands c.turn.new.op)
    (g.O.Op.set c.args.op.now) (λ claim. store_of (slots_seen g.A.Audit.entries g.A.Audit.count old) (views g.D.Drive c.args.disks.now) claim feed teller)
    (λ claim. store_of (slots_seen g.A.Audit.entries g.A.Audit.count new) (views g.D.Drive c.turn.new.disks) claim feed teller)
    c.args.stubs.now.items c.turn.new.stubs.items) c.as_mut_slice.ensures.value (sym slots_are) (c.turn.ensures.steps feed teller)
