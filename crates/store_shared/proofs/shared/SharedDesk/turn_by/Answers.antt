use Rattle.std.proofs.Common.{◌∙◌, ap, refl, sym}
use Rattle.drive_base.specs.View.{views}
use Rattle.receipts.specs.declared.barred.Barred.TheVariants as barred
use Rattle.turn_lock.specs.Passes.{lent_to, ticket_of, turns_so_far}
use Rattle.turn_lock.specs.declared.view.Turn.{Turn}
use Rattle.op_steps.specs.declared.next.OpNext.TheVariants.{Section}
use Rattle.store_shared.specs.Among.{pass_seen}
use Rattle.store_shared.specs.Turned.{SlotName}
use Rattle.store_shared.specs.declared.shared.TurnedSlot.{TurnedSlot}
use Rattle.store_shared.proofs.AmongLemmas.{bar_goes, turn_goes}
use Rattle.store_shared.proofs.TurnedLemmas.{desk_name, refused_seen, turn_seen}
use Rattle.store_shared.proofs.shared.SharedDesk.turn_by.Goals as goal

pub section-stub-requires-clause-next : goal.section-stub-requires-clause-next
section-stub-requires-clause-next g c =
    let desk = c.args.self.now in
    let name = c.in-Ok.ensures.value.1
    ∙ desk_name desk.set desk.locks.items c.args.index c.index-lock.result.now desk.count c.requires.index desk.index desk.of_set c.index-lock.ensures in
    c.requires.next ∙ ap Section (sym (ap (λ (n : SlotName). n.index) name))

pub section-stub-requires-clause-slot_set : goal.section-stub-requires-clause-slot_set
section-stub-requires-clause-slot_set g c =
    let desk = c.args.self.now in
    let name = c.in-Ok.ensures.value.1
    ∙ desk_name desk.set desk.locks.items c.args.index c.index-lock.result.now desk.count c.requires.index desk.index desk.of_set c.index-lock.ensures in
    ap (λ (n : SlotName). n.set) name ∙ sym c.requires.set

pub returns-in-Ok-clause-steps : goal.returns-in-Ok-clause-steps
returns-in-Ok-clause-steps g c =
    let desk = c.args.self.now in
    let held = c.in-Ok.held in
    let to : TurnedSlot g.row.D.Denot g.row.A.Denot = record { slot = c.section-stub.new.slot } in
    let turn : Turn (TurnedSlot g.row.D.Denot g.row.A.Denot) = record { ticket = ticket_of held; from = held.value; to = to } in
    let name = c.in-Ok.ensures.value.1
    ∙ (desk_name desk.set desk.locks.items c.args.index c.index-lock.result.now desk.count c.requires.index desk.index desk.of_set c.index-lock.ensures
    ∙ ap (λ s. record { set = s; index = c.args.index }) (sym c.requires.set)) in
    turn_goes g.D.Drive g.A.Audit.entries g.A.Audit.count g.T.Teller.takes g.T.Teller.breaks (g.O.Op.set c.args.op.now) (g.O.Op.stands c.args.op.now)
    (g.O.Op.stands c.section-stub.new.self) (g.O.Op.step c.args.op.now) c.args.index c.section-stub.result turn (pass_seen c.args.own) (pass_seen c.give.result)
    (views g.D.Drive c.args.disks.now) (views g.D.Drive c.section-stub.new.disks) c.args.stubs.now.items c.keep.new.stubs.items
    (record { slot = name; ticket = c.in-Ok.ensures.value.0; later = c.in-Ok.ensures.ticket.0; unspent = c.in-Ok.ensures.spent })
    (turn_seen c.args.own c.give.result (turns_so_far held) (ticket_of held) (lent_to held) held.value to c.in-Ok.ensures.turns.0 c.in-Ok.ensures.turns.1
    c.give.ensures.turns c.give.ensures.pass.2 c.give.ensures.pass.3) c.requires.next c.section-stub.ensures.turns c.keep.ensures

pub returns-in-Err-clause-steps : goal.returns-in-Err-clause-steps
returns-in-Err-clause-steps g c =
    let back = c.in-Err.back in
    bar_goes g.D.Drive g.A.Audit.entries g.A.Audit.count g.T.Teller.takes g.T.Teller.breaks (g.O.Op.set c.args.op.now) (g.O.Op.stands c.args.op.now)
    (g.O.Op.stands c.barred.new.self) (g.O.Op.step c.args.op.now) c.args.index barred.Spent (pass_seen c.args.own) (pass_seen back)
    (views g.D.Drive c.args.disks.now) c.args.stubs.now.items c.args.stubs.now.items
    (refused_seen c.args.own back c.in-Err.ensures.err.5 c.in-Err.ensures.err.3 c.in-Err.ensures.err.1) c.requires.next c.barred.ensures.barred refl
