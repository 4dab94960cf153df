use Rattle.std.proofs.Common.{◌∙◌, ◌++◌, ◌<◌, ap, get_or, length, option_to_list, refl, arith}
use Rattle.std.proofs.lemmas.List.{length-map}
use Rattle.drive_base.specs.View.{views}
use Rattle.receipts.specs.declared.barred.Barred.TheVariants as barred
use Rattle.op_steps.specs.Store.{slot_seen, slots_seen}
use Rattle.op_steps.proofs.TurnLemmas.{bar_steps, seen_at, turn_steps}
use Rattle.op_steps.proofs.turning.turn.Goals as goal

pub returns-then-turns-clause-steps : goal.returns-then-turns-clause-steps
returns-then-turns-clause-steps g c =
    let long = length-map c.args.slots.now (slot_seen g.A.Audit.entries g.A.Audit.count) in
    let count = c.requires.order.count in
    let below = c.requires.index in
    let inside : c.args.index < length c.args.slots.now = omega (arith, long, count, below) in
    let last = c.if-turns.true in
    let told = c.turns.ensures in
    bar_steps g.D.Drive g.T.Teller.takes g.T.Teller.breaks (g.O.Op.stands c.args.op.now) (g.O.Op.stands c.barred.new.self) (g.O.Op.set c.args.op.now) (g.O.Op.step c.args.op.now)
    c.args.index barred.Spent (slot_seen g.A.Audit.entries g.A.Audit.count (get_or c.args.slots.now c.args.index c.index-slots-index.result))
    (slots_seen g.A.Audit.entries g.A.Audit.count c.args.slots.now) (views g.D.Drive c.args.disks.now) c.args.stubs.now.items c.args.stubs.now.items
    (seen_at g.A.Audit.entries g.A.Audit.count c.args.slots.now c.args.index c.index-slots-index.result inside)
    (omega (arith, last, told)) c.requires.next c.barred.ensures.barred refl

pub returns-then-is_err-clause-steps : goal.returns-then-is_err-clause-steps
returns-then-is_err-clause-steps g c =
    let long = length-map c.args.slots.now (slot_seen g.A.Audit.entries g.A.Audit.count) in
    let count = c.requires.order.count in
    let below = c.requires.index in
    let inside : c.args.index < length c.args.slots.now = omega (arith, long, count, below) in
    bar_steps g.D.Drive g.T.Teller.takes g.T.Teller.breaks (g.O.Op.stands c.args.op.now) (g.O.Op.stands c.barred-then-is_err.new.self) (g.O.Op.set c.args.op.now)
    (g.O.Op.step c.args.op.now) c.args.index barred.NoMemory
    (slot_seen g.A.Audit.entries g.A.Audit.count (get_or c.args.slots.now c.args.index c.index-slots-index.result))
    (slots_seen g.A.Audit.entries g.A.Audit.count c.args.slots.now) (views g.D.Drive c.args.disks.now) c.args.stubs.now.items c.reserve.new.self.items
    (seen_at g.A.Audit.entries g.A.Audit.count c.args.slots.now c.args.index c.index-slots-index.result inside)
    tt c.requires.next c.barred-then-is_err.ensures.barred c.reserve.ensures.items

pub returns-clause-steps : goal.returns-clause-steps
returns-clause-steps g c = turn_steps g.D.Drive g.T.Teller.takes g.T.Teller.breaks (g.O.Op.stands c.args.op.now) (g.O.Op.stands c.section_at-stub.new.op)
    (g.O.Op.set c.args.op.now) (g.O.Op.step c.args.op.now) c.args.index c.section_at-stub.result (slots_seen g.A.Audit.entries g.A.Audit.count c.args.slots.now)
    (slots_seen g.A.Audit.entries g.A.Audit.count c.section_at-stub.new.slots) (views g.D.Drive c.args.disks.now)
    (views g.D.Drive c.section_at-stub.new.disks) c.args.stubs.now.items c.keep.new.stubs.items c.requires.next c.section_at-stub.ensures.sections
    (c.keep.ensures ∙ ap (λ items. items ++ option_to_list c.section_at-stub.result) c.reserve.ensures.items)
