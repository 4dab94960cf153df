use Rattle.std.proofs.Common.{◌∙◌, ap, sym}
use Rattle.std.proofs.lemmas.List.{length-map}
use Rattle.drive_base.specs.View.{view, views}
use Rattle.op_steps.specs.Store.{slots_seen}
use Rattle.op_steps.specs.declared.next.OpNext.TheVariants.{Section}
use Rattle.op_steps.proofs.SlotLemmas.{order_index, order_set}
use Rattle.op_steps.proofs.TurnLemmas.{section_goes, seen_at, seen_order}
use Rattle.op_steps.proofs.turning.section_at.Goals as goal

pub section-requires-clause-next : goal.section-requires-clause-next
section-requires-clause-next g c = c.requires.next ∙ ap Section (sym (order_index (g.O.Op.set c.args.op.now) (slots_seen g.A.Audit.entries g.A.Audit.count c.args.slots.now)
    (views g.D.Drive c.args.disks.now) c.args.index _ c.requires.order
    (seen_at g.A.Audit.entries g.A.Audit.count c.args.slots.now c.args.index c.index-slots-index.result c.requires.index)))

pub section-requires-clause-slot_set : goal.section-requires-clause-slot_set
section-requires-clause-slot_set g c = order_set (g.O.Op.set c.args.op.now) (slots_seen g.A.Audit.entries g.A.Audit.count c.args.slots.now)
    (views g.D.Drive c.args.disks.now) c.args.index _ c.requires.order
    (seen_at g.A.Audit.entries g.A.Audit.count c.args.slots.now c.args.index c.index-slots-index.result c.requires.index)

pub returns-clause-order : goal.returns-clause-order
returns-clause-order g c = seen_order g.A.Audit.entries g.A.Audit.count (g.O.Op.set c.args.op.now) c.args.slots.now c.args.index c.index-slots-index.result
    c.section.new.slot (views g.D.Drive c.args.disks.now) (views g.D.Drive c.section.new.disks) c.requires.index c.requires.order c.section.ensures.numbers
    (length-map c.section.new.disks (view g.D.Drive) ∙ (c.section.ensures.disks ∙ sym (length-map c.args.disks.now (view g.D.Drive))))

pub returns-clause-sections : goal.returns-clause-sections
returns-clause-sections g c = section_goes g.A.Audit.entries g.A.Audit.count g.D.Drive (g.O.Op.stands c.args.op.now)
    (g.O.Op.stands c.section.new.self) (g.O.Op.set c.args.op.now) c.args.slots.now c.args.index c.index-slots-index.result c.section.new.slot c.section.result
    (views g.D.Drive c.args.disks.now) (views g.D.Drive c.section.new.disks) c.requires.index c.requires.order c.section.ensures.turns
