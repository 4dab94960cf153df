use Rattle.std.proofs.Common.{List, Result, subst, sym}
use Rattle.stamp_id.specs.declared.version.VersionId.{VersionId}
use Rattle.slot_core.specs.Views.{holding_of, pins_of}
use Rattle.slot_core.specs.declared.slot.SlotFault.{SlotFault}
use Rattle.op_steps.specs.Store.{slot_seen}
use Rattle.object_ops.specs.Clearing.{IsPlannedOf, files_of}
use Rattle.object_ops.proofs.OrderLemmas.{planned_due, planned_few}
use Rattle.object_ops.proofs.TrashLemmas.{takes_trash}
use Rattle.object_ops.proofs.clearing.Clearing.take.Goals as goal

pub returns-clause-due : goal.returns-clause-due
returns-clause-due g c = planned_due c.args.set.now c.args.index c.answer_of-answer.result (files_of c.planned.result.items) c.planned.ensures

pub returns-clause-few : goal.returns-clause-few
returns-clause-few g c = planned_few c.args.set.now c.args.index (pins_of c.args.slot.now) (holding_of c.args.slot.now) (holding_of c.take_trash.new.self)
    c.take_trash.result.answer (files_of c.planned.result.items) c.take_trash.ensures.holds
    (subst (λ (a : Result (List VersionId) SlotFault). IsPlannedOf c.args.set.now c.args.index a (files_of c.planned.result.items)) c.answer_of-answer.ensures c.planned.ensures)

pub returns-clause-trash : goal.returns-clause-trash
returns-clause-trash g c =
    let take = c.take_trash.ensures in
    takes_trash g.D.Drive 16 (pins_of c.args.slot.now) (slot_seen g.A.Audit.entries g.A.Audit.count c.args.slot.now)
    (slot_seen g.A.Audit.entries g.A.Audit.count c.take_trash.new.self) c.take_trash.result.answer c.take_trash.result.stub c.args.set.now
    (files_of c.planned.result.items)
    (record { turns = take.turns; stubless = take.stubless; holds = take.holds; leaves = take.leaves })
    (subst (λ i. IsPlannedOf c.args.set.now i c.take_trash.result.answer (files_of c.planned.result.items)) (sym c.requires.index)
    (subst (λ (a : Result (List VersionId) SlotFault). IsPlannedOf c.args.set.now c.args.index a (files_of c.planned.result.items)) c.answer_of-answer.ensures c.planned.ensures))
