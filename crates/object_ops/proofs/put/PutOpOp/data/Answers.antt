use Rattle.std.proofs.Common.{◌≡◌, ◌∙◌, sym, subst}
use Rattle.drive_base.specs.View.{views}
use Rattle.receipts.specs.Registers.{key_slot}
use Rattle.op_steps.specs.declared.next.OpNext.TheVariants as next
use Rattle.object_ops.specs.Clearing.{files_left}
use Rattle.object_ops.specs.Put.{step_at}
use Rattle.object_ops.specs.PutStands.{ask_of}
use Rattle.object_ops.specs.PutTarget.{key_of}
use Rattle.object_ops.specs.declared.deed_op.DeedState.TheVariants as deed
use Rattle.object_ops.proofs.LeftLemmas.{all_within, some_left}
use Rattle.object_ops.proofs.PutLefts.{remove_left}
use Rattle.object_ops.proofs.PutOpLemmas.{remove_so}
use Rattle.object_ops.proofs.PutTurns.{data_work}
use Rattle.object_ops.proofs.put.PutOpOp.data.Goals as goal

pub remove-requires-clause-some : goal.remove-requires-clause-some
remove-requires-clause-some g c =
    let op = c.args.self.now in
    some_left (key_of op.target) op.clearing (deed.Told c.in-Told.field-0)
    (subst (λ s. step_at (key_of op.target) op.clearing s ≡ next.Data) c.in-Told.is (sym c.next.ensures.step ∙ c.in-Data.is))

pub remove-requires-clause-within : goal.remove-requires-clause-within
remove-requires-clause-within g c =
    let op = c.args.self.now in
    all_within op.set (key_slot (key_of op.target)) (files_left op.clearing) _ c.requires.disks op.due

pub work_on-requires-clause-state : goal.work_on-requires-clause-state
work_on-requires-clause-state g c =
    let op = c.args.self.now in
    data_work (key_of op.target) op.clearing op.state (sym c.next.ensures.step ∙ c.in-Data.is) c.in_default-state.not-Told

pub returns-in-Told-clause-left : goal.returns-in-Told-clause-left
returns-in-Told-clause-left g c next =
    let op = c.args.self.now in
    remove_left op.set op.long op.read op.clearing c.remove.new.self op.state c.in-Told.field-0 (views g.D.Drive c.args.disks.now)
    (views g.D.Drive c.remove.new.disks) c.in-Told.is c.remove.ensures.takes c.remove.ensures.removes

pub returns-in-Told-clause-calls : goal.returns-in-Told-clause-calls
returns-in-Told-clause-calls g c next =
    let op = c.args.self.now in
    remove_so (ask_of op) op.read op.clearing c.remove.new.self op.state c.in-Told.field-0 (views g.D.Drive c.args.disks.now)
    (views g.D.Drive c.remove.new.disks) c.in-Told.is op.due c.remove.ensures.removes
