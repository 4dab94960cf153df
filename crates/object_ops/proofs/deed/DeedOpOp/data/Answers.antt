use Rattle.std.proofs.Common.{◌∙◌, sym}
use Rattle.drive_base.specs.View.{views}
use Rattle.receipts.specs.Registers.{key_slot}
use Rattle.object_ops.specs.Clearing.{files_left}
use Rattle.object_ops.proofs.DeedOpLemmas.{data_so}
use Rattle.object_ops.proofs.LeftLemmas.{all_within, data_left, due_left, some_left}
use Rattle.object_ops.proofs.deed.DeedOpOp.data.Goals as goal

pub remove-requires-clause-some : goal.remove-requires-clause-some
remove-requires-clause-some g c = let op = c.args.self.now in some_left op.at op.clearing op.state (sym c.next.ensures.step ∙ c.in-Data.is)

pub remove-requires-clause-within : goal.remove-requires-clause-within
remove-requires-clause-within g c =
    let op = c.args.self.now in
    all_within op.set (key_slot op.at) (files_left op.clearing) _ c.requires.disks op.due

pub returns-clause-left : goal.returns-clause-left
returns-clause-left g c next =
    let op = c.args.self.now in
    data_left op.set op.clearing c.remove.new.self op.state (views g.D.Drive c.args.disks.now) (views g.D.Drive c.remove.new.disks) c.remove.ensures.takes
    c.remove.ensures.removes

pub returns-clause-calls : goal.returns-clause-calls
returns-clause-calls g c next =
    let op = c.args.self.now in
    data_so op.set op.at op.ask op.now op.clearing c.remove.new.self op.state (views g.D.Drive c.args.disks.now) (views g.D.Drive c.remove.new.disks) next op.due
    c.remove.ensures.removes

pub invariant_of-self-clause-due : goal.invariant_of-self-clause-due
invariant_of-self-clause-due g c =
    let op = c.args.self.now in
    due_left op.set (key_slot op.at) (files_left op.clearing) (files_left c.remove.new.self) (views g.D.Drive c.args.disks.now) (views g.D.Drive c.remove.new.disks)
    op.due c.remove.ensures.removes
