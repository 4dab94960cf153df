use Rattle.std.proofs.Common.{slice_index_or}
use Rattle.std.proofs.lemmas.List.{get_or_default}
use Rattle.object_ops.proofs.CallLemmas.{beside, called_at}
use Rattle.object_ops.proofs.clearing.remove_at.Goals as goal

pub returns-clause-call : goal.returns-clause-call
returns-clause-call g c =
    let k = c.args.index in
    let was = slice_index_or c.args.disks.now k c.index-disks-index.result in
    called_at g.D.Drive c.args.disks.now was c.remove_file.new.drive c.args.name.now k c.requires
    (get_or_default c.args.disks.now k was c.index-disks-index.result c.requires) c.remove_file.ensures

pub returns-clause-others : goal.returns-clause-others
returns-clause-others g c = λ other apart. beside g.D.Drive c.args.disks.now c.remove_file.new.drive c.remove_file.new.drive c.args.index other apart
