use Rattle.std.proofs.Common.{◌∙◌, length}
use Rattle.object_ops.proofs.CallLemmas.{first_within, removes_one}
use Rattle.object_ops.proofs.clearing.Clearing.remove.Goals as goal

pub remove_at-requires : goal.remove_at-requires
remove_at-requires g c = first_within c.args.self.now.queue.items c.pop_front.new.self.items c.in-Some.removal (length c.args.disks.now) c.in-Some.ensures.items
    c.requires.within

pub returns-clause-removes : goal.returns-clause-removes
returns-clause-removes g c =
    let removal = c.in-Some.removal in
    let call = c.remove_at.ensures in
    removes_one g.D.Drive removal c.args.self.now.queue.items c.pop_front.new.self.items c.as_str.result.now c.args.disks.now c.remove_at.new.disks
    c.in-Some.ensures.items
    (first_within c.args.self.now.queue.items c.pop_front.new.self.items removal (length c.args.disks.now) c.in-Some.ensures.items c.requires.within)
    (c.as_str.ensures.value ∙ removal.named) call.disks call.call call.others
