use Rattle.std.proofs.Common.{ℕ, List}
use Rattle.slot_core.proofs.GatherLemmas.{gather_step, iff_trans}
use Rattle.slot_core.proofs.name_list.gather.Goals as goal

pub loop-name-preserved : goal.loop-name-preserved
loop-name-preserved c = λ (name : List ℕ).
    iff_trans
    (gather_step c.loop-name.gathered c.insert.new.self c.in-Some.name tt c.pop.new.self.items c.loop-name.names.items c.in_ok-insert.ensures.updates
    c.in-Some.ensures.items name)
    (c.loop-name.invariant name)
