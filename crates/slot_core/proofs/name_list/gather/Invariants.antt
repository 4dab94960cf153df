use Rattle.std.proofs.Common.{ℕ, List, vec_len}
use Rattle.std.specs.Prelude.{◌↔◌}
use Rattle.slot_core.proofs.GatherLemmas.{HasOrWill}
use Rattle.slot_core.proofs.name_list.gather.Given as goal

-- what is gathered and what is still to be gathered are together what they were
abbrev pub invariant-loop-name : goal.invariant-loop-name
invariant-loop-name l = (name : List ℕ) → HasOrWill l.gathered l.names.items name ↔ HasOrWill l.initial.gathered l.initial.names.items name

abbrev pub decreases-loop-name : goal.decreases-loop-name
decreases-loop-name l = vec_len l.names
