use Rattle.store_shared.specs.SharedPasses.{locks_of}
use Rattle.store_shared.proofs.PartingLemmas.{JoinedSoFar}
use Rattle.store_shared.proofs.shared.SharedDesk.join.Given as goal

-- so many pairs of passes were joined
abbrev pub invariant-loop-k : goal.invariant-loop-k
invariant-loop-k g l = JoinedSoFar (locks_of l.self) l.k l.initial.passes.items l.initial.gone.items l.passes.items l.gone.items
