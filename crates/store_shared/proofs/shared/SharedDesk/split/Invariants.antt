use Rattle.std.proofs.Common.{◌≤◌}
use Rattle.std.specs.Prelude.{vec_capacity}
use Rattle.store_shared.specs.SharedPasses.{locks_of}
use Rattle.store_shared.proofs.PartingLemmas.{CutSoFar}
use Rattle.store_shared.proofs.shared.SharedDesk.split.Given as goal

-- so many passes were cut in two, and there is room for the others
abbrev pub invariant-loop-k : goal.invariant-loop-k
invariant-loop-k g l = record {
  cut : CutSoFar (locks_of l.self) l.k l.initial.passes.items l.passes.items l.others.items;
  room : 64 ≤ vec_capacity l.others;
}
