use Rattle.std.proofs.Common.{◌≡◌, ◌+◌, ◌≤◌, ◌<◌, ◌++◌, ℕ, List, length, map, reverse}
use Rattle.std.specs.Prelude.{All, Vec, vec_capacity, vec_len}
use Rattle.std.specs.Global.{Global}
use Rattle.store_shared.specs.Parting.{parts_at}
use Rattle.store_shared.specs.SharedPasses.{FitsDesk, drives_of, set_held, shared_holds}
use Rattle.ostore.specs.Workers.{AreDealt, FitsEach, HasLength, ways_of}
use Rattle.ostore.proofs.dealing.deal.Given as goal

-- a pass was cut off for each row that is gone, and has one part of each lock and that row
abbrev pub invariant-loop-row : goal.invariant-loop-row
invariant-loop-row g l = record {
  rows : All (HasLength (set_held (shared_holds l.rest)).drives) l.rows.items;
  dealt : AreDealt l.initial.rest l.passes.items l.rest;
  fits : FitsDesk l.desk (shared_holds l.rest);
  fit : FitsEach l.desk l.passes.items;
  parts : (k : ℕ) → k < 64 → parts_at (shared_holds l.rest) k + length l.passes.items ≡ 65536;
  count : length l.passes.items + length l.rows.items ≡ length l.initial.rows.items;
  gone : List (Vec g.row.D.Denot Global);
  are : l.initial.rows.items ≡ l.rows.items ++ gone;
  ways : map drives_of l.passes.items ≡ reverse (map ways_of gone);
  room : vec_len l.passes + vec_len l.rows ≤ vec_capacity l.passes;
}

abbrev pub decreases-loop-row : goal.decreases-loop-row
decreases-loop-row g l = vec_len l.rows
