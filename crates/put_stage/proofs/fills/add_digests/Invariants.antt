use Rattle.std.proofs.Common.{◌≡◌, ◌*◌, ◌<◌, ◌≤◌, ◌++◌, ℕ, [], drop, slice_index_or, take}
use Rattle.std.specs.List.{concat}
use Rattle.put_stage.specs.StripeBlocks.{all_bytes}
use Rattle.put_stage.proofs.fills.add_digests.Given as goal

-- the tables so far have their digests, the others are as they were, and the digests of these are left
abbrev pub invariant-loop-table : goal.invariant-loop-table
invariant-loop-table l = record {
  rest : l.rest ≡ drop (l.count * l.table-index) l.digests;
  added : (k : ℕ) → k < l.table-index
      → slice_index_or (all_bytes l.tables) k [] ≡ slice_index_or (all_bytes l.initial.tables) k [] ++ concat (take l.count (drop (l.count * k) l.digests));
  others : (k : ℕ) → l.table-index ≤ k → slice_index_or (all_bytes l.tables) k [] ≡ slice_index_or (all_bytes l.initial.tables) k [];
}
