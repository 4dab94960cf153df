use Rattle.std.proofs.Common.{◌≡◌, ℕ, ◌+◌, ◌*◌, ◌<◌, length, slice_index}
use Rattle.gf256.specs.Field.{product}
use Rattle.code_lanes.proofs.tables.table_of.Given as goal

abbrev pub invariant-loop-n : goal.invariant-loop-n
invariant-loop-n l = record {
  long : length l.table ≡ 32;
  low : (n : ℕ) → n < l.n → slice_index l.table n ≡ product l.element n;
  high : (n : ℕ) → n < l.n → slice_index l.table (16 + n) ≡ product l.element (16 * n);
}
