use Rattle.std.proofs.Common.{◌≡◌, [], length}
use Rattle.std.specs.Prelude.{All}
use Rattle.get_read.proofs.places.no_tables.Given as goal

-- as many tables as drives were counted, all of them empty
abbrev pub invariant-loop : goal.invariant-loop
invariant-loop l = record {
  count : length l.tables.items ≡ l.counter;
  empty : All (λ table. table.items ≡ []) l.tables.items;
}
