use Rattle.std.proofs.Common.{◌≡◌, length}
use Rattle.std.specs.Prelude.{All}
use Rattle.ostore.specs.Sharing.{IsRowTo}
use Rattle.ostore.proofs.sharing.rows_of.Given as goal

-- as many rows as were counted, each with ways to all drives
abbrev pub invariant-loop : goal.invariant-loop
invariant-loop g l = record {
  count : length l.rows.items ≡ l.counter;
  rows : All (IsRowTo g.D.Drive g.D.Share.root l.disks) l.rows.items;
}
