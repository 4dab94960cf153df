use Rattle.std.proofs.Common.{◌≡◌, length}
use Rattle.std.specs.Prelude.{All}
use Rattle.ostore.specs.Fresh.{IsFreshDrive}
use Rattle.ostore.proofs.memory.fresh_drives.Given as goal

-- as many drives as were counted, all of them fresh
abbrev pub invariant-loop : goal.invariant-loop
invariant-loop l = record {
  count : length l.drives.items ≡ l.counter;
  fresh : All IsFreshDrive l.drives.items;
}
