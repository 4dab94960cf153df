use Rattle.std.proofs.Common.{◌≡◌, length}
use Rattle.std.specs.Prelude.{All}
use Rattle.ostore.specs.Locked.{FailsUnlocked}
use Rattle.ostore.proofs.folders.row.Given as goal

-- as many drives as were counted, all of which fail where the root isn't locked
abbrev pub invariant-loop-index : goal.invariant-loop-index
invariant-loop-index g l = record {
  count : length l.row.items ≡ l.index;
  locked : All (FailsUnlocked l.is_locked) l.row.items;
}
