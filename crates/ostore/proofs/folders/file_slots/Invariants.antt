use Rattle.std.proofs.Common.{◌≡◌, length}
use Rattle.std.specs.Prelude.{All}
use Rattle.ostore.specs.Locked.{LanesFailUnlocked}
use Rattle.ostore.specs.Rigs.{HasLanes}
use Rattle.ostore.proofs.folders.file_slots.Given as goal

-- as many slots as were counted, all of them with their lanes, which fail where the root isn't locked
abbrev pub invariant-loop-slot : goal.invariant-loop-slot
invariant-loop-slot g l = record {
  count : length l.slots.items ≡ l.slot;
  lanes : All (HasLanes l.drives) l.slots.items;
  locked : All (LanesFailUnlocked l.is_locked) l.slots.items;
}
