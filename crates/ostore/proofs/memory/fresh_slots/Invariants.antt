use Rattle.std.proofs.Common.{◌≡◌, length}
use Rattle.std.specs.Prelude.{All}
use Rattle.ostore.specs.Fresh.{IsFreshSlot}
use Rattle.ostore.specs.Rigs.{HasLanes}
use Rattle.ostore.proofs.memory.fresh_slots.Given as goal

-- as many slots as were counted, all of them fresh and with their lanes
abbrev pub invariant-loop : goal.invariant-loop
invariant-loop l = record {
  count : length l.slots.items ≡ l.counter;
  lanes : All (HasLanes l.drives) l.slots.items;
  fresh : All IsFreshSlot l.slots.items;
}
