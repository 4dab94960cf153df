-- What a `MemDoor` shows.
use Rattle.std.specs.Prelude.{◌≡◌, ◌<◌, ◌≤◌, ◌+◌, ℕ, Bool, true, false, List, [], ◌∷◌, ◌++◌, length, drop, Contains, Option, None, Some, Result, Ok, Err}
use Rattle.fault_base.specs.Counts.{count_after}
use Rattle.io_base.specs.MemSink.{MemorySink}
use Rattle.io_base.specs.MemSource.{MemorySource}

-- the two ends of a connection in memory
abbrev pub MemoryPair : Type 0
MemoryPair = MemorySource × MemorySink

-- all pairs that it was made with, how many of them it gave, those that came back, the numbers of the calls that fail,
-- the number of the next call, the count of faults, and whether it has answered that it is over
pub record MemoryDoor : Type 0 where
  pub pairs : List MemoryPair
  pub given : ℕ
  pub returned : List MemoryPair
  pub fails : List ℕ
  pub calls : ℕ
  pub faults : ℕ
  pub over : Bool

-- the call gave the pair that was next
pub record GivesPair (pair : MemoryPair) (old new : MemoryDoor) : Type 0 where
  pub passes : ¬ Contains old.fails old.calls
  pub found : drop old.given old.pairs ≡ pair ∷ drop (old.given + 1) old.pairs
  pub not_over : old.over ≡ false
  pub after : new ≡ record old { given = old.given + 1; calls = count_after old.calls }

-- the call found that all pairs were given
pub record GivesNone (old new : MemoryDoor) : Type 0 where
  pub passes : ¬ Contains old.fails old.calls
  pub spent : old.given ≡ length old.pairs
  pub after : new ≡ record old { over = true; calls = count_after old.calls }

-- the call is one of those that fail
pub record FailsHere (old new : MemoryDoor) : Type 0 where
  pub listed : Contains old.fails old.calls
  pub after : new ≡ record old { calls = count_after old.calls; faults = count_after old.faults }

-- exactly what `next()` does
abbrev pub GivesInTurn : {E : Type 0} → Result (Option MemoryPair) E → MemoryDoor → MemoryDoor → Type 0
GivesInTurn (Ok (Some pair)) old new = GivesPair pair old new
GivesInTurn (Ok None) old new = GivesNone old new
GivesInTurn (Err _) old new = FailsHere old new

-- exactly what `back(pair)` does: it keeps the pair where one is owed, and drops it else
pub record KeepsOwed (pair : MemoryPair) (old new : MemoryDoor) : Type 0 where
  pub kept : length old.returned < old.given → new ≡ record old { returned = old.returned ++ pair ∷ [] }
  pub dropped : old.given ≤ length old.returned → new ≡ old
