-- What a `MemSink` shows.
use Rattle.std.specs.Prelude.{◌≡◌, ◌⊎◌, ◌++◌, ℕ, List, Contains, Result, Ok, Err}
use Rattle.fault_base.specs.Counts.{count_after}
use Rattle.io_base.specs.declared.fault.IoFault.TheVariants.{Failed}
use Rattle.io_base.specs.Trail.{GiveCall, given_more}

-- the bytes given, the numbers of the calls that fail, the number of the next call, the count of
-- faults, how many of these were for want of memory, and the gives that were asked of it
pub record MemorySink : Type 0 where
  pub given : List ℕ
  pub fails : List ℕ
  pub calls : ℕ
  pub faults : ℕ
  pub starved : ℕ
  pub gives : List GiveCall

-- the call kept all the bytes
pub record KeepsAll (bytes : List ℕ) (old new : MemorySink) : Type 0 where
  pub passes : ¬ Contains old.fails old.calls
  pub after : new ≡ record old { given = old.given ++ bytes; calls = count_after old.calls; gives = given_more old.gives bytes (Ok tt) }

-- the sink after a call that failed and kept nothing
abbrev pub failed : List ℕ → MemorySink → MemorySink
failed bytes old = record old { calls = count_after old.calls; faults = count_after old.faults; gives = given_more old.gives bytes (Err Failed) }

-- the call is one of those that fail
pub record Listed (bytes : List ℕ) (old new : MemorySink) : Type 0 where
  pub listed : Contains old.fails old.calls
  pub after : new ≡ failed bytes old

-- the call is none of those, and found no memory
pub record Starved (bytes : List ℕ) (old new : MemorySink) : Type 0 where
  pub passes : ¬ Contains old.fails old.calls
  pub after : new ≡ record (failed bytes old) { starved = count_after old.starved }

-- exactly what `give(bytes)` does
abbrev pub KeepsInOrder : {A E : Type 0} → Result A E → List ℕ → MemorySink → MemorySink → Type 0
KeepsInOrder (Ok _) bytes old new = KeepsAll bytes old new
KeepsInOrder (Err _) bytes old new = Listed bytes old new ⊎ Starved bytes old new
