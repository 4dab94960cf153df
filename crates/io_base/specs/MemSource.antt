-- What a `MemSource` shows.
use Rattle.std.specs.Prelude.{◌≡◌, ℕ, List, length, drop, take, min, Contains, Result, Ok, Err}
use Rattle.fault_base.specs.Counts.{count_after}
use Rattle.io_base.specs.declared.fault.IoFault.TheVariants.{Failed}
use Rattle.io_base.specs.Trail.{TakeCall, taken_more}

-- the bytes not yet taken, the numbers of the calls that fail, the number of the next call, the
-- count of faults, and the takes that were asked of it
pub record MemorySource : Type 0 where
  pub left : List ℕ
  pub fails : List ℕ
  pub calls : ℕ
  pub faults : ℕ
  pub takes : List TakeCall

-- the call gave the first n bytes that were left, as many as there is room for
pub record GivesFront (n : ℕ) (into : List ℕ) (old new : MemorySource) : Type 0 where
  pub passes : ¬ Contains old.fails old.calls
  pub count : n ≡ min (length into) (length old.left)
  pub bytes : take n into ≡ take n old.left
  pub after : new ≡ record old { left = drop n old.left; calls = count_after old.calls; takes = taken_more old.takes (Ok n) into }

-- the call is one of those that fail, and gave nothing
pub record GivesNothing (into : List ℕ) (old new : MemorySource) : Type 0 where
  pub listed : Contains old.fails old.calls
  pub after : new ≡ record old { calls = count_after old.calls; faults = count_after old.faults; takes = taken_more old.takes (Err Failed) into }

-- exactly what `take(into)` does
abbrev pub GivesInOrder : {E : Type 0} → Result ℕ E → List ℕ → MemorySource → MemorySource → Type 0
GivesInOrder (Ok n) into old new = GivesFront n into old new
GivesInOrder (Err _) into old new = GivesNothing into old new
