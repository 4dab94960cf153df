-- The numbers that a slot draws, and when they are spent.
use Rattle.std.specs.Prelude.{◌≡◌, ◌⊎◌, ℕ, ◌+◌, ◌<◌, ◌≤◌, ◌^◌}
use Rattle.slot_rules.specs.declared.site.Drawn.{Drawn}
use Rattle.slot_core.specs.Views.{SlotNumbers}

-- a section one turn later: the slot's set, index and term stay, and its numbers only rise. It draws three at most: a ballot for
-- a change that it completes, and a number and a ballot for one of its own. Each of the two is written twice on 16 lanes at most, under a loose name each
-- time
pub record NumbersMove (old new : SlotNumbers) : Type 0 where
  pub set : new.set ≡ old.set
  pub index : new.index ≡ old.index
  pub term : new.term ≡ old.term
  pub turns : new.turns ≡ old.turns + 1
  pub seq : old.seq ≤ new.seq
  pub few_seq : new.seq ≤ old.seq + 3
  pub count : old.count ≤ new.count
  pub few_count : new.count ≤ old.count + 64

-- so many numbers are drawn at most, and so many loose names used
pub record Draws (numbers names : ℕ) (old new : Drawn) : Type 0 where
  pub seq : old.seq ≤ new.seq
  pub few_seq : new.seq ≤ old.seq + numbers
  pub count : old.count ≤ new.count
  pub few_count : new.count ≤ old.count + names

-- an own change is written under this number, and so many loose names are used at most
pub record DrawsOwn (number names : ℕ) (old new : Drawn) : Type 0 where
  pub seq : new.seq ≡ number
  pub count : old.count ≤ new.count
  pub few_count : new.count ≤ old.count + names

-- so many numbers can still be drawn, and so many loose names used
pub record HasLeft (numbers names : ℕ) (drawn : Drawn) : Type 0 where
  pub seq : drawn.seq + numbers < 2 ^ 62
  pub count : drawn.count + names < 2 ^ 64

-- the last sequence number at which a section may still begin, 2^62 - 16,384: no section draws more than 16,383
abbrev pub last_seq : ℕ
last_seq = 4611686018427371520

-- the last counter of loose names at which a section may still begin, 2^63 - 1,048,576
abbrev pub last_count : ℕ
last_count = 9223372036853727232

-- the numbers of a slot are spent: sections that may draw some are refused
abbrev pub AreSpent : SlotNumbers → Type 0
AreSpent numbers = (last_seq < numbers.seq) ⊎ (last_count < numbers.count)

-- they aren't, where so many were drawn
pub record AreUnspent (drawn : Drawn) : Type 0 where
  pub seq : drawn.seq ≤ last_seq
  pub count : drawn.count ≤ last_count

-- the numbers of a slot that last drew this one
abbrev pub with_seq : SlotNumbers → ℕ → SlotNumbers
with_seq numbers seq = record { set = numbers.set; index = numbers.index; term = numbers.term; turns = numbers.turns; seq = seq; count = numbers.count }
