-- Sets of drives of an erasure set, as masks: bit k stands for the drive of index k.
use Rattle.std.specs.Prelude.{◌≡◌, ◌↔◌, ◌⊎◌, ◌<◌, ◌≤◌, ◌+◌, ◌^◌, ℕ, Bool, nat_lt, bit_and, count_by}
use Rattle.std.specs.Int.{IsBitSet}
use Rattle.std.specs.List.{range_with_len}

-- whether the drive of this index is in the set
abbrev pub is_in : ℕ → ℕ → Bool
is_in mask k = nat_lt 0 (bit_and mask (2 ^ k))

-- how many of the drives of index 0 to n - 1 are in the set
abbrev pub count_in : ℕ → ℕ → ℕ
count_in mask n = count_by (is_in mask) (range_with_len 0 n)

-- the set has the drives of the old one and this one
abbrev pub HasAlso : ℕ → ℕ → ℕ → Type 0
HasAlso old index new = (k : ℕ) → IsBitSet new k ↔ (IsBitSet old k ⊎ (k ≡ index))

-- the set has the drives that are in one or the other
abbrev pub AreInEither : ℕ → ℕ → ℕ → Type 0
AreInEither one other new = (k : ℕ) → IsBitSet new k ↔ (IsBitSet one k ⊎ IsBitSet other k)

-- two sets of more drives together than there are have a drive in common
abbrev pub LargeSetsMeet : Type 0
LargeSetsMeet = (n one other : ℕ) → n < count_in one n + count_in other n → (k : ℕ) × (k < n) × IsBitSet one k × IsBitSet other k

-- a set within another has no more drives
abbrev pub SmallerSetsCountLess : Type 0
SmallerSetsCountLess = (n one other : ℕ) → ((k : ℕ) → k < n → IsBitSet one k → IsBitSet other k) → count_in one n ≤ count_in other n

-- a set without this drive has one more with it
abbrev pub OneMoreCountsOne : Type 0
OneMoreCountsOne = (n old index new : ℕ) → index < n → (IsBitSet old index → ⊥) → HasAlso old index new → count_in new n ≡ count_in old n + 1

-- the drives in a set and those that are not are all drives
abbrev pub OthersAreTheRest : Type 0
OthersAreTheRest = (n one other : ℕ) → ((k : ℕ) → k < n → IsBitSet other k ↔ (IsBitSet one k → ⊥)) → count_in one n + count_in other n ≡ n
