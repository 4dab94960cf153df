-- Counts of faults, which stand still at the last value of a `u64`.
use Rattle.std.specs.Prelude.{◌⊎◌, ◌+◌, ◌<◌, ◌≤◌, ℕ, min}

-- the last value of a count
abbrev pub last_count : ℕ
last_count = 18446744073709551615

-- the count after one more
abbrev pub count_after : ℕ → ℕ
count_after n = min (n + 1) last_count

-- the count rose, or it stands at its last value
abbrev pub Rose : ℕ → ℕ → Type 0
Rose old new = (old ≤ new) × ((old < new) ⊎ (last_count ≤ new))

-- a count that rose has risen still after more faults
abbrev pub RoseIsKept : Type 0
RoseIsKept = (first mid last : ℕ) → Rose first mid → mid ≤ last → Rose first last

-- a count that rose has risen also since an earlier moment
abbrev pub RoseSinceBefore : Type 0
RoseSinceBefore = (first mid last : ℕ) → first ≤ mid → Rose mid last → Rose first last
