-- The numbers of an erasure set.
use Rattle.std.specs.Prelude.{ℕ, ◌+◌, ◌-◌, ◌==◌, nat_le, if◌then◌else◌}

-- how many drives have data blocks, of n drives with p of parity
abbrev pub data_drives : ℕ → ℕ → ℕ
data_drives n p = n - p

-- how many drives must take a write: as many as are read, or one more where half the drives are parity
abbrev pub write_drives : ℕ → ℕ → ℕ
write_drives n p = if data_drives n p == p then data_drives n p + 1 else data_drives n p

-- the parity that a set of n drives has unless it is said otherwise
abbrev pub usual_parity_of : ℕ → ℕ
usual_parity_of n = if nat_le n 5 then 2 else if nat_le n 7 then 3 else 4
