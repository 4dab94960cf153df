-- The end of a padded message: what the 64-byte chunks after its last whole one hold.
use Rattle.std.specs.Prelude.{ℕ, ◌+◌, ◌*◌, ◌/◌, ◌%◌, List, ◌++◌, length, drop}
use Rattle.sha2.specs.Sha256.{padding}

-- the bytes after a message's last whole chunk, and its padding
abbrev pub end_of : List ℕ → List ℕ
end_of message = drop (length message / 64 * 64) message ++ padding (length message)

-- how many bytes they are, for a message of n bytes: one chunk or two
abbrev pub end_length : ℕ → ℕ
end_length n = (n % 64 + 72) / 64 * 64
