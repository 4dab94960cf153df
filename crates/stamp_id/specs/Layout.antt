-- The layout of a version id: a UUID of version 8 (RFC 9562, section 5.8), high byte first. The term is
-- custom_a (48 bits), the slot is custom_b (12 bits) and the sequence number is custom_c (62 bits).
use Rattle.std.specs.Prelude.{◌≡◌, ℕ, ◌+◌, ◌*◌, ◌/◌, ◌%◌, ◌^◌, ◌<◌, ◌≤◌, List, ◌++◌, length, take, drop}
use Rattle.std.specs.Int.{w64, to_be_bytes, from_be_bytes}

-- the first eight bytes as a number: the term, the version 8 in four bits, and the slot
abbrev pub high_word_of : ℕ → ℕ → ℕ
high_word_of term slot = term * 2 ^ 16 + 8 * 2 ^ 12 + slot

-- the last eight bytes as a number: the variant 10 in two bits, and the sequence number
abbrev pub low_word_of : ℕ → ℕ
low_word_of seq = 2 * 2 ^ 62 + seq

-- the sixteen bytes of a term, a slot and a sequence number
abbrev pub bytes_of : ℕ → ℕ → ℕ → List ℕ
bytes_of term slot seq = to_be_bytes w64 (high_word_of term slot) ++ to_be_bytes w64 (low_word_of seq)

-- the first eight bytes as a number
abbrev pub high_word : List ℕ → ℕ
high_word bytes = from_be_bytes w64 (take 8 bytes)

-- the bytes after the first eight as a number
abbrev pub low_word : List ℕ → ℕ
low_word bytes = from_be_bytes w64 (drop 8 bytes)

-- two words are those of an id: the version is 8, the variant 10, the slot below 64, and neither the
-- term nor the sequence number is zero
pub record AreIdWords (high low : ℕ) : Type 0 where
  pub version : high / 2 ^ 12 % 2 ^ 4 ≡ 8
  pub variant : low / 2 ^ 62 ≡ 2
  pub slot : high % 2 ^ 12 < 64
  pub term : 1 ≤ high / 2 ^ 16
  pub seq : 1 ≤ low % 2 ^ 62

-- sixteen bytes are an id
abbrev pub IsId : List ℕ → Type 0
IsId bytes = (length bytes ≡ 16) × AreIdWords (high_word bytes) (low_word bytes)
