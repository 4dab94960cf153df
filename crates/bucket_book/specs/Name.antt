-- The names of buckets (Amazon S3, general purpose bucket naming rules).
use Rattle.std.specs.Prelude.{◌≡◌, ◌⊎◌, ◌==◌, Bool, ℕ, ◌+◌, ◌-◌, ◌<◌, ◌≤◌, List, ◌∷◌, ◌++◌, length, slice_index}
use Rattle.std.specs.List.{All, position_or_len}

-- `a` to `z`, or `0` to `9`
abbrev pub IsLetterOrDigit : ℕ → Type 0
IsLetterOrDigit byte = ((97 ≤ byte) × (byte ≤ 122)) ⊎ ((48 ≤ byte) × (byte ≤ 57))

-- the byte of a dot
abbrev pub dot : ℕ
dot = 46

-- whether a byte is that of a dot
abbrev pub is_dot : ℕ → Bool
is_dot byte = byte == dot

-- The first dot of a text is at this place.
pub record IsDotAt (text : List ℕ) (at : ℕ) : Type 0 where
  pub first : at ≡ position_or_len is_dot text
  pub within : at < length text

-- a letter, a digit, a dot or a hyphen
abbrev pub IsNameByte : ℕ → Type 0
IsNameByte byte = IsLetterOrDigit byte ⊎ ((byte ≡ dot) ⊎ (byte ≡ 45))

-- two dots side by side
abbrev pub HasTwoDots : List ℕ → Type 0
HasTwoDots name = (k : ℕ) × (k + 1 < length name) × (slice_index name k ≡ dot) × (slice_index name (k + 1) ≡ dot)

-- one to three digits
pub record IsGroup (group : List ℕ) : Type 0 where
  pub some : 1 ≤ length group
  pub few : length group ≤ 3
  pub digits : All (λ byte. (48 ≤ byte) × (byte ≤ 57)) group

-- a group, a dot and these bytes
pub record BeginsWithGroup (text rest : List ℕ) : Type 0 where
  pub group : List ℕ
  pub is_group : IsGroup group
  pub is : text ≡ group ++ dot ∷ rest

-- four groups with dots between, as an address of IPv4
pub record IsAddress (name : List ℕ) : Type 0 where
  pub second : List ℕ
  pub third : List ℕ
  pub fourth : List ℕ
  pub before_second : BeginsWithGroup name second
  pub before_third : BeginsWithGroup second third
  pub before_fourth : BeginsWithGroup third fourth
  pub ends : IsGroup fourth

-- A bucket's name has 3 to 63 letters, digits, dots and hyphens, begins and ends with a letter or digit, has no two dots
-- side by side, and is no address.
pub record IsBucketName (name : List ℕ) : Type 0 where
  pub long : 3 ≤ length name
  pub short : length name ≤ 63
  pub bytes : All IsNameByte name
  pub begins : IsLetterOrDigit (slice_index name 0)
  pub ends : IsLetterOrDigit (slice_index name (length name - 1))
  pub dots : HasTwoDots name → ⊥
  pub no_address : IsAddress name → ⊥
