-- Fields that records of several kinds have.
use Rattle.std.specs.Prelude.{ℕ, List, ◌++◌, length, Option, Some, None, Bool, ◌==◌, nat_lt, if◌then◌else◌}
use Rattle.std.specs.Int.{Width, w8}
use Rattle.field_reader.specs.Format.{Format, ◌>>=◌, done, field, number, with_rule}
use Rattle.field_reader.specs.Spelling.{number_bytes}

-- the one format number
abbrev pub is_format : ℕ → Bool
is_format format = format == 1

-- a byte that says which format follows: it is 1
unfoldable pub format_number : Format ℕ
format_number = with_rule is_format (number w8)

-- a length, and so many bytes
unfoldable pub counted : Width → Format (List ℕ)
counted w = number w >>= λ size. field size

-- bytes behind their length
abbrev pub counted_bytes : Width → List ℕ → List ℕ
counted_bytes w bytes = number_bytes w (length bytes) ++ bytes

-- 0 where nothing follows, and 1 where a part follows
abbrev pub is_flag : ℕ → Bool
is_flag flag = nat_lt flag 2

-- a byte that says whether a part follows
unfoldable pub flag_number : Format ℕ
flag_number = with_rule is_flag (number w8)

-- a part where the flag is not 0
abbrev pub part_if : {A : Type 0} → Format A → ℕ → Format (Option A)
part_if part flag = if flag == 0 then done None else (part >>= λ value. done (Some value))

-- a flag, and the part where it is 1
unfoldable pub optional : {A : Type 0} → Format A → Format (Option A)
optional part = flag_number >>= λ flag. part_if part flag

-- the flag 0, or the flag 1 and the part
abbrev pub optional_bytes : {A : Type 0} → (A → List ℕ) → Option A → List ℕ
optional_bytes part None = number_bytes w8 0
optional_bytes part (Some value) = number_bytes w8 1 ++ part value

-- the part, where there is one, keeps a fact
abbrev pub IfThere : {A : Type 0} → (A → Type 0) → Option A → Type 0
IfThere P None = Unit {0}
IfThere P (Some value) = P value
