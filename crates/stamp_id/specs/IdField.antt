-- The format of a version id.
use Rattle.std.specs.Prelude.{ℕ, ◌/◌, ◌%◌, ◌^◌, List, Bool, ◌&&◌, ◌==◌, nat_lt}
use Rattle.stamp_id.specs.Layout.{high_word, low_word}
use Rattle.field_reader.specs.Format.{Format, field, with_rule}

-- whether two words are those of an id: version 8, variant 10, a slot below 64, and a term and a sequence number from 1
abbrev pub are_id_words : ℕ → ℕ → Bool
are_id_words high low =
    high / 2 ^ 12 % 2 ^ 4 == 8 && low / 2 ^ 62 == 2 && nat_lt (high % 2 ^ 12) 64 && nat_lt 0 (high / 2 ^ 16) && nat_lt 0 (low % 2 ^ 62)

-- whether 16 bytes are an id
unfoldable pub is_id : List ℕ → Bool
is_id bytes = are_id_words (high_word bytes) (low_word bytes)

-- the format of an id: 16 bytes that are one
unfoldable pub id_field : Format (List ℕ)
id_field = with_rule is_id (field 16)
