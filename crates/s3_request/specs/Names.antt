-- Which texts name a bucket, as a test (Amazon S3, general purpose bucket naming rules), and which id a text spells (RFC 9562, section 4).
use Rattle.std.specs.Prelude.{◌≡◌, ◌↔◌, ◌≤◌, ◌<◌, ◌+◌, ◌-◌, ◌/◌, ◌%◌, ◌^◌, ◌==◌, ◌&&◌, ◌||◌, nat_lt, nat_le, not, ℕ, List, [], ◌∷◌, Bool, false, IsTrue, cond, take, drop, length, slice_index, Option, Some, None}
use Rattle.std.specs.List.{list_all, position_or_len}
use Rattle.std.specs.Str.{bytes_eq}
use Rattle.std.proofs.Math.Decide.{dec_lt, dec_le}
use Rattle.uuid.specs.Text.{parsed}
use Rattle.bucket_book.specs.Name.{is_dot, IsBucketName}
use Rattle.stamp_id.specs.Layout.{high_word, low_word}
use Rattle.stamp_id.specs.VersionId.{id_text}
use Rattle.stamp_id.specs.declared.version.VersionId.{VersionId}

-- `0` to `9`
abbrev pub is_digit : ℕ → Bool
is_digit byte = nat_le 48 byte && nat_le byte 57

-- `a` to `z`, or `0` to `9`
abbrev pub is_letter_or_digit : ℕ → Bool
is_letter_or_digit byte = nat_le 97 byte && nat_le byte 122 || is_digit byte

-- a letter, a digit, a dot or a hyphen
abbrev pub is_name_byte : ℕ → Bool
is_name_byte byte = is_letter_or_digit byte || (is_dot byte || byte == 45)

-- two dots side by side
abbrev pub has_two_dots : List ℕ → Bool
has_two_dots [] = false
has_two_dots (byte ∷ rest) = is_dot byte && is_dot (slice_index rest 0) || has_two_dots rest

-- one to three digits
abbrev pub is_group : List ℕ → Bool
is_group text = nat_le 1 (length text) && nat_le (length text) 3 && list_all is_digit text

-- what stands before the first dot
abbrev pub before_dot : List ℕ → List ℕ
before_dot text = take (position_or_len is_dot text) text

-- what stands behind the first dot
abbrev pub behind_dot : List ℕ → List ℕ
behind_dot text = drop (position_or_len is_dot text + 1) text

-- a group and a dot at the front
abbrev pub begins_with_group : List ℕ → Bool
begins_with_group text = nat_lt (position_or_len is_dot text) (length text) && is_group (before_dot text)

-- four groups with dots between, as an address of IPv4
abbrev pub is_address : List ℕ → Bool
is_address name =
    begins_with_group name && begins_with_group (behind_dot name) && begins_with_group (behind_dot (behind_dot name))
    && is_group (behind_dot (behind_dot (behind_dot name)))

-- Whether a text is the name of a bucket.
unfoldable pub is_bucket_name : List ℕ → Bool
is_bucket_name name =
    nat_le 3 (length name) && nat_le (length name) 63 && list_all is_name_byte name && is_letter_or_digit (slice_index name 0)
    && is_letter_or_digit (slice_index name (length name - 1)) && not (has_two_dots name) && not (is_address name)

-- the test is the definition of `bucket_book`
abbrev pub TestsNames : Type 0
TestsNames = (name : List ℕ) → IsTrue (is_bucket_name name) ↔ IsBucketName name

-- the id of a term, a slot and a sequence number, where they are those of one
abbrev pub id_within : (term slot seq : ℕ) → Dec (term < 2 ^ 48) → Dec (1 ≤ term) → Dec (slot < 64) → Dec (seq < 2 ^ 62) → Dec (1 ≤ seq) → Option VersionId
id_within term slot seq (yes term_fits) (yes term_counts) (yes slot_fits) (yes seq_fits) (yes seq_counts) = Some (record {
  change = record { 0 = record { term = term; seq = seq; term_fits = term_fits; seq_fits = seq_fits } };
  slot = slot;
  slot_fits = slot_fits;
  term_counts = term_counts;
  seq_counts = seq_counts;
})
id_within term slot seq (no wrong) term_counts slot_fits seq_fits seq_counts = None
id_within term slot seq (yes term_fits) (no wrong) slot_fits seq_fits seq_counts = None
id_within term slot seq (yes term_fits) (yes term_counts) (no wrong) seq_fits seq_counts = None
id_within term slot seq (yes term_fits) (yes term_counts) (yes slot_fits) (no wrong) seq_counts = None
id_within term slot seq (yes term_fits) (yes term_counts) (yes slot_fits) (yes seq_fits) (no wrong) = None

-- the id of three numbers, where they are those of one
abbrev pub id_from : ℕ → ℕ → ℕ → Option VersionId
id_from term slot seq = id_within term slot seq (dec_lt term (2 ^ 48)) (dec_le 1 term) (dec_lt slot 64) (dec_lt seq (2 ^ 62)) (dec_le 1 seq)

-- the id whose numbers stand in sixteen bytes
abbrev pub id_at : Option (List ℕ) → Option VersionId
id_at None = None
id_at (Some bytes) = id_from (high_word bytes / 2 ^ 16) (high_word bytes % 2 ^ 12) (low_word bytes % 2 ^ 62)

-- an id whose text is this one
abbrev pub if_text : List ℕ → Option VersionId → Option VersionId
if_text text None = None
if_text text (Some id) = cond (bytes_eq text (id_text id)) (Some id) None

-- The id that a text spells: that of the bytes of its hex digits, where the text is the id's own.
unfoldable pub id_of : List ℕ → Option VersionId
id_of text = if_text text (id_at (parsed text))

-- a text spells exactly the id whose text it is
abbrev pub ReadsIds : Type 0
ReadsIds = (text : List ℕ) (id : VersionId) → (id_of text ≡ Some id) ↔ (text ≡ id_text id)
