-- What the values of headers and arguments say (S3 API; RFC 9110, sections 8.3 and 14; RFC 1864).
use Rattle.std.specs.Prelude.{◌^◌, ◌==◌, ◌&&◌, nat_lt, nat_le, ℕ, List, Bool, cond, take, drop, codes, length, slice_index, Option, Some, None, Result, Ok, Err}
use Rattle.std.specs.List.{position_or_len}
use Rattle.std.specs.Option.{option_map}
use Rattle.std.specs.Str.{bytes_eq, all_ascii_digits}
use Rattle.std.specs.Str.Parse.{digits_value}
use Rattle.form_urlencoded.specs.Form.{split_once}
use Rattle.base64.specs.Engines.{standard}
use Rattle.base64.specs.GeneralPurpose.{decode_of}
use Rattle.base64.specs.declared.decode.DecodeError.{DecodeError}
use Rattle.s3_request.specs.Names.{id_of}
use Rattle.s3_request.specs.Refusing.{and_then}
use Rattle.stamp_id.specs.declared.version.VersionId.{VersionId}
use Rattle.desk_base.specs.Calls.{most_parts}
use Rattle.call_types.specs.declared.names.Pick.{Pick}
use Rattle.call_types.specs.declared.names.Pick.TheVariants as pick
use Rattle.call_types.specs.declared.names.VersionName.{VersionName}
use Rattle.call_types.specs.declared.names.VersionName.TheVariants as version
use Rattle.call_types.specs.declared.names.RangeAsk.{RangeAsk}
use Rattle.call_types.specs.declared.names.RangeAsk.TheVariants.{Whole, FromTo, From, Last}
use Rattle.call_types.specs.declared.refusal.Refusal.{Refusal}
use Rattle.call_types.specs.declared.refusal.Refusal.TheVariants.{InvalidArgument, InvalidDigest, NoLength, EntityTooLarge}

-- the number that digits write, where there is one that fits 64 bits
abbrev pub number_in : List ℕ → Option ℕ
number_in digits = cond (nat_lt 0 (length digits) && nat_lt (digits_value 10 digits) (2 ^ 64)) (Some (digits_value 10 digits)) None

-- the number that one digit or more write, where it fits 64 bits
unfoldable pub number_of : List ℕ → Option ℕ
number_of text = cond (all_ascii_digits text) (number_in text) None

-- a content type of at most 255 bytes
abbrev pub kept_kind : List ℕ → Result (List ℕ) Refusal
kept_kind kind = cond (nat_le (length kind) 255) (Ok kind) (Err (InvalidArgument (codes "Content-Type")))

-- the content type of an object: that of the header, or that of bytes of no known type
abbrev pub kind_of : Option (List ℕ) → Result (List ℕ) Refusal
kind_of None = kept_kind (codes "binary/octet-stream")
kind_of (Some kind) = kept_kind kind

-- sixteen bytes, which is what an MD5 has
abbrev pub digest_in : Result (List ℕ) DecodeError → Result (List ℕ) Refusal
digest_in (Ok bytes) = cond (length bytes == 16) (Ok bytes) (Err InvalidDigest)
digest_in (Err error) = Err InvalidDigest

-- the MD5 that a value spells: the base64 of sixteen bytes, with padding and without further bits
unfoldable pub stated_digest : List ℕ → Result (List ℕ) Refusal
stated_digest value = digest_in (decode_of standard value)

-- the stated MD5 of a body, where there is one
abbrev pub md5_of : Option (List ℕ) → Result (Option (List ℕ)) Refusal
md5_of None = Ok None
md5_of (Some value) = and_then (stated_digest value) (λ digest. Ok (Some digest))

-- a stated length that is within a limit
abbrev pub within : ℕ → Option ℕ → Result ℕ Refusal
within limit None = Err NoLength
within limit (Some stated) = cond (nat_le stated limit) (Ok stated) (Err EntityTooLarge)

-- the length that a header states
abbrev pub stated_by : Option (List ℕ) → Option ℕ
stated_by None = None
stated_by (Some value) = number_of value

-- the stated length of a body, which is stated and within a limit
abbrev pub length_of : ℕ → Option (List ℕ) → Result ℕ Refusal
length_of limit value = within limit (stated_by value)

-- the byte of a hyphen
abbrev pub hyphen : ℕ
hyphen = 45

-- from a place to another that isn't before it
abbrev pub closed : Option ℕ → Option ℕ → RangeAsk
closed None last = Whole
closed (Some first) None = Whole
closed (Some first) (Some last) = cond (nat_le first last) (FromTo first last) Whole

-- from a place on
abbrev pub open_end : Option ℕ → RangeAsk
open_end None = Whole
open_end (Some first) = From first

-- the last bytes
abbrev pub suffix : Option ℕ → RangeAsk
suffix None = Whole
suffix (Some count) = Last count

-- what stands before and behind the hyphen of a range
abbrev pub range_between : List ℕ → List ℕ → RangeAsk
range_between first last =
    cond (length first == 0) (suffix (number_of last))
    (cond (length last == 0) (open_end (number_of first)) (closed (number_of first) (number_of last)))

-- whether a byte is a hyphen
abbrev pub is_hyphen : ℕ → Bool
is_hyphen byte = byte == hyphen

-- the unit of a range of bytes, with its equals sign
abbrev pub bytes_unit : List ℕ
bytes_unit = codes "bytes="

-- what stands behind the unit: places before and behind the first hyphen, and all bytes where there is none
abbrev pub range_at : List ℕ → RangeAsk
range_at text =
    cond (position_or_len is_hyphen text == length text) Whole
    (range_between (split_once hyphen text).0 (split_once hyphen text).1)

-- a range of bytes, and all of them where the value is none
abbrev pub range_in : List ℕ → RangeAsk
range_in value = cond (bytes_eq (take 6 value) bytes_unit) (range_at (drop 6 value)) Whole

-- The range that a head asks for, by the values of its If-Range and of its Range: all bytes where the second is none, or none that is read. With an If-Range,
-- which isn't compared, all bytes are given as well (RFC 9110, sections 13.1.5 and 14.2).
abbrev pub range_of : Option (List ℕ) → Option (List ℕ) → RangeAsk
range_of (Some validator) range = Whole
range_of None None = Whole
range_of None (Some value) = range_in value

-- a part's number, from 1 to 10,000
abbrev pub part_within : Option ℕ → Option ℕ
part_within None = None
part_within (Some number) = cond (nat_le number most_parts) (Some number) None

-- the number of a part: digits alone, without a zero at their front
abbrev pub part_number_of : List ℕ → Option ℕ
part_number_of text = cond (length text == 0) None (cond (slice_index text 0 == 48) None (part_within (number_of text)))

-- the number of the part that an argument says
abbrev pub part_number_in : Option (List ℕ) → Option ℕ
part_number_in None = None
part_number_in (Some text) = part_number_of text

-- the version that `versionId` names: the current one without it
abbrev pub pick_of : Option (List ℕ) → Option Pick
pick_of None = Some pick.Current
pick_of (Some text) = cond (bytes_eq text (codes "null")) (Some pick.Null) (option_map pick.Id (id_of text))

-- the name of a version
abbrev pub version_name_of : List ℕ → Option VersionName
version_name_of text = cond (bytes_eq text (codes "null")) (Some version.Null) (option_map version.Id (id_of text))

-- the id that a text spells, where there is a text that does
abbrev pub id_in : Option (List ℕ) → Option VersionId
id_in None = None
id_in (Some text) = id_of text
