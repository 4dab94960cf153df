-- What the first step of a Complete answers (Amazon S3, CompleteMultipartUpload): the listed parts as they are stored, or
-- the first of its refusals.
use Rattle.std.specs.Prelude.{◌≡◌, ℕ, ◌-◌, List, [], ◌∷◌, length, map, take, Bool, true, false, ◌&&◌, nat_lt, nat_le, Option, Some, None, Result, Ok, Err, MatchBool}
use Rattle.std.specs.List.{list_all, filter_map}
use Rattle.std.specs.Str.{bytes_eq}
use Rattle.stamp_id.specs.declared.version.VersionId.{VersionId}
use Rattle.call_types.specs.declared.version.PartRef.{PartRef}
use Rattle.call_types.specs.declared.version.PartRecord.{PartRecord}
use Rattle.call_types.specs.declared.refusal.KeyRefusal.{KeyRefusal}
use Rattle.call_types.specs.declared.refusal.KeyRefusal.TheVariants.{NoSuchUpload, PartOrder, InvalidPart, PartSmall}
use Rattle.version_list.specs.declared.state.KeyState.{KeyState}
use Rattle.upload_book.specs.declared.gathering.ListedPart.{ListedPart}
use Rattle.upload_book.specs.declared.gathering.GatherFault.{GatherFault}
use Rattle.upload_book.specs.declared.gathering.GatherFault.TheVariants as fault
use Rattle.upload_book.specs.Storing.{is_open}
use Rattle.upload_book.specs.Limits.{part_least}

-- whether each number is above the one before it, and the first above this one
abbrev pub is_rising_above : ℕ → List ℕ → Bool
is_rising_above before [] = true
is_rising_above before (n ∷ ns) = nat_lt before n && is_rising_above n ns

-- the number of a part
abbrev pub number_of : PartRef → ℕ
number_of part = part.number

-- the part that is listed, and its number
abbrev pub part_of : ListedPart → PartRef
part_of listed = listed.part

abbrev pub listed_number : ListedPart → ℕ
listed_number listed = listed.part.number

-- what is stored under its number
abbrev pub found_of : ListedPart → Option PartRecord
found_of listed = listed.found

-- whether a part with this MD5 is stored
abbrev pub has_md5 : List ℕ → Option PartRecord → Bool
has_md5 md5 None = false
has_md5 md5 (Some stored) = bytes_eq stored.md5 md5

-- whether the part that is listed is stored
abbrev pub is_found : ListedPart → Bool
is_found listed = has_md5 listed.part.md5 listed.found

-- whether a part may stand before others
abbrev pub is_large : PartRecord → Bool
is_large part = nat_le part_least part.length

-- all parts other than the last
abbrev pub all_but_last : List PartRecord → List PartRecord
all_but_last parts = take (length parts - 1) parts

-- the parts that are stored, in the order listed
abbrev pub parts_of : List ListedPart → List PartRecord
parts_of listed = filter_map found_of listed

-- What needs no part's register: the upload is open, and the numbers rise from above 0.
abbrev pub Checks : KeyState → VersionId → List PartRef → Result (Unit {0}) KeyRefusal → Type 0
Checks key upload parts answer =
    MatchBool (is_open upload key)
    (MatchBool (is_rising_above 0 (map number_of parts)) (answer ≡ Ok tt) (answer ≡ Err PartOrder))
    (answer ≡ Err NoSuchUpload)

-- The upload is open, the numbers rise, each listed part is stored, and each other than the last is large; else the
-- refusal of the first of these that is not so.
abbrev pub Gathers : KeyState → VersionId → List ListedPart → Result (List PartRecord) KeyRefusal → Type 0
Gathers key upload listed answer =
    MatchBool (is_open upload key)
    (MatchBool (is_rising_above 0 (map listed_number listed))
    (MatchBool (list_all is_found listed)
    (MatchBool (list_all is_large (all_but_last (parts_of listed))) (answer ≡ Ok (parts_of listed)) (answer ≡ Err PartSmall))
    (answer ≡ Err InvalidPart))
    (answer ≡ Err PartOrder))
    (answer ≡ Err NoSuchUpload)

-- The answer is the one that is due. Want of memory says nothing.
abbrev pub AnswersGather : KeyState → VersionId → List ListedPart → Result (List PartRecord) GatherFault → Type 0
AnswersGather key upload listed (Ok parts) = Gathers key upload listed (Ok parts)
AnswersGather key upload listed (Err (fault.Refused why)) = Gathers key upload listed (Err why)
AnswersGather key upload listed (Err fault.NoMemory) = Unit {0}
