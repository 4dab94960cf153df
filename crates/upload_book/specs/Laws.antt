-- What reading, writing and the steps of parts promise of each other.
use Rattle.std.specs.Prelude.{◌≡◌, ℕ, ◌≤◌, List, length, map, Option, Some, None, true, Err}
use Rattle.std.specs.List.{AllByRecursion, list_all}
use Rattle.field_reader.specs.Spelling.{IsBytes}
use Rattle.stamp_id.specs.declared.version.VersionId.{VersionId}
use Rattle.call_types.specs.declared.version.PartRecord.{PartRecord}
use Rattle.call_types.specs.declared.refusal.KeyRefusal.{KeyRefusal}
use Rattle.version_list.specs.declared.state.KeyState.{KeyState}
use Rattle.upload_book.specs.declared.gathering.ListedPart.{ListedPart}
use Rattle.upload_book.specs.Content.{content_of, content_fault, IsCanonicalRow}
use Rattle.upload_book.specs.Gathering.{part_of, found_of, is_rising_above, is_found, parts_of, Checks, Gathers}

-- The content of a row has no fault.
abbrev pub ContentsHaveNoFault : Type 0
ContentsHaveNoFault = (row : Option PartRecord) → IsCanonicalRow row → content_fault (content_of row) ≡ None

-- A content with no fault is that of a row.
abbrev pub FaultlessIsContent : Type 0
FaultlessIsContent = (content : List ℕ) → IsBytes content → content_fault content ≡ None → (row : Option PartRecord) × IsCanonicalRow row × (content ≡ content_of row)

-- Two rows with one content are the same.
abbrev pub ContentIsInjective : Type 0
ContentIsInjective = (a b : Option PartRecord) → IsCanonicalRow a → IsCanonicalRow b → content_of a ≡ content_of b → a ≡ b

-- Rising numbers up to a limit are no more than that many.
abbrev pub RisingAreFew : Type 0
RisingAreFew = (limit : ℕ) (numbers : List ℕ) → AllByRecursion (λ n. n ≤ limit) numbers → is_rising_above 0 numbers ≡ true → length numbers ≤ limit

-- A refusal that needs no part's register is the one that is due, whatever the registers hold.
abbrev pub ChecksAreFirst : Type 0
ChecksAreFirst = (key : KeyState) (upload : VersionId) (listed : List ListedPart) (why : KeyRefusal) → Checks key upload (map part_of listed) (Err why) → Gathers key upload listed (Err why)

-- Where each listed part is found, the parts are what was found, in the order listed.
abbrev pub FoundAreAll : Type 0
FoundAreAll = (listed : List ListedPart) → list_all is_found listed ≡ true → map (λ (p : PartRecord). Some p) (parts_of listed) ≡ map found_of listed
