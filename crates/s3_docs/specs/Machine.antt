-- How a document is read from left to right: what is known behind each of its bytes, and which byte may come next.
use Rattle.std.specs.Prelude.{ℕ, ◌+◌, ◌*◌, ◌-◌, Bool, true, false, List, [], ◌∷◌, ◌++◌, length, codes, bytes_eq, nat_le, nat_lt, ◌==◌, ◌&&◌, ◌||◌, if◌then◌else◌, Option, Some, None, Result, Ok, Err}
use Rattle.hex.specs.Hex.{is_hex_digit, decode_of}
use Rattle.call_types.specs.declared.names.Mode.{Mode}
use Rattle.call_types.specs.declared.names.Mode.TheVariants.{Enabled, Suspended}
use Rattle.call_types.specs.declared.version.PartRef.{PartRef}
use Rattle.s3_docs.specs.declared.prologue.Root.{Root}
use Rattle.s3_docs.specs.declared.prologue.Root.TheVariants.{CompleteMultipartUpload, VersioningConfiguration}
use Rattle.s3_docs.specs.Bytes.{is_blank, is_digit, is_letter, is_name_byte}
use Rattle.s3_docs.specs.Limits.{most_parts}

-- what a whole document says
pub data Value : Type 0 where
  Parts : List PartRef → Value
  Versioning : Mode → Value

-- the elements whose values are read
pub data Field : Type 0 where
  PartNumber ETag Status : Field

-- An element that holds fields and others, with what its fields have said: a Part, behind these parts, or the root of
-- a VersioningConfiguration.
pub data Holder : Type 0 where
  Part : List PartRef → Option ℕ → Option (List ℕ) → Holder
  Configuration : Option Mode → Holder

-- how the hex digits of an ETag are quoted: bare, `"`, `&quot;` or `&#34;`
pub data Quotation : Type 0 where
  Bare Plain Named Numbered : Quotation

-- What is known behind a byte.
pub data State : Type 0 where
  -- this byte is due, then these, and then it goes on so
  Expect : ℕ → List ℕ → State → State
  -- before the first byte, and behind a `<` there
  Start Opened : Root → State
  -- inside a declaration, and behind a `?` in it
  Declaration Mark : Root → State
  -- before the root's tag
  Before : Root → State
  -- behind the root's name, behind white space there, behind `xmlns=`, and inside its value in such quotes
  Rooted Spaced Quote : Root → State
  Quoted : Root → ℕ → State
  -- between the parts, and behind a `<` there
  Between Tag : List PartRef → State
  -- between the elements of a holder, behind a `<` there, inside a start tag's name, and inside the text of this name
  Inside Inner : Holder → State
  Name Text : Holder → List ℕ → State
  -- before a field's value, and behind it
  Awaiting Ending : Holder → Field → State
  -- behind so many digits of a number, with this value
  Digits : Holder → ℕ → ℕ → State
  -- behind the `&` of an ETag, and behind its first digits
  Reference : Holder → State
  Hex : Holder → Quotation → List ℕ → State
  -- behind the root
  After : Value → State

-- these bytes are due, and then it goes on so
abbrev pub due : List ℕ → State → State
due [] next = next
due (b ∷ bytes) next = Expect b bytes next

-- the rest of an end tag behind its `<`
abbrev pub end_tag : List ℕ → State → State
end_tag name next = Expect 47 [] (due name (Expect 62 [] next))

-- Whether white space is passed over here.
abbrev pub is_gap : State → Bool
is_gap (Before root) = true
is_gap (Spaced root) = true
is_gap (Between parts) = true
is_gap (Inside holder) = true
is_gap (Awaiting holder field) = true
is_gap (Ending holder field) = true
is_gap (After value) = true
is_gap other = false

-- a root's name, its first letter apart
abbrev pub initial : Root → ℕ
initial CompleteMultipartUpload = 67
initial VersioningConfiguration = 86

abbrev pub behind_initial : Root → List ℕ
behind_initial CompleteMultipartUpload = codes "ompleteMultipartUpload"
behind_initial VersioningConfiguration = codes "ersioningConfiguration"

abbrev pub root_name : Root → List ℕ
root_name root = initial root ∷ behind_initial root

-- behind the root's start tag
abbrev pub within : Root → State
within CompleteMultipartUpload = Between []
within VersioningConfiguration = Inside (Configuration None)

abbrev pub field_name : Field → List ℕ
field_name PartNumber = codes "PartNumber"
field_name ETag = codes "ETag"
field_name Status = codes "Status"

abbrev pub quote_text : Quotation → List ℕ
quote_text Bare = []
quote_text Plain = codes "\""
quote_text Named = codes "&quot;"
quote_text Numbered = codes "&#34;"

-- What a name in a start tag means to a holder: a field that stands once, the same again, or an element that is passed over.
pub data Naming : Type 0 where
  Awaited : Field → Naming
  Spent Other : Naming

abbrev pub once : {A : Type 0} → Field → Option A → Naming
once field None = Awaited field
once field (Some value) = Spent

abbrev pub naming : Holder → List ℕ → Naming
naming (Part parts number md5) name =
    if bytes_eq name (codes "PartNumber") then once PartNumber number
    else if bytes_eq name (codes "ETag") then once ETag md5
    else Other
naming (Configuration mode) name = if bytes_eq name (codes "Status") then once Status mode else Other

-- the holder with a field's value
abbrev pub with_number : Holder → ℕ → Holder
with_number (Part parts number md5) value = Part parts (Some value) md5
with_number (Configuration mode) value = Configuration mode

abbrev pub with_md5 : Holder → List ℕ → Holder
with_md5 (Part parts number md5) value = Part parts number (Some value)
with_md5 (Configuration mode) value = Configuration mode

abbrev pub with_mode : Holder → Mode → Holder
with_mode (Part parts number md5) value = Part parts number md5
with_mode (Configuration mode) value = Configuration (Some value)

-- the bytes of hex digits
abbrev pub or_empty : {E : Type 0} → Result (List ℕ) E → List ℕ
or_empty (Ok bytes) = bytes
or_empty (Err fault) = []

abbrev pub md5_of : List ℕ → List ℕ
md5_of digits = or_empty (decode_of digits)

-- behind the `</` of a holder: its end tag, where its fields have all come
abbrev pub closes : Holder → Option State
closes (Part parts (Some number) (Some md5)) =
    Some (due (codes "Part>") (Between (parts ++ record { number = number; md5 = md5 } ∷ [])))
closes (Configuration (Some mode)) = Some (due (codes "VersioningConfiguration>") (After (Versioning mode)))
closes other = None

-- behind the `</` between parts: the end tag, where a part has come
abbrev pub closes_all : List PartRef → Option State
closes_all parts = if length parts == 0 then None else Some (due (codes "CompleteMultipartUpload>") (After (Parts parts)))

-- behind the name of a start tag
abbrev pub behind_name : Naming → Holder → List ℕ → ℕ → Option State
behind_name (Awaited field) holder name b = if b == 62 then Some (Awaiting holder field) else None
behind_name Spent holder name b = None
behind_name Other holder name b =
    if b == 62 then Some (Text holder name) else if b == 47 then Some (due (codes ">") (Inside holder)) else None

-- One more digit of a number: there are at most five, and its value is from 1 to 10,000.
abbrev pub one_digit_more : Holder → ℕ → ℕ → Option State
one_digit_more holder count value =
    if nat_le count 5 && nat_le value most_parts && (nat_lt count 5 || nat_lt 0 value) then Some (Digits holder count value)
    else None

-- the first byte of a field's value
abbrev pub begins : Field → Holder → ℕ → Option State
begins PartNumber holder b = if is_digit b then one_digit_more holder 1 (b - 48) else None
begins ETag holder b =
    if is_hex_digit b then Some (Hex holder Bare (b ∷ []))
    else if b == 34 then Some (Hex holder Plain [])
    else if b == 38 then Some (Reference holder)
    else None
begins Status holder b =
    if b == 69 then Some (due (codes "nabled") (Ending (with_mode holder Enabled) Status))
    else if b == 83 then Some (due (codes "uspended") (Ending (with_mode holder Suspended) Status))
    else None

-- the `<` behind a field's value
abbrev pub ends : Field → Holder → ℕ → Option State
ends field holder b = if b == 60 then Some (end_tag (field_name field) (Inside holder)) else None

-- behind a number of at least 1, white space or `<`
abbrev pub behind_number : Holder → ℕ → ℕ → Option State
behind_number holder value b =
    if nat_lt 0 value then
    (if is_blank b then Some (Ending (with_number holder value) PartNumber) else ends PartNumber (with_number holder value) b)
    else None

-- behind these hex digits: 32 are the whole
abbrev pub behind_hex : Holder → Quotation → List ℕ → State
behind_hex holder quotation digits =
    if length digits == 32 then due (quote_text quotation) (Ending (with_md5 holder (md5_of digits)) ETag)
    else Hex holder quotation digits

-- What a byte leads to, where it is no white space in a gap.
abbrev pub moves : State → ℕ → Option State
moves (Expect due_now due_then next) b = if b == due_now then Some (due due_then next) else None
moves (Start root) b = if is_blank b then Some (Before root) else if b == 60 then Some (Opened root) else None
moves (Opened root) b =
    if b == initial root then Some (due (behind_initial root) (Rooted root))
    else if b == 63 then Some (due (codes "xml") (Declaration root))
    else None
moves (Declaration root) b = if b == 63 then Some (Mark root) else Some (Declaration root)
moves (Mark root) b =
    if b == 62 then Some (Before root) else if b == 63 then Some (Mark root) else Some (Declaration root)
moves (Before root) b = if b == 60 then Some (due (root_name root) (Rooted root)) else None
moves (Rooted root) b = if b == 62 then Some (within root) else if is_blank b then Some (Spaced root) else None
moves (Spaced root) b = if b == 120 then Some (due (codes "mlns=") (Quote root)) else None
moves (Quote root) b = if b == 34 || b == 39 then Some (Quoted root b) else None
moves (Quoted root quote) b = if b == quote then Some (due (codes ">") (within root)) else Some (Quoted root quote)
moves (Between parts) b = if b == 60 then Some (Tag parts) else None
moves (Tag parts) b =
    if b == 80 then Some (due (codes "art>") (Inside (Part parts None None)))
    else if b == 47 then closes_all parts
    else None
moves (Inside holder) b = if b == 60 then Some (Inner holder) else None
moves (Inner holder) b =
    if b == 47 then closes holder else if is_letter b then Some (Name holder (b ∷ [])) else None
moves (Name holder name) b =
    if is_name_byte b then Some (Name holder (name ++ b ∷ [])) else behind_name (naming holder name) holder name b
moves (Text holder name) b =
    if b == 60 then Some (end_tag name (Inside holder)) else Some (Text holder name)
moves (Awaiting holder field) b = begins field holder b
moves (Ending holder field) b = ends field holder b
moves (Digits holder count value) b =
    if is_digit b then one_digit_more holder (count + 1) (value * 10 + (b - 48)) else behind_number holder value b
moves (Reference holder) b =
    if b == 113 then Some (due (codes "uot;") (Hex holder Named []))
    else if b == 35 then Some (due (codes "34;") (Hex holder Numbered []))
    else None
moves (Hex holder quotation digits) b =
    if is_hex_digit b then Some (behind_hex holder quotation (digits ++ b ∷ [])) else None
moves (After value) b = None

-- What a byte leads to, if a document may go on with it.
abbrev pub step : State → ℕ → Option State
step state b = if is_gap state && is_blank b then Some state else moves state b

-- what is said where the bytes end here
abbrev pub said : State → Option Value
said (After value) = Some value
said other = None
