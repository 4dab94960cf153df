-- The grammar of the documents: trees, what they say, and their bytes. A text is written with the bytes that follow it.
use Rattle.std.specs.Prelude.{◌≡◌, ◌≢◌, ℕ, ◌+◌, ◌*◌, ◌-◌, ◌≤◌, Bool, true, not, List, [], ◌∷◌, ◌++◌, length, codes, ◌==◌, ◌||◌, Option, Some, None}
use Rattle.hex.specs.Hex.{is_hex_digit}
use Rattle.call_types.specs.declared.names.Mode.{Mode}
use Rattle.call_types.specs.declared.names.Mode.TheVariants.{Never, Enabled, Suspended}
use Rattle.call_types.specs.declared.version.PartRef.{PartRef}
use Rattle.s3_docs.specs.declared.prologue.Root.{Root}
use Rattle.s3_docs.specs.declared.prologue.Root.TheVariants.{CompleteMultipartUpload, VersioningConfiguration}
use Rattle.s3_docs.specs.Bytes.{is_blank, is_digit, is_letter, is_name_byte}
use Rattle.s3_docs.specs.Machine.{Quotation, quote_text, root_name, md5_of}
use Rattle.s3_docs.specs.Limits.{most_parts}

-- a text, and what follows it
infixr 20 ◌·◌
abbrev pub ◌·◌ : List ℕ → List ℕ → List ℕ
text · rest = text ++ rest

-- each byte passes the test
abbrev pub Every : (ℕ → Bool) → List ℕ → Type 0
Every test [] = Unit {0}
Every test (b ∷ bytes) = (test b ≡ true) × Every test bytes

-- white space, or nothing
abbrev pub IsGap : List ℕ → Type 0
IsGap gap = Every is_blank gap

-- letters and digits, the first of them a letter
abbrev pub IsName : List ℕ → Type 0
IsName [] = ⊥
IsName (b ∷ bytes) = (is_letter b ≡ true) × Every is_name_byte bytes

-- An element that is passed over, with the white space before it: `<name/>`, or a text between tags.
pub record Passed : Type 0 where
  pub gap : List ℕ
  pub name : List ℕ
  pub text : Option (List ℕ)

abbrev pub content_text : List ℕ → Option (List ℕ) → List ℕ → List ℕ
content_text name None rest = codes "/>" · rest
content_text name (Some text) rest = codes ">" · text · codes "</" · name · codes ">" · rest

abbrev pub passed_text : Passed → List ℕ → List ℕ
passed_text passed rest = passed.gap · codes "<" · passed.name · content_text passed.name passed.text rest

-- A text holds no `<`.
abbrev pub HoldsNoTag : Option (List ℕ) → Type 0
HoldsNoTag None = Unit {0}
HoldsNoTag (Some text) = Every (λ b. not (b == 60)) text

pub record IsPassed (passed : Passed) : Type 0 where
  pub gap : IsGap passed.gap
  pub name : IsName passed.name
  pub text : HoldsNoTag passed.text

-- the value of decimal digits behind others of this value
abbrev pub value_behind : ℕ → List ℕ → ℕ
value_behind before [] = before
value_behind before (b ∷ digits) = value_behind (before * 10 + (b - 48)) digits

-- the value of decimal digits
abbrev pub number_of : List ℕ → ℕ
number_of digits = value_behind 0 digits

-- one to five digits with a value from 1 to 10,000
pub record IsNumber (digits : List ℕ) : Type 0 where
  pub decimal : Every is_digit digits
  pub few : length digits ≤ 5
  pub least : 1 ≤ number_of digits
  pub most : number_of digits ≤ most_parts

-- 32 hex digits
pub record IsDigest (digits : List ℕ) : Type 0 where
  pub hex : Every is_hex_digit digits
  pub size : length digits ≡ 32

-- An element of a Part, with the white space before it and, in a field, on both sides of its value.
pub data Item : Type 0 where
  Number : (gap before digits after : List ℕ) → Item
  Etag : (gap before : List ℕ) (quotation : Quotation) (digits after : List ℕ) → Item
  Other : Passed → Item

abbrev pub number_text : (gap before digits after rest : List ℕ) → List ℕ
number_text gap before digits after rest = gap · codes "<PartNumber>" · before · digits · after · codes "</PartNumber>" · rest

abbrev pub etag_text : (gap before : List ℕ) (quotation : Quotation) (digits after rest : List ℕ) → List ℕ
etag_text gap before quotation digits after rest =
    gap · codes "<ETag>" · before · quote_text quotation · digits · quote_text quotation · after · codes "</ETag>" · rest

abbrev pub item_text : Item → List ℕ → List ℕ
item_text (Number gap before digits after) rest = number_text gap before digits after rest
item_text (Etag gap before quotation digits after) rest = etag_text gap before quotation digits after rest
item_text (Other passed) rest = passed_text passed rest

abbrev pub IsItem : Item → Type 0
IsItem (Number gap before digits after) = IsGap gap × IsGap before × IsNumber digits × IsGap after
IsItem (Etag gap before quotation digits after) = IsGap gap × IsGap before × IsDigest digits × IsGap after
IsItem (Other passed) = IsPassed passed × (passed.name ≢ codes "PartNumber") × (passed.name ≢ codes "ETag")

abbrev pub items_text : List Item → List ℕ → List ℕ
items_text [] rest = rest
items_text (item ∷ items) rest = item_text item (items_text items rest)

abbrev pub AreItems : List Item → Type 0
AreItems [] = Unit {0}
AreItems (item ∷ items) = IsItem item × AreItems items

-- the values of the PartNumbers
abbrev pub numbers : List Item → List ℕ
numbers [] = []
numbers (Number gap before digits after ∷ items) = number_of digits ∷ numbers items
numbers (Etag gap before quotation digits after ∷ items) = numbers items
numbers (Other passed ∷ items) = numbers items

-- the MD5s of the ETags
abbrev pub digests : List Item → List (List ℕ)
digests [] = []
digests (Number gap before digits after ∷ items) = digests items
digests (Etag gap before quotation digits after ∷ items) = md5_of digits ∷ digests items
digests (Other passed ∷ items) = digests items

-- a Part, with the white space before its tags
pub record PartTree : Type 0 where
  pub gap : List ℕ
  pub items : List Item
  pub last_gap : List ℕ

abbrev pub part_text : PartTree → List ℕ → List ℕ
part_text part rest = part.gap · codes "<Part>" · items_text part.items (part.last_gap · codes "</Part>" · rest)

-- A Part says its one number and its one MD5.
pub record SaysPart (tree : PartTree) (part : PartRef) : Type 0 where
  pub gap : IsGap tree.gap
  pub items : AreItems tree.items
  pub last_gap : IsGap tree.last_gap
  pub number : numbers tree.items ≡ part.number ∷ []
  pub md5 : digests tree.items ≡ part.md5 ∷ []

abbrev pub parts_text : List PartTree → List ℕ → List ℕ
parts_text [] rest = rest
parts_text (part ∷ parts) rest = part_text part (parts_text parts rest)

abbrev pub SayParts : List PartTree → List PartRef → Type 0
SayParts [] [] = Unit {0}
SayParts (tree ∷ trees) (part ∷ parts) = SaysPart tree part × SayParts trees parts
SayParts trees parts = ⊥

-- An element of a VersioningConfiguration.
pub data Setting : Type 0 where
  Status : (gap before : List ℕ) (mode : Mode) (after : List ℕ) → Setting
  Else : Passed → Setting

abbrev pub mode_name : Mode → List ℕ
mode_name Enabled = codes "Enabled"
mode_name Suspended = codes "Suspended"
mode_name Never = []

abbrev pub IsAsked : Mode → Type 0
IsAsked Never = ⊥
IsAsked other = Unit {0}

abbrev pub setting_text : Setting → List ℕ → List ℕ
setting_text (Status gap before mode after) rest = gap · codes "<Status>" · before · mode_name mode · after · codes "</Status>" · rest
setting_text (Else passed) rest = passed_text passed rest

abbrev pub IsSetting : Setting → Type 0
IsSetting (Status gap before mode after) = IsGap gap × IsGap before × IsAsked mode × IsGap after
IsSetting (Else passed) = IsPassed passed × (passed.name ≢ codes "Status")

abbrev pub settings_text : List Setting → List ℕ → List ℕ
settings_text [] rest = rest
settings_text (setting ∷ settings) rest = setting_text setting (settings_text settings rest)

abbrev pub AreSettings : List Setting → Type 0
AreSettings [] = Unit {0}
AreSettings (setting ∷ settings) = IsSetting setting × AreSettings settings

abbrev pub modes : List Setting → List Mode
modes [] = []
modes (Status gap before mode after ∷ settings) = mode ∷ modes settings
modes (Else passed ∷ settings) = modes settings

-- What stands before a root's content: a declaration, of which this stands between `<?xml` and `?>`; white space; and
-- the start tag, with the white space, the quote and the value of an attribute.
pub record Attribute : Type 0 where
  pub first : ℕ
  pub gap : List ℕ
  pub quote : ℕ
  pub value : List ℕ

pub record Prologue : Type 0 where
  pub declaration : Option (List ℕ)
  pub gap : List ℕ
  pub attribute : Option Attribute

abbrev pub declaration_text : Option (List ℕ) → List ℕ → List ℕ
declaration_text None rest = rest
declaration_text (Some inside) rest = codes "<?xml" · inside · codes "?>" · rest

abbrev pub attribute_text : Option Attribute → List ℕ → List ℕ
attribute_text None rest = rest
attribute_text (Some attribute) rest =
    attribute.first ∷ (attribute.gap · codes "xmlns=" · attribute.quote ∷ (attribute.value · attribute.quote ∷ rest))

abbrev pub prologue_text : Root → Prologue → List ℕ → List ℕ
prologue_text root prologue rest =
    declaration_text prologue.declaration (prologue.gap · codes "<" · root_name root · attribute_text prologue.attribute (codes ">" · rest))

-- No `?>` stands in these bytes.
abbrev pub HasNoMark : List ℕ → Type 0
HasNoMark [] = Unit {0}
HasNoMark (b ∷ []) = Unit {0}
HasNoMark (b ∷ c ∷ bytes) = ((b ≡ 63) × (c ≡ 62) → ⊥) × HasNoMark (c ∷ bytes)

abbrev pub IsDeclaration : Option (List ℕ) → Type 0
IsDeclaration None = Unit {0}
IsDeclaration (Some inside) = HasNoMark inside

abbrev pub is_quote : ℕ → Bool
is_quote b = b == 34 || b == 39

-- White space parts the name from the attribute. Its quotes are `"` or `'`, and its value doesn't hold them.
abbrev pub IsAttribute : Option Attribute → Type 0
IsAttribute None = Unit {0}
IsAttribute (Some attribute) =
    (is_blank attribute.first ≡ true) × IsGap attribute.gap × (is_quote attribute.quote ≡ true)
    × Every (λ b. not (b == attribute.quote)) attribute.value

pub record IsPrologue (prologue : Prologue) : Type 0 where
  pub declaration : IsDeclaration prologue.declaration
  pub gap : IsGap prologue.gap
  pub attribute : IsAttribute prologue.attribute

-- a document with parts
pub record CompleteTree : Type 0 where
  pub prologue : Prologue
  pub parts : List PartTree
  pub last_gap : List ℕ
  pub after : List ℕ

abbrev pub complete_text : CompleteTree → List ℕ
complete_text tree =
    prologue_text CompleteMultipartUpload tree.prologue (parts_text tree.parts (tree.last_gap · codes "</CompleteMultipartUpload>" · tree.after))

-- It says its parts, of which there are some.
pub record SaysComplete (tree : CompleteTree) (parts : List PartRef) : Type 0 where
  pub prologue : IsPrologue tree.prologue
  pub says : SayParts tree.parts parts
  pub some : parts ≢ []
  pub last_gap : IsGap tree.last_gap
  pub after : IsGap tree.after

-- a document with a mode
pub record VersioningTree : Type 0 where
  pub prologue : Prologue
  pub settings : List Setting
  pub last_gap : List ℕ
  pub after : List ℕ

abbrev pub versioning_text : VersioningTree → List ℕ
versioning_text tree =
    prologue_text VersioningConfiguration tree.prologue (settings_text tree.settings (tree.last_gap · codes "</VersioningConfiguration>" · tree.after))

-- It says its one mode.
pub record SaysVersioning (tree : VersioningTree) (mode : Mode) : Type 0 where
  pub prologue : IsPrologue tree.prologue
  pub settings : AreSettings tree.settings
  pub says : modes tree.settings ≡ mode ∷ []
  pub last_gap : IsGap tree.last_gap
  pub after : IsGap tree.after
