-- The lines of a script, and the texts that spell them.
use Rattle.std.specs.Prelude.{◌≡◌, ◌≢◌, ◌⊎◌, ◌<◌, ◌≤◌, ◌^◌, ◌==◌, ℕ, true, false, List, [], ◌∷◌, All, codes, length, map, ⊤}
use Rattle.std.specs.Borrow.{Bor}
use Rattle.std.specs.Fmt.{decimal}
use Rattle.std.specs.Int.{IsInRange}
use Rattle.std.specs.List.{slice_split, join_with_byte}
use Rattle.call_types.specs.declared.names.Mode.{Mode}
use Rattle.call_types.specs.declared.names.Mode.TheVariants.{Never, Enabled, Suspended}
use Rattle.call_types.specs.declared.names.VersionName.{VersionName}
use Rattle.call_types.specs.declared.names.VersionName.TheVariants.{Null, Id}
use Rattle.stamp_id.specs.VersionId.{id_text}
use Rattle.drill_script.specs.declared.line.Line.{Line}
use Rattle.drill_script.specs.declared.line.Line.TheVariants.{Set, Put, Fill, Get, GetVersion, Range, Delete, DeleteVersion, Go, Run, UpTo, Lose, Back, Hurt, Fuse, Stop}
use Rattle.drill_script.specs.declared.kind.Kind.{Kind}
use Rattle.drill_script.specs.declared.kind.Kind.TheVariants as kind

-- ---- words

-- a byte of a word: an ASCII letter, a digit, a dot, a hyphen, a low line or a slash
abbrev pub IsWordByte : ℕ → Type 0
IsWordByte byte =
    IsInRange 97 122 byte ⊎ (IsInRange 65 90 byte ⊎ (IsInRange 48 57 byte ⊎ ((byte ≡ 46) ⊎ ((byte ≡ 45) ⊎ ((byte ≡ 95) ⊎ (byte ≡ 47))))))

-- a word has one such byte or more
pub record IsWord (text : List ℕ) : Type 0 where
  pub some : 1 ≤ length text
  pub bytes : All IsWordByte text

-- the texts behind references
abbrev pub texts_of : List (Bor (List ℕ)) → List (List ℕ)
texts_of words = map (λ (word : Bor (List ℕ)). word.now) words

-- what stands between the spaces of a text
abbrev pub pieces : List ℕ → List (List ℕ)
pieces text = slice_split (λ byte. byte == 32) text

-- the word of a mode
abbrev pub mode_word : Mode → List ℕ
mode_word Never = codes "off"
mode_word Enabled = codes "on"
mode_word Suspended = codes "suspended"

-- the word of a version: `null`, or the text of its id
abbrev pub version_word : VersionName → List ℕ
version_word Null = codes "null"
version_word (Id id) = id_text id

-- ---- kinds of lines

-- the first word of a kind
abbrev pub kind_word : Kind → List ℕ
kind_word kind.Set = codes "set"
kind_word kind.Put = codes "put"
kind_word kind.Fill = codes "fill"
kind_word kind.Get = codes "get"
kind_word kind.GetVersion = codes "getv"
kind_word kind.Range = codes "range"
kind_word kind.Delete = codes "del"
kind_word kind.DeleteVersion = codes "delv"
kind_word kind.Go = codes "go"
kind_word kind.Run = codes "run"
kind_word kind.UpTo = codes "upto"
kind_word kind.Lose = codes "lose"
kind_word kind.Back = codes "back"
kind_word kind.Hurt = codes "hurt"
kind_word kind.Fuse = codes "fuse"
kind_word kind.Stop = codes "stop"

-- a word is that of no kind
abbrev pub IsNoKind : List ℕ → Type 0
IsNoKind word = (kind : Kind) → word ≢ kind_word kind

-- the kind of a line
abbrev pub kind_of : Line → Kind
kind_of (Set drives parity mode) = kind.Set
kind_of (Put actor key body) = kind.Put
kind_of (Fill actor key length) = kind.Fill
kind_of (Get actor key) = kind.Get
kind_of (GetVersion actor key id) = kind.GetVersion
kind_of (Range actor key from to) = kind.Range
kind_of (Delete actor key) = kind.Delete
kind_of (DeleteVersion actor key id) = kind.DeleteVersion
kind_of (Go actor) = kind.Go
kind_of (Run actor) = kind.Run
kind_of (UpTo actor) = kind.UpTo
kind_of (Lose index) = kind.Lose
kind_of (Back index) = kind.Back
kind_of (Hurt index name place) = kind.Hurt
kind_of (Fuse index calls late) = kind.Fuse
kind_of Stop = kind.Stop

-- the words of a line behind the first
abbrev pub fields_of : Line → List (List ℕ)
fields_of (Set drives parity mode) = decimal drives ∷ decimal parity ∷ mode_word mode ∷ []
fields_of (Put actor key body) = actor ∷ key ∷ body ∷ []
fields_of (Fill actor key length) = actor ∷ key ∷ decimal length ∷ []
fields_of (Get actor key) = actor ∷ key ∷ []
fields_of (GetVersion actor key id) = actor ∷ key ∷ version_word id ∷ []
fields_of (Range actor key from to) = actor ∷ key ∷ decimal from ∷ decimal to ∷ []
fields_of (Delete actor key) = actor ∷ key ∷ []
fields_of (DeleteVersion actor key id) = actor ∷ key ∷ version_word id ∷ []
fields_of (Go actor) = actor ∷ []
fields_of (Run actor) = actor ∷ []
fields_of (UpTo actor) = actor ∷ []
fields_of (Lose index) = decimal index ∷ []
fields_of (Back index) = decimal index ∷ []
fields_of (Hurt index name place) = decimal index ∷ name ∷ decimal place ∷ []
fields_of (Fuse index calls false) = decimal index ∷ decimal calls ∷ []
fields_of (Fuse index calls true) = decimal index ∷ decimal calls ∷ codes "late" ∷ []
fields_of Stop = []

-- the words of a line
abbrev pub words_of : Line → List (List ℕ)
words_of line = kind_word (kind_of line) ∷ fields_of line

-- the text of a line: its words with a space between each two
abbrev pub spelling : Line → List ℕ
spelling line = join_with_byte 32 (words_of line)

-- the numbers of a line fit their types
abbrev pub Fits : Line → Type 0
Fits (Set drives parity mode) = (drives < 2 ^ 8) × (parity < 2 ^ 8)
Fits (Put actor key body) = ⊤
Fits (Fill actor key length) = length < 2 ^ 64
Fits (Get actor key) = ⊤
Fits (GetVersion actor key id) = ⊤
Fits (Range actor key from to) = (from < 2 ^ 64) × (to < 2 ^ 64)
Fits (Delete actor key) = ⊤
Fits (DeleteVersion actor key id) = ⊤
Fits (Go actor) = ⊤
Fits (Run actor) = ⊤
Fits (UpTo actor) = ⊤
Fits (Lose index) = index < 2 ^ 8
Fits (Back index) = index < 2 ^ 8
Fits (Hurt index name place) = (index < 2 ^ 8) × (place < 2 ^ 64)
Fits (Fuse index calls late) = (index < 2 ^ 8) × (calls < 2 ^ 64)
Fits Stop = ⊤
