-- What a reader of the words behind the first answers.
use Rattle.std.specs.Prelude.{◌≡◌, ◌≢◌, ◌<◌, ◌^◌, ℕ, Bool, List, [], ◌∷◌, All, Option, Some, None}
use Rattle.std.specs.Fmt.{decimal}
use Rattle.call_types.specs.declared.names.Mode.{Mode}
use Rattle.call_types.specs.declared.names.VersionName.{VersionName}
use Rattle.drill_script.specs.Lines.{IsWord, kind_of, fields_of, words_of, spelling, Fits, mode_word, version_word}
use Rattle.drill_script.specs.Reader.{MayFollow}
use Rattle.drill_script.specs.declared.line.Line.{Line}
use Rattle.drill_script.specs.declared.line.Line.TheVariants as line
use Rattle.drill_script.specs.declared.kind.Kind.{Kind}
use Rattle.drill_script.specs.declared.kind.Kind.TheVariants as kind

-- words are not an actor alone
abbrev pub NamesNoActor : List (List ℕ) → Type 0
NamesNoActor fields = (actor : List ℕ) → fields ≢ actor ∷ []

-- words are an actor alone
abbrev pub IsActor : List (List ℕ) → List ℕ → Type 0
IsActor fields actor = fields ≡ actor ∷ []

-- words are not an actor and a key
abbrev pub NamesNoKey : List (List ℕ) → Type 0
NamesNoKey fields = (actor key : List ℕ) → fields ≢ actor ∷ key ∷ []

-- words are an actor and a key
abbrev pub AreActorAndKey : List (List ℕ) → List ℕ → List ℕ → Type 0
AreActorAndKey fields actor key = fields ≡ actor ∷ key ∷ []

-- words are not an actor, a key and a version
abbrev pub NamesNoVersion : List (List ℕ) → Type 0
NamesNoVersion fields = (actor key : List ℕ) (id : VersionName) → fields ≢ actor ∷ key ∷ version_word id ∷ []

-- words are an actor, a key and a version
abbrev pub AreActorAndVersion : List (List ℕ) → List ℕ → List ℕ → VersionName → Type 0
AreActorAndVersion fields actor key id = fields ≡ actor ∷ key ∷ version_word id ∷ []

-- words are not the index of a drive alone
abbrev pub NamesNoIndex : List (List ℕ) → Type 0
NamesNoIndex fields = (index : ℕ) → index < 2 ^ 8 → fields ≢ decimal index ∷ []

-- words are the index of a drive alone
abbrev pub IsIndex : List (List ℕ) → ℕ → Type 0
IsIndex fields index = (fields ≡ decimal index ∷ []) × (index < 2 ^ 8)

-- words are not an index and a number of calls
abbrev pub NamesNoFuse : List ℕ → List ℕ → Type 0
NamesNoFuse first second = (index calls : ℕ) → index < 2 ^ 8 → calls < 2 ^ 64 → first ≡ decimal index → second ≢ decimal calls

-- words are the index and the number of calls of a fuse
pub record IsFuse (first second : List ℕ) (late : Bool) (fuse : Line) : Type 0 where
  pub index : ℕ
  pub calls : ℕ
  pub is : fuse ≡ line.Fuse index calls late
  pub first_is : first ≡ decimal index
  pub second_is : second ≡ decimal calls
  pub fits : Fits (line.Fuse index calls late)

-- words are those of no line of a kind behind the first
abbrev pub IsNoLineOf : Kind → List (List ℕ) → Type 0
IsNoLineOf kind.Set fields = (drives parity : ℕ) (mode : Mode) → drives < 2 ^ 8 → parity < 2 ^ 8 → fields ≢ decimal drives ∷ decimal parity ∷ mode_word mode ∷ []
IsNoLineOf kind.Put fields = (actor key body : List ℕ) → fields ≢ actor ∷ key ∷ body ∷ []
IsNoLineOf kind.Fill fields = (actor key : List ℕ) (length : ℕ) → length < 2 ^ 64 → fields ≢ actor ∷ key ∷ decimal length ∷ []
IsNoLineOf kind.Get fields = NamesNoKey fields
IsNoLineOf kind.GetVersion fields = NamesNoVersion fields
IsNoLineOf kind.Range fields = (actor key : List ℕ) (from to : ℕ) → from < 2 ^ 64 → to < 2 ^ 64 → fields ≢ actor ∷ key ∷ decimal from ∷ decimal to ∷ []
IsNoLineOf kind.Delete fields = NamesNoKey fields
IsNoLineOf kind.DeleteVersion fields = NamesNoVersion fields
IsNoLineOf kind.Go fields = NamesNoActor fields
IsNoLineOf kind.Run fields = NamesNoActor fields
IsNoLineOf kind.UpTo fields = NamesNoActor fields
IsNoLineOf kind.Lose fields = NamesNoIndex fields
IsNoLineOf kind.Back fields = NamesNoIndex fields
IsNoLineOf kind.Hurt fields = (index : ℕ) (name : List ℕ) (place : ℕ) → index < 2 ^ 8 → place < 2 ^ 64 → fields ≢ decimal index ∷ name ∷ decimal place ∷ []
IsNoLineOf kind.Fuse fields = (index calls : ℕ) (late : Bool) → index < 2 ^ 8 → calls < 2 ^ 64 → fields ≢ fields_of (line.Fuse index calls late)
IsNoLineOf kind.Stop fields = fields ≢ []

-- a line of this kind has these words behind the first, and its numbers fit their types
pub record IsLineOf (kind : Kind) (fields : List (List ℕ)) (line : Line) : Type 0 where
  pub of_kind : kind_of line ≡ kind
  pub has_fields : fields_of line ≡ fields
  pub fits : Fits line

-- words behind the first were read as a line of a kind, or are those of none
abbrev pub ReadsAs : Kind → List (List ℕ) → Option Line → Type 0
ReadsAs kind fields None = IsNoLineOf kind fields
ReadsAs kind fields (Some line) = IsLineOf kind fields line

-- words are those of a line, as far as words go, or of none whose numbers fit their types
abbrev pub ReadsWords : List (List ℕ) → Option Line → Type 0
ReadsWords words None = (line : Line) → Fits line → words ≢ words_of line
ReadsWords words (Some line) = Fits line × (words ≡ words_of line)

-- the words of a line are words, and it is spelled so
pub record IsTextOf (text : List ℕ) (line : Line) : Type 0 where
  pub words : All IsWord (words_of line)
  pub fits : Fits line
  pub are : text ≡ spelling line

-- a text is that of a line, or of none
abbrev pub ReadsText : List ℕ → Option Line → Type 0
ReadsText text None = (line : Line) → IsTextOf text line → ⊥
ReadsText text (Some line) = IsTextOf text line

-- a line is kept where it may stand behind others
abbrev pub IsPlaced : List Line → Line → Option Line → Type 0
IsPlaced before line None = MayFollow before line → ⊥
IsPlaced before line (Some kept) = (kept ≡ line) × MayFollow before line
