-- The values of options, as a command line is read.
use Rattle.std.specs.Prelude.{◌≡◌, ◌≢◌, ◌/◌, ℕ, List, [], ◌∷◌, ◌++◌, All, codes, map, Option, Some, None, MatchOption, String, option_map, if◌then◌else◌}
use Rattle.std.specs.Borrow.{Bor}
use Rattle.std.specs.List.{AllByRecursion, flat_map}
use Rattle.std.specs.Str.{bytes_eq}
use Rattle.std.specs.String.{string_bytes}
use Rattle.drive_base.specs.Plan.{usual_parity_of}
use Rattle.drive_base.specs.declared.plan.SetPlan.{SetPlan}
use Rattle.uuid.specs.Text.{parsed}
use Rattle.command_line.specs.Words.{AreDistinct, Choice, IsChoice, IsNumberIn, choice_words, command_word}
use Rattle.command_line.specs.declared.line.Found.{Found}
use Rattle.command_line.specs.declared.line.Line.{Line}
use Rattle.command_line.specs.declared.options.OptionName.{OptionName}
use Rattle.command_line.specs.declared.options.OptionName.TheVariants.{Root, Drives, Parity, Set, Listen, Workers}
use Rattle.command_line.specs.declared.options.Options.{Options}
use Rattle.command_line.specs.declared.plan.Command.{Command}

-- ---- names and values

-- the text of a name
abbrev pub name_text : OptionName → List ℕ
name_text Root = codes "root"
name_text Drives = codes "drives"
name_text Parity = codes "parity"
name_text Set = codes "set"
name_text Listen = codes "listen"
name_text Workers = codes "workers"

-- no option has this name
abbrev pub IsNoName : List ℕ → Type 0
IsNoName text = (name : OptionName) → text ≢ name_text name

-- the value that choices have under a name
abbrev pub value_of : List Choice → List ℕ → Option (List ℕ)
value_of [] name = None
value_of (choice ∷ choices) name = if bytes_eq choice.name name then Some choice.value else value_of choices name

-- the value that options have under a name
abbrev pub value_in : Options → OptionName → Option (List ℕ)
value_in options Root = option_map (λ (t : Bor (List ℕ)). t.now) options.root
value_in options Drives = option_map (λ (t : Bor (List ℕ)). t.now) options.drives
value_in options Parity = option_map (λ (t : Bor (List ℕ)). t.now) options.parity
value_in options Set = option_map (λ (t : Bor (List ℕ)). t.now) options.set
value_in options Listen = option_map (λ (t : Bor (List ℕ)). t.now) options.listen
value_in options Workers = option_map (λ (t : Bor (List ℕ)). t.now) options.workers

-- options and one value more, under a name that had none
pub record Takes (old : Options) (name : OptionName) (value : List ℕ) (new : Options) : Type 0 where
  pub free : value_in old name ≡ None
  pub each : (other : OptionName) → value_in new other ≡ (if bytes_eq (name_text name) (name_text other) then Some value else value_in old other)

-- options are the values of choices
abbrev pub AreValues : List Choice → Options → Type 0
AreValues choices options = (name : OptionName) → value_in options name ≡ value_of choices (name_text name)

-- ---- one option

-- a word doesn't begin with `--`
abbrev pub LacksDashes : List ℕ → Type 0
LacksDashes word = (rest : List ℕ) → word ≢ codes "--" ++ rest

-- `=` and a value, where there is one
abbrev pub behind : Option (List ℕ) → List ℕ
behind None = []
behind (Some value) = codes "=" ++ value

-- a text has no `=`
abbrev pub IsPlain : List ℕ → Type 0
IsPlain = AllByRecursion (λ byte. byte ≢ 61)

-- a word is `--`, a name with no `=`, and then `=` and a value, where there is one
pub record IsSplit (word name : List ℕ) (value : Option (Bor (List ℕ))) : Type 0 where
  pub plain : IsPlain name
  pub is : word ≡ codes "--" ++ (name ++ behind (option_map (λ (t : Bor (List ℕ)). t.now) value))

-- words don't begin with an option
abbrev pub BeginsWithNone : List (List ℕ) → Type 0
BeginsWithNone words = (choice : Choice) (rest : List (List ℕ)) → IsChoice choice → words ≢ choice_words choice ++ rest

-- words begin with an option of this name and value
pub record IsFound (words : List (List ℕ)) (found : Found) : Type 0 where
  pub choice : Choice
  pub is : IsChoice choice
  pub name : choice.name ≡ name_text found.name
  pub value : choice.value ≡ found.value.now
  pub are : words ≡ choice_words choice ++ map string_bytes found.rest.now

-- ---- a command, and a whole line

-- words are the one word of a command
abbrev pub IsCommandWord : List (List ℕ) → Command → Type 0
IsCommandWord words command = words ≡ command_word command ∷ []

-- a line has these options, and its command is the one word
abbrev pub IsEnd : Options → List (List ℕ) → Line → Type 0
IsEnd options words line = (line.options ≡ options) × IsCommandWord words line.command

-- words are the word of no command
abbrev pub IsNoCommand : List (List ℕ) → Type 0
IsNoCommand words = (command : Command) → words ≢ command_word command ∷ []

-- words are options, each at most once, and then a command
pub record AreChoices (words : List (List ℕ)) (choices : List Choice) (command : Command) : Type 0 where
  pub each : All IsChoice choices
  pub once : AreDistinct (map (λ (c : Choice). c.name) choices)
  pub are : words ≡ flat_map choice_words choices ++ command_word command ∷ []

-- words are this line
pub record IsLine (words : List (List ℕ)) (line : Line) : Type 0 where
  pub choices : List Choice
  pub read : AreChoices words choices line.command
  pub values : AreValues choices line.options

-- words are no line
abbrev pub IsNoLine : List (List ℕ) → Type 0
IsNoLine words = (choices : List Choice) (command : Command) → AreChoices words choices command → ⊥

-- ---- what values say

-- the value is a number from one to another, or there is none and the number is the usual one
abbrev pub IsNumberOr : ℕ → ℕ → ℕ → Option (List ℕ) → ℕ → Type 0
IsNumberOr least most usual value n = MatchOption value (n ≡ usual) (λ text. IsNumberIn least most text n)

-- the nil UUID
abbrev pub nil_id : List ℕ
nil_id = 0 ∷ 0 ∷ 0 ∷ 0 ∷ 0 ∷ 0 ∷ 0 ∷ 0 ∷ 0 ∷ 0 ∷ 0 ∷ 0 ∷ 0 ∷ 0 ∷ 0 ∷ 0 ∷ []

-- the value is a UUID, or there is none and the id is nil
abbrev pub IsIdOf : Option (List ℕ) → List ℕ → Type 0
IsIdOf value id = MatchOption value (id ≡ nil_id) (λ text. parsed text ≡ Some id)

-- the value is the folder, or there is none
abbrev pub IsRootOf : {Y : Type 0} → Option (List ℕ) → Option (String Y) → Type 0
IsRootOf value root = MatchOption value (root ≡ None) (λ text. MatchOption root ⊥ (λ folder. string_bytes folder ≡ text))

-- the value is where connections are awaited, or there is none and that is the usual place
abbrev pub IsListenOf : Option (List ℕ) → List ℕ → Type 0
IsListenOf value listen = MatchOption value (listen ≡ codes "127.0.0.1:9000") (λ text. listen ≡ text)

-- a set is what values of drives, parity and id say
pub record IsSetOf (drives parity id : Option (List ℕ)) (set : SetPlan) : Type 0 where
  pub has_drives : IsNumberOr 4 16 4 drives set.drives
  pub has_parity : IsNumberOr 1 (set.drives / 2) (usual_parity_of set.drives) parity set.parity
  pub has_id : IsIdOf id set.id
  pub none_out : set.out ≡ 0

-- a set is what options say
abbrev pub IsSetIn : Options → SetPlan → Type 0
IsSetIn options set = IsSetOf (value_in options Drives) (value_in options Parity) (value_in options Set) set

-- options say no set
abbrev pub IsNoSet : Options → Type 0
IsNoSet options = (set : SetPlan) → IsSetIn options set → ⊥
