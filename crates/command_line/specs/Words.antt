-- The words of a command line: options, each at most once, and then one command.
use Rattle.std.specs.Prelude.{◌≡◌, ◌≢◌, ◌⊎◌, ◌+◌, ◌-◌, ◌*◌, ◌≤◌, ℕ, Bool, false, List, [], ◌∷◌, ◌++◌, All, Contains, codes, cond, length, map, slice_index_or, Some, None, MatchOption, String, ⊤}
use Rattle.std.specs.List.{AllByRecursion, flat_map}
use Rattle.std.specs.String.{string_bytes}
use Rattle.drive_base.specs.Plan.{usual_parity_of}
use Rattle.drive_base.specs.declared.plan.SetPlan.{SetPlan}
use Rattle.uuid.specs.Text.{parsed}
use Rattle.command_line.specs.declared.plan.Command.{Command}
use Rattle.command_line.specs.declared.plan.Command.TheVariants.{Pipe, Serve, Status}
use Rattle.command_line.specs.declared.plan.Plan.{Plan}

-- no item stands twice
abbrev pub AreDistinct : {A : Type 0} → List A → Type 0
AreDistinct [] = ⊤
AreDistinct (x ∷ xs) = AllByRecursion (λ y. x ≢ y) xs × AreDistinct xs

-- a byte is a decimal digit
abbrev pub IsDigit : ℕ → Type 0
IsDigit byte = (48 ≤ byte) × (byte ≤ 57)

-- the number that digits write behind one that was read
abbrev pub number_behind : ℕ → List ℕ → ℕ
number_behind n [] = n
number_behind n (byte ∷ bytes) = number_behind (n * 10 + (byte - 48)) bytes

-- a text is a number in 1 to 20 decimal digits
pub record IsNumber (text : List ℕ) (n : ℕ) : Type 0 where
  pub some : 1 ≤ length text
  pub few : length text ≤ 20
  pub digits : All IsDigit text
  pub is : n ≡ number_behind 0 text

-- a number from one to another
pub record IsNumberIn (least most : ℕ) (text : List ℕ) (n : ℕ) : Type 0 where
  pub number : IsNumber text n
  pub above : least ≤ n
  pub below : n ≤ most

-- an option with its value, in one word or in two
pub record Choice : Type 0 where
  pub name : List ℕ
  pub value : List ℕ
  pub joined : Bool

-- its words
abbrev pub choice_words : Choice → List (List ℕ)
choice_words choice = cond choice.joined ((codes "--" ++ choice.name ++ codes "=" ++ choice.value) ∷ []) ((codes "--" ++ choice.name) ∷ choice.value ∷ [])

-- the names of options
abbrev pub option_names : List (List ℕ)
option_names = codes "root" ∷ codes "drives" ∷ codes "parity" ∷ codes "set" ∷ codes "listen" ∷ codes "workers" ∷ []

-- an option has a name of these and a value, which doesn't begin with `-` where it is a word of its own
pub record IsChoice (choice : Choice) : Type 0 where
  pub named : Contains option_names choice.name
  pub some : 1 ≤ length choice.value
  pub plain : choice.joined ≡ false → slice_index_or choice.value 0 0 ≢ 45

-- what options say: the option of this name has a value, of which this holds, or there is none, and then that holds
abbrev pub OptionSays : List Choice → List ℕ → (List ℕ → Type 0) → Type 0 → Type 0
OptionSays choices name given usual = ((choice : Choice) × Contains choices choice × (choice.name ≡ name) × given choice.value)
    ⊎ (((choice : Choice) → Contains choices choice → choice.name ≢ name) × usual)

-- the set of a plan is what the options say
pub record SaysSet (choices : List Choice) (set : SetPlan) : Type 0 where
  pub drives : OptionSays choices (codes "drives") (λ text. IsNumberIn 4 16 text set.drives) (set.drives ≡ 4)
  pub parity : OptionSays choices (codes "parity") (λ text. IsNumber text set.parity) (set.parity ≡ usual_parity_of set.drives)
  pub some_parity : 1 ≤ set.parity
  pub half_at_most : set.parity + set.parity ≤ set.drives
  pub id : OptionSays choices (codes "set") (λ text. parsed text ≡ Some set.id) (set.id ≡ 0 ∷ 0 ∷ 0 ∷ 0 ∷ 0 ∷ 0 ∷ 0 ∷ 0 ∷ 0 ∷ 0 ∷ 0 ∷ 0 ∷ 0 ∷ 0 ∷ 0 ∷ 0 ∷ [])
  pub out : set.out ≡ 0

-- the word of a command
abbrev pub command_word : Command → List ℕ
command_word Pipe = codes "pipe"
command_word Serve = codes "serve"
command_word Status = codes "status"

-- words are a command line that says this plan
pub record IsCommandLine (words : List (List ℕ)) (plan : Plan) : Type 0 where
  pub choices : List Choice
  pub each : All IsChoice choices
  pub once : AreDistinct (map (λ (c : Choice). c.name) choices)
  pub are : words ≡ flat_map choice_words choices ++ command_word plan.command ∷ []
  pub set : SaysSet choices plan.set
  pub workers : OptionSays choices (codes "workers") (λ text. IsNumberIn 1 64 text plan.workers) (plan.workers ≡ 16)
  pub listen : OptionSays choices (codes "listen") (λ text. string_bytes plan.listen ≡ text) (string_bytes plan.listen ≡ codes "127.0.0.1:9000")
  pub root : OptionSays choices (codes "root") (λ text. MatchOption plan.root ⊥ (λ root. string_bytes root ≡ text)) (plan.root ≡ None)

-- the words of the program are a command line that says this plan
abbrev pub Says : {Y : Type 0} → List (String Y) → Plan → Type 0
Says words plan = IsCommandLine (map string_bytes words) plan
