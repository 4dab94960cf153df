-- What the formats and the letters of the drives say.
use Rattle.std.specs.Prelude.{◌≡◌, ◌⊎◌, ◌↔◌, ℕ, ◌<◌, ◌≤◌, List, Option, None, Some, length, Result, Ok, Err}
use Rattle.std.specs.Int.{IsBitSet}
use Rattle.call_types.specs.declared.why.FileKind.TheVariants.{Format}
use Rattle.call_types.specs.declared.why.Why.{Why}
use Rattle.call_types.specs.declared.why.Why.TheVariants.{Good, Lacks}
use Rattle.drive_base.specs.declared.plan.SetPlan.{SetPlan}
use Rattle.term_gate.specs.Formats.{IsOf, format_of}
use Rattle.term_gate.specs.Reading.{format_at, why_at}
use Rattle.term_gate.specs.declared.record.Format.{Format as DriveFormat}
use Rattle.term_gate.specs.declared.refusal.OpenRefusal.{OpenRefusal}
use Rattle.term_gate.specs.declared.refusal.OpenRefusal.TheVariants.{WrongSet, OpenQuorum, NoMemory, TermSpent, AuditFailed}

-- the term of a format, 0 where there is none
abbrev pub term_of : Option DriveFormat → ℕ
term_of None = 0
term_of (Some f) = f.term

-- of the formats below a place none has a greater term than this, and some has it, or it is 0
pub record IsTopBelow (n : ℕ) (formats : List (Option DriveFormat)) (top : ℕ) : Type 0 where
  pub none_above : (k : ℕ) → k < n → term_of (format_at formats k) ≤ top
  pub had : (top ≡ 0) ⊎ ((k : ℕ) × (k < n) × (term_of (format_at formats k) ≡ top))

-- of all formats
abbrev pub IsTop : List (Option DriveFormat) → ℕ → Type 0
IsTop formats top = IsTopBelow (length formats) formats top

-- each format below a place is that of its drive in the set
abbrev pub AreOf : SetPlan → ℕ → List (Option DriveFormat) → Type 0
AreOf set n formats = (k : ℕ) (f : DriveFormat) → k < n → format_at formats k ≡ Some f → IsOf set k f

-- some drive has a format that isn't its own in the set, and none before it has; what it should have is told with term 0
pub record HasOther (set : SetPlan) (formats : List (Option DriveFormat)) (found wanted : DriveFormat) : Type 0 where
  pub place : ℕ
  pub within : place < length formats
  pub is : format_at formats place ≡ Some found
  pub wanted_is : wanted ≡ format_of set place 0
  pub other : IsOf set place found → ⊥
  pub first : AreOf set place formats

-- what comparing the formats with the set answers
abbrev pub ChecksSet : {T : Type 0} → SetPlan → List (Option DriveFormat) → Result T OpenRefusal → Type 0
ChecksSet set formats (Ok _) = AreOf set (length formats) formats
ChecksSet set formats (Err (WrongSet found wanted)) = HasOther set formats found wanted
ChecksSet set formats (Err (OpenQuorum _)) = ⊥
ChecksSet set formats (Err NoMemory) = ⊥
ChecksSet set formats (Err TermSpent) = ⊥
ChecksSet set formats (Err (AuditFailed _ _)) = ⊥

-- the mask has exactly the drives that showed no format
abbrev pub AreAbsent : List Why → ℕ → Type 0
AreAbsent whys mask = (k : ℕ) → IsBitSet mask k ↔ ((k < length whys) × (why_at whys k ≡ Lacks Format))

-- the mask has the drives of another one, and a drive also where it showed no format
abbrev pub HasIfAbsent : ℕ → ℕ → Why → ℕ → Type 0
HasIfAbsent old index why new = (k : ℕ) → IsBitSet new k ↔ (IsBitSet old k ⊎ ((k ≡ index) × (why ≡ Lacks Format)))

-- each drive gave a good format or has none
abbrev pub AllAnswered : List Why → Type 0
AllAnswered whys = (k : ℕ) → k < length whys → (why_at whys k ≡ Good) ⊎ (why_at whys k ≡ Lacks Format)

-- each letter is good
abbrev pub AllGood : List Why → Type 0
AllGood whys = (k : ℕ) → k < length whys → why_at whys k ≡ Good
