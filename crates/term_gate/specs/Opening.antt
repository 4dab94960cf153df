-- What opening a set answers, and what it leaves.
use Rattle.std.specs.Prelude.{◌≡◌, ◌⊎◌, ℕ, ◌+◌, ◌<◌, ◌≤◌, ◌^◌, List, Option, length, Result, Ok, Err}
use Rattle.call_types.specs.Good.{IsGoodMask}
use Rattle.call_types.specs.declared.why.FileKind.TheVariants.{Format}
use Rattle.call_types.specs.declared.why.Why.{Why}
use Rattle.call_types.specs.declared.why.Why.TheVariants.{Good, Lacks}
use Rattle.drive_base.specs.DriveSet.{count_in}
use Rattle.drive_base.specs.Plan.{data_drives, write_drives}
use Rattle.drive_base.specs.View.{AllOnlyRead, DriveView}
use Rattle.drive_base.specs.declared.plan.SetPlan.{SetPlan}
use Rattle.term_gate.specs.Deciding.{AllAnswered, AllGood, AreAbsent, AreOf, HasOther, IsTop}
use Rattle.term_gate.specs.Reading.{AreRead, why_at}
use Rattle.term_gate.specs.Writing.{AreWritten}
use Rattle.term_gate.specs.declared.opening.Opened.{Opened}
use Rattle.term_gate.specs.declared.record.Format.{Format as DriveFormat}
use Rattle.term_gate.specs.declared.refusal.OpenRefusal.{OpenRefusal}
use Rattle.term_gate.specs.declared.refusal.OpenRefusal.TheVariants.{WrongSet, OpenQuorum, NoMemory, TermSpent, AuditFailed}

-- how many drives have a good letter, as a mask of them counts
pub record CountGood (whys : List Why) (count : ℕ) : Type 0 where
  pub mask : ℕ
  pub good : IsGoodMask whys mask
  pub count_is : count ≡ count_in mask (length whys)

-- a format of term 0 was written on each drive that had none; the others had a good one
pub record IsMade (set : SetPlan) (whys written : List Why) (old new : List DriveView) : Type 0 where
  pub answered : AllAnswered whys
  pub passed : ℕ
  pub had : IsGoodMask whys passed
  pub wrote : AreWritten set 0 passed Good written old new

-- why a set wasn't made: a drive neither gave a good format nor has none, and nothing was changed; or a write failed
abbrev pub IsUnmade : SetPlan → List Why → List Why → List DriveView → List DriveView → Type 0
IsUnmade set whys told old new = ((told ≡ whys) × (AllAnswered whys → ⊥) × (new ≡ old))
    ⊎ (IsMade set whys told old new × (AllGood told → ⊥))

-- what making a set answers and leaves, by the letters of the reads
abbrev pub MakesSet : {T : Type 0} → SetPlan → List Why → Result T OpenRefusal → List DriveView → List DriveView → Type 0
MakesSet set whys (Ok _) old new = (written : List Why) × IsMade set whys written old new × AllGood written
MakesSet set whys (Err (WrongSet _ _)) old new = ⊥
MakesSet set whys (Err (OpenQuorum told)) old new = IsUnmade set whys told old new
MakesSet set whys (Err NoMemory) old new = new ≡ old
MakesSet set whys (Err TermSpent) old new = ⊥
MakesSet set whys (Err (AuditFailed _ _)) old new = ⊥

-- the term above the top was written on every drive that isn't out, and so many took it
pub record TermIsWritten (set : SetPlan) (top out : ℕ) (whys : List Why) (taken : ℕ) (old new : List DriveView) : Type 0 where
  pub below : top + 1 < 2 ^ 48
  pub wrote : AreWritten set (top + 1) out (Lacks Format) whys old new
  pub took : CountGood whys taken

-- what taking the term above the top answers and leaves
abbrev pub TakesTerm : SetPlan → ℕ → ℕ → Result Opened OpenRefusal → List DriveView → List DriveView → Type 0
TakesTerm set top out (Ok opened) old new = (whys : List Why) × (taken : ℕ) × TermIsWritten set top out whys taken old new
    × (write_drives set.drives set.parity ≤ taken) × (opened.term ≡ top + 1) × (opened.out ≡ out)
TakesTerm set top out (Err (WrongSet _ _)) old new = ⊥
TakesTerm set top out (Err (OpenQuorum whys)) old new = (taken : ℕ) × TermIsWritten set top out whys taken old new
    × (taken < write_drives set.drives set.parity)
TakesTerm set top out (Err NoMemory) old new = (new ≡ old) × (top + 1 < 2 ^ 48)
TakesTerm set top out (Err TermSpent) old new = (new ≡ old) × (top + 1 ≡ 2 ^ 48)
TakesTerm set top out (Err (AuditFailed _ _)) old new = ⊥

-- no good format has a term of 1 or more, and some drive has none: the set is being made
abbrev pub IsBeingMade : List Why → ℕ → Type 0
IsBeingMade whys top = (top ≡ 0) × ((k : ℕ) × (k < length whys) × (why_at whys k ≡ Lacks Format))

-- the formats that were read are all of the set, and what they say
pub record IsRead (set : SetPlan) (formats : List (Option DriveFormat)) (whys : List Why) (top : ℕ) (old new : List DriveView) : Type 0 where
  pub read : AreRead formats whys old new
  pub own : AreOf set (length formats) formats
  pub top_is : IsTop formats top

-- some drive has a format that isn't its own in the set
pub record IsOther (set : SetPlan) (found wanted : DriveFormat) (old new : List DriveView) : Type 0 where
  pub formats : List (Option DriveFormat)
  pub whys : List Why
  pub read : AreRead formats whys old new
  pub other : HasOther set formats found wanted

-- a set that is being made isn't made, or is made and opened with no drive out
abbrev pub IsMadeAndOpened : SetPlan → List Why → Result Opened OpenRefusal → List DriveView → List DriveView → Type 0
IsMadeAndOpened set whys result old new = ((mid : List DriveView) × (written : List Why) × IsMade set whys written old mid × AllGood written
    × TakesTerm set 0 0 result mid new)
    ⊎ ((told : List Why) × (result ≡ Err (OpenQuorum told)) × IsUnmade set whys told old new)
    ⊎ ((result ≡ Err NoMemory) × (new ≡ old))

-- a set is opened where enough formats are good, and the drives without a format are out; else nothing is changed
abbrev pub IsOpenedOrNot : SetPlan → List Why → ℕ → Result Opened OpenRefusal → List DriveView → List DriveView → Type 0
IsOpenedOrNot set whys top result old new = (good : ℕ) × CountGood whys good
    × (((data_drives set.drives set.parity ≤ good) × ((out : ℕ) × AreAbsent whys out × TakesTerm set top out result old new))
    ⊎ ((good < data_drives set.drives set.parity) × (result ≡ Err (OpenQuorum whys)) × (new ≡ old)))

-- what follows once the formats are read and all of the set: it is being made, or was made before
abbrev pub GoesOnFrom : SetPlan → List Why → ℕ → Result Opened OpenRefusal → List DriveView → List DriveView → Type 0
GoesOnFrom set whys top result old new = (IsBeingMade whys top × IsMadeAndOpened set whys result old new)
    ⊎ ((IsBeingMade whys top → ⊥) × IsOpenedOrNot set whys top result old new)

-- the formats were read and are all of the set, and what followed
pub record Follows (set : SetPlan) (result : Result Opened OpenRefusal) (old new : List DriveView) : Type 0 where
  pub formats : List (Option DriveFormat)
  pub whys : List Why
  pub top : ℕ
  pub mid : List DriveView
  pub read : IsRead set formats whys top old mid
  pub goes_on : GoesOnFrom set whys top result mid new

-- what opening a set answers and leaves
abbrev pub Opens : SetPlan → Result Opened OpenRefusal → List DriveView → List DriveView → Type 0
Opens set (Ok opened) old new = Follows set (Ok opened) old new
Opens set (Err (WrongSet found wanted)) old new = IsOther set found wanted old new
Opens set (Err (OpenQuorum whys)) old new = Follows set (Err (OpenQuorum whys)) old new
Opens set (Err NoMemory) old new = AllOnlyRead old new ⊎ Follows set (Err NoMemory) old new
Opens set (Err TermSpent) old new = Follows set (Err TermSpent) old new
Opens set (Err (AuditFailed _ _)) old new = ⊥
