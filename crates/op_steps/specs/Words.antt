-- What each method of an op does, as a step of the log that stands for it.
use Rattle.std.specs.Prelude.{◌≡◌, ◌⊎◌, ℕ, ◌<◌, List, [], ◌∷◌, ◌++◌, Contains, slice_set, Option}
use Rattle.call_types.specs.declared.feed.Cut.{Cut}
use Rattle.desk_base.specs.Telling.{Effect, Telling}
use Rattle.drive_base.specs.Calls.{MadeCall}
use Rattle.drive_base.specs.declared.drive.Drive.{Ghosts}
use Rattle.drive_base.specs.View.{DriveView}
use Rattle.drive_base.specs.declared.plan.SetPlan.{SetPlan}
use Rattle.slot_core.specs.declared.stub.Stub.{Stub}
use Rattle.receipts.specs.Events.{Log, Shown}
use Rattle.receipts.specs.Events.Event.{BarredFrom, Called, Fed, Told, Turned}
use Rattle.receipts.specs.declared.barred.Barred.{Barred}
use Rattle.op_steps.specs.Claims.{Claim, no_claim}
use Rattle.op_steps.specs.Moves.{CallMoves, FeedMoves, TellMoves, TurnMoves}
use Rattle.op_steps.specs.Notes.{noted}
use Rattle.op_steps.specs.Steps.{IsSlotAt}
use Rattle.op_steps.specs.Store.{FeedSeen, SlotSeen, TellerSeen}
use Rattle.op_steps.specs.declared.next.OpNext.{OpNext}
use Rattle.op_steps.specs.declared.next.OpNext.TheVariants.{Data, Done, Feed, Section, Tell}

-- a section's slot is one of 64
abbrev pub IsInStore : OpNext → Type 0
IsInStore (Section k) = k < 64
IsInStore Data = Unit {0}
IsInStore Feed = Unit {0}
IsInStore Tell = Unit {0}
IsInStore Done = Unit {0}

-- a section comes next
abbrev pub IsSection : OpNext → Type 0
IsSection (Section k) = Unit {0}
IsSection Data = ⊥
IsSection Feed = ⊥
IsSection Tell = ⊥
IsSection Done = ⊥

module _ {D : Type 0} (ghosts : Ghosts D) where
  -- a section adds its note to the log, with what it showed
  abbrev pub TurnsSo : (Claim → Log → Type 0) → (Claim → Log → Type 0) → Option Stub → SlotSeen D → SlotSeen D → List DriveView → List DriveView → Type 0
  TurnsSo Old New stub was now disks_old disks_new = (claim : Claim) (log : Log) → Old claim log
      → (later : Claim) × (shown : Shown) × New later (log ++ Turned was.numbers.index (noted stub) shown ∷ [])
      × TurnMoves ghosts was now (noted stub) shown claim later disks_old disks_new

module _ {D : Type 0} (ghosts : Ghosts D) where
  -- a section of one slot of a store does so, and the others stay
  abbrev pub SectionsSo : (Claim → Log → Type 0) → (Claim → Log → Type 0) → ℕ → Option Stub → List (SlotSeen D) → List (SlotSeen D)
      → List DriveView → List DriveView → Type 0
  SectionsSo Old New k stub old new disks_old disks_new = (claim : Claim) (log : Log) → Old claim log
      → (later : Claim) × (shown : Shown) × (was : SlotSeen D) × (now : SlotSeen D) × New later (log ++ Turned k (noted stub) shown ∷ [])
      × IsSlotAt old k was × (new ≡ slice_set old k now) × TurnMoves ghosts was now (noted stub) shown claim later disks_old disks_new

-- nothing is held; or a section of its slot could not be done, and then no id is held that was taken from the trash
abbrev pub LetsGo : Claim → Log → Type 0
LetsGo claim log = (claim ≡ no_claim claim.slot) ⊎ ((claim.taken ≡ []) × ((why : Barred) × Contains log (BarredFrom claim.slot why)))

-- an op that has ended may have this log, and then it holds nothing but where a section could not be done
abbrev pub HasEnded : (Claim → Log → Type 0) → Log → Type 0
HasEnded Stands log = (claim : Claim) × Stands claim log × LetsGo claim log

-- a section that could not be done is told with its reason
abbrev pub BarredSo : (Claim → Log → Type 0) → (Claim → Log → Type 0) → OpNext → Barred → Type 0
BarredSo Old New next why = (claim : Claim) (log : Log) (k : ℕ) → next ≡ Section k → Old claim log → New claim (log ++ BarredFrom k why ∷ [])

-- one call of a data drive adds its event to the log
abbrev pub CallsOne : (Claim → Log → Type 0) → SetPlan → Claim → Log → List DriveView → List DriveView → Type 0
CallsOne New set claim log old new = (later : Claim) × (k : ℕ) × (made : MadeCall) × New later (log ++ Called k made ∷ [])
    × CallMoves set k made claim later old new

-- so is the next step at data drives, or no call could be made, and then nothing was done
abbrev pub CallsSo : (Claim → Log → Type 0) → (Claim → Log → Type 0) → SetPlan → List DriveView → List DriveView → Type 0
CallsSo Old New set old new = (claim : Claim) (log : Log) → Old claim log → CallsOne New set claim log old new ⊎ (New claim log × (new ≡ old))

-- bytes taken of the body
abbrev pub FeedsSo : (Claim → Log → Type 0) → (Claim → Log → Type 0) → FeedSeen → FeedSeen → Type 0
FeedsSo Old New old new = (claim : Claim) (log : Log) → Old claim log
    → (bytes : List ℕ) × (cut : Option Cut) × New claim (log ++ Fed bytes cut ∷ []) × FeedMoves bytes cut old new

-- a telling
abbrev pub TellsSo : {T : Type 0} → Effect T → Effect T → (Claim → Log → Type 0) → (Claim → Log → Type 0) → TellerSeen T → TellerSeen T → Type 0
TellsSo takes breaks Old New old new = (claim : Claim) (log : Log) → Old claim log
    → (telling : Telling) × (cut : Option Cut) × New claim (log ++ Told telling cut ∷ []) × TellMoves takes breaks telling cut old new
