-- What the loop over an op's steps keeps, and what it leaves.
use Rattle.std.specs.Prelude.{◌≡◌, ℕ, ◌<◌, List, [], ◌∷◌, ◌++◌, Option}
use Rattle.call_types.specs.Feeds.{FeedView}
use Rattle.call_types.specs.declared.feed.Cut.{Cut}
use Rattle.desk_base.specs.Answering.{Task}
use Rattle.desk_base.specs.Telling.{Effect}
use Rattle.drive_base.specs.declared.drive.Drive.{Ghosts}
use Rattle.drive_base.specs.declared.plan.SetPlan.{SetPlan}
use Rattle.slot_core.specs.declared.stub.Stub.{Stub}
use Rattle.receipts.specs.Events.{Event, Log, notes_of}
use Rattle.receipts.specs.Events.Event.{BarredFrom, Called, Fed, Told, Turned}
use Rattle.receipts.specs.Paying.{Pays}
use Rattle.op_steps.specs.Claims.{Claim, no_claim}
use Rattle.op_steps.specs.Notes.{notes_by}
use Rattle.op_steps.specs.Steps.{Ran}
use Rattle.op_steps.specs.Store.{Store, StoreOver, FeedSeen, SlotSeen, TellerSeen, any_effect, store_of}
use Rattle.op_steps.specs.Words.{LetsGo}
use Rattle.drive_base.specs.View.{DriveView}
use Rattle.op_steps.specs.declared.next.OpNext.{OpNext}
use Rattle.op_steps.specs.declared.next.OpNext.TheVariants.{Data, Feed, Section, Tell}

-- a feed is that of an op whose body has this stated length, of which the op has taken so much
pub record IsFeedAt (long taken : ℕ) (feed : FeedView) : Type 0 where
  pub stated : feed.stated ≡ long
  pub given : feed.given ≡ taken

-- what an op owes pays what its call owes
abbrev pub PaysFor : SetPlan → Task → (Option Cut → Log → Type 0) → Type 0
PaysFor set task Owed = (cut : Option Cut) (log : Log) → Owed cut log → Pays set task cut log

-- the notes of events are added to the stubs of a receipt
abbrev pub AddsNotes : Log → List Stub → List Stub → Type 0
AddsNotes log old new = notes_by new ≡ notes_by old ++ notes_of log

-- an event is that of a step which came next so
abbrev pub IsEventOf : OpNext → Event → Type 0
IsEventOf next (Turned k _ shown) = next ≡ Section k
IsEventOf next (BarredFrom k why) = next ≡ Section k
IsEventOf next (Called k made) = next ≡ Data
IsEventOf next (Fed bytes cut) = next ≡ Feed
IsEventOf next (Told telling cut) = next ≡ Tell

-- a log is one step which came next so; at data drives there may be none, where no call could be made
abbrev pub IsStepOf : OpNext → Log → Type 0
IsStepOf next [] = next ≡ Data
IsStepOf next (event ∷ more) = IsEventOf next event × (more ≡ [])

-- and it leads from one store to the other
abbrev pub OneStep : {S T : Type 0} → OpNext → (Log → StoreOver S T → StoreOver S T → Type 0) → Log → StoreOver S T → StoreOver S T → Type 0
OneStep next Leads log old new = IsStepOf next log × Leads log old new

-- steps were done, none, one or more: each is an event of the log, which led from one store to the other; a store is given by what is held of it
abbrev pub RanSoOver : {S T : Type 0} → (Log → StoreOver S T → StoreOver S T → Type 0) → (Claim → Log → Type 0) → (Claim → Log → Type 0)
    → (Claim → StoreOver S T) → (Claim → StoreOver S T) → List Stub → List Stub → Type 0
RanSoOver Leads Old New old new stubs_old stubs_new = (claim : Claim) (log : Log) → Old claim log
    → (later : Claim) × (more : Log) × New later (log ++ more) × Leads more (old claim) (new later) × AddsNotes more stubs_old stubs_new

-- an op was done: a log of its steps leads from what there was, of which it held nothing, to what there is then; the log is as it is owed, and its notes are
-- those of the stubs. Something of the store is still held only where some section could not be done
pub record OpLed (Owed : Log → Type 0) (stubs : List Stub) (slot : ℕ) (Leads : Log → Claim → Claim → Type 0) : Type 0 where
  pub left : Claim
  pub log : Log
  pub lets_go : LetsGo left log
  pub owed : Owed log
  pub ran : Leads log (no_claim slot) left
  pub notes : notes_by stubs ≡ notes_of log

module _ {D T : Type 0} (ghosts : Ghosts D) (takes breaks : Effect T) where
  -- the step that came next was done on a store that one op has for itself
  abbrev pub StepsSo : OpNext → (Claim → Log → Type 0) → (Claim → Log → Type 0) → SetPlan → (Claim → Store D T) → (Claim → Store D T) → List Stub → List Stub
      → Type 0
  StepsSo next Old New set = RanSoOver (OneStep next (Ran ghosts takes breaks set)) Old New

module _ {D : Type 0} (ghosts : Ghosts D) (set : SetPlan) where
  -- a log of one call leads from a store to another. The call holds nothing before it, and lets go of what it held
  pub record CallRan (log : Log) (slots : List (SlotSeen D)) (disks : List DriveView) (slots_after : List (SlotSeen D)) (disks_after : List DriveView) : Type 0 where
    pub slot : ℕ
    pub in_store : slot < 64
    pub left : Claim
    pub feed : FeedSeen
    pub feed_after : FeedSeen
    pub teller : TellerSeen (Unit {0})
    pub teller_after : TellerSeen (Unit {0})
    pub ran : Ran ghosts any_effect any_effect set log (store_of slots disks (no_claim slot) feed teller) (store_of slots_after disks_after left feed_after teller_after)
    pub lets_go : LetsGo left log
