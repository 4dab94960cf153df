-- The steps of an op on a store, one for each event of its log.
use Rattle.std.specs.Prelude.{◌≡◌, ℕ, ◌<◌, List, [], ◌∷◌, length, slice_index_or, slice_set, Option}
use Rattle.call_types.specs.declared.feed.Cut.{Cut}
use Rattle.desk_base.specs.Telling.{Effect, Telling}
use Rattle.drive_base.specs.Calls.{MadeCall}
use Rattle.drive_base.specs.declared.drive.Drive.{Ghosts}
use Rattle.drive_base.specs.View.{DriveView}
use Rattle.drive_base.specs.declared.plan.SetPlan.{SetPlan}
use Rattle.receipts.specs.Events.{Event, Log, Note, Shown}
use Rattle.receipts.specs.Events.Event.{BarredFrom, Called, Fed, Told, Turned}
use Rattle.receipts.specs.declared.barred.Barred.{Barred}
use Rattle.op_steps.specs.Moves.{BarCause, CallMoves, FeedMoves, TellMoves, TurnMoves}
use Rattle.op_steps.specs.Store.{SlotSeen, Store, StoreOver, store_of}

-- one slot of a list: the one of this index was so
abbrev pub IsSlotAt : {D : Type 0} → List (SlotSeen D) → ℕ → SlotSeen D → Type 0
IsSlotAt {D} slots k was = (k < length slots) × ((d : SlotSeen D) → slice_index_or slots k d ≡ was)

module _ {D T : Type 0} (ghosts : Ghosts D) where
  -- a section of the slot of this index; the other slots, feed and teller stay
  pub record Turns (k : ℕ) (note : Option Note) (shown : Shown) (old new : Store D T) : Type 0 where
    pub was : SlotSeen D
    pub now : SlotSeen D
    pub is : IsSlotAt old.slots k was
    pub disks : List DriveView
    pub moves : TurnMoves ghosts was now note shown old.claim new.claim old.disks disks
    pub leaves : new ≡ store_of (slice_set old.slots k now) disks new.claim old.feed old.teller

-- a section of it could not be done, and all stays
pub record IsBarred {D T : Type 0} (k : ℕ) (why : Barred) (old new : Store D T) : Type 0 where
  pub was : SlotSeen D
  pub is : IsSlotAt old.slots k was
  pub cause : BarCause why was.numbers
  pub leaves : new ≡ old

-- one call of a data drive
pub record Calls {S T : Type 0} (set : SetPlan) (k : ℕ) (made : MadeCall) (old new : StoreOver S T) : Type 0 where
  pub moves : CallMoves set k made old.claim new.claim old.disks new.disks
  pub leaves : new ≡ store_of old.slots new.disks new.claim old.feed old.teller

-- bytes taken of the body, and a telling
pub record Feeds {S T : Type 0} (bytes : List ℕ) (cut : Option Cut) (old new : StoreOver S T) : Type 0 where
  pub moves : FeedMoves bytes cut old.feed new.feed
  pub leaves : new ≡ store_of old.slots old.disks old.claim new.feed old.teller

pub record TellsOne {S T : Type 0} (takes breaks : Effect T) (telling : Telling) (cut : Option Cut) (old new : StoreOver S T) : Type 0 where
  pub moves : TellMoves takes breaks telling cut old.teller new.teller
  pub leaves : new ≡ store_of old.slots old.disks old.claim old.feed new.teller

module _ {S T : Type 0} (turns : ℕ → Option Note → Shown → StoreOver S T → StoreOver S T → Type 0)
    (bars : ℕ → Barred → StoreOver S T → StoreOver S T → Type 0) (takes breaks : Effect T) (set : SetPlan) where
  -- what an event does to a store, where a section does this and one that could not be done that
  abbrev pub StepOver : Event → StoreOver S T → StoreOver S T → Type 0
  StepOver (Turned k note shown) old new = turns k note shown old new
  StepOver (BarredFrom k why) old new = bars k why old new
  StepOver (Called k made) old new = Calls set k made old new
  StepOver (Fed bytes cut) old new = Feeds bytes cut old new
  StepOver (Told telling cut) old new = TellsOne takes breaks telling cut old new

  -- a log leads from one store to another
  abbrev pub RanOver : Log → StoreOver S T → StoreOver S T → Type 0
  RanOver [] old new = new ≡ old
  RanOver (event ∷ log) old new = (mid : StoreOver S T) × StepOver event old mid × RanOver log mid new

module _ {D T : Type 0} (ghosts : Ghosts D) (takes breaks : Effect T) (set : SetPlan) where
  -- so of the store that one op has for itself
  abbrev pub StepMoves : Event → Store D T → Store D T → Type 0
  StepMoves = StepOver (Turns ghosts) IsBarred takes breaks set

  abbrev pub Ran : Log → Store D T → Store D T → Type 0
  Ran = RanOver (Turns ghosts) IsBarred takes breaks set
