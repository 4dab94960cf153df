-- The steps of one call among others. Between two steps other callers may work, so of a slot nothing is known from one turn to the next but what the turns
-- say; the ways to the data drives are the call's own.
use Rattle.std.specs.Prelude.{◌≡◌, ◌≤◌, ℕ, false, List, slice_set, Option}
use Rattle.audit_trail.specs.declared.entry.Entry.{Entry}
use Rattle.desk_base.specs.Telling.{Effect}
use Rattle.drive_base.specs.View.{DriveView}
use Rattle.drive_base.specs.declared.drive.Drive.{Ghosts}
use Rattle.drive_base.specs.declared.plan.SetPlan.{SetPlan}
use Rattle.receipts.specs.Events.{Log, Note, Shown}
use Rattle.receipts.specs.declared.barred.Barred.{Barred}
use Rattle.receipts.specs.declared.barred.Barred.TheVariants as barred
use Rattle.op_steps.specs.Moves.{TurnMoves}
use Rattle.op_steps.specs.Steps.{RanOver}
use Rattle.op_steps.specs.Store.{slot_seen, store_of}
use Rattle.turn_lock.specs.declared.view.Turn.{Turn}
use Rattle.store_shared.specs.Among.{IsPassAt, PassSeen, Reach, refused, with_turn}
use Rattle.store_shared.specs.Turned.{name_of, slot_in, turns_in}
use Rattle.store_shared.specs.declared.shared.TurnedSlot.{TurnedSlot}

-- a turn of the slot of this index, of this set, that a pass got: the ticket is how many turns the slot had, and the pass had seen no more than those
pub record IsTurnOf {D A : Type 0} (set : SetPlan) (k : ℕ) (was : PassSeen D A) (turn : Turn (TurnedSlot D A)) : Type 0 where
  pub slot : name_of turn.from ≡ record { set = set; index = k }
  pub ticket : turns_in turn.from ≡ turn.ticket
  pub later : was.seen ≤ turn.ticket
  pub unspent : was.spent ≡ false

module _ {D A T : Type 0} (ghosts : Ghosts D) (entries : A → Option (List Entry)) (count : A → ℕ) where
  -- one section of the slot of this index, in a turn of it: the data drives are only read, feed and teller stay, and the pass has the turn
  pub record TurnsAmong (set : SetPlan) (k : ℕ) (note : Option Note) (shown : Shown) (old new : Reach D A T) : Type 0 where
    pub was : PassSeen D A
    pub is : IsPassAt old.slots k was
    pub turn : Turn (TurnedSlot D A)
    pub comes : IsTurnOf set k was turn
    pub disks : List DriveView
    pub moves : TurnMoves ghosts (slot_seen entries count (slot_in turn.from)) (slot_seen entries count (slot_in turn.to)) note shown old.claim new.claim
        old.disks disks
    pub leaves : new ≡ store_of (slice_set old.slots k (with_turn was turn)) disks new.claim old.feed old.teller

-- why a section could not be done, by what became of the pass: the lock had no ticket left; or there was no memory, and the pass stays
abbrev pub PassBarred : {D A : Type 0} → Barred → PassSeen D A → PassSeen D A → Type 0
PassBarred barred.Spent was now = now ≡ refused was
PassBarred barred.NoMemory was now = now ≡ was

-- a section of the slot of this index could not be done, and all stays but for that
pub record IsBarredAmong {D A T : Type 0} (k : ℕ) (why : Barred) (old new : Reach D A T) : Type 0 where
  pub was : PassSeen D A
  pub now : PassSeen D A
  pub is : IsPassAt old.slots k was
  pub bars : PassBarred why was now
  pub leaves : new ≡ store_of (slice_set old.slots k now) old.disks old.claim old.feed old.teller

module _ {D A T : Type 0} (ghosts : Ghosts D) (entries : A → Option (List Entry)) (count : A → ℕ) (takes breaks : Effect T) (set : SetPlan) where
  -- what a log does
  abbrev pub RanAmong : Log → Reach D A T → Reach D A T → Type 0
  RanAmong = RanOver (TurnsAmong ghosts entries count set) IsBarredAmong takes breaks set
