-- What is seen of a shared desk and of its passes, and which passes are the desk's own.
use Rattle.std.specs.Prelude.{◌≡◌, ℕ, ◌<◌, List, length, map, option_map, slice_index_or, Option, Some, None}
use Rattle.atomic_table.specs.Seated.{TableId}
use Rattle.drive_base.specs.View.{views}
use Rattle.drive_base.specs.declared.drive.Drive.{Ghosts}
use Rattle.drive_base.specs.declared.plan.SetPlan.{SetPlan}
use Rattle.op_steps.specs.Claims.{Claim}
use Rattle.op_steps.specs.Store.{FeedSeen, TellerSeen, store_of}
use Rattle.turn_lock.specs.Passes.{lock_id, lock_of, made_of, made_with, parts_of}
use Rattle.turn_lock.specs.declared.lock.TurnLock.{TurnLock}
use Rattle.turn_lock.specs.declared.pass.Pass.{Pass}
use Rattle.store_shared.specs.Among.{Reach, passes_seen}
use Rattle.store_shared.specs.declared.shared.SharedDesk.{SharedDesk}
use Rattle.store_shared.specs.declared.shared.SharedPass.{SharedPass}
use Rattle.store_shared.specs.declared.shared.TurnedSlot.{TurnedSlot}

-- what no call changes of the pass of a lock: which lock it is of, what that was made with, and its parts of the right to close it
pub record PassHolds (D A : Type 0) : Type 0 where
  pub lock : TableId
  pub made : Option (TurnedSlot D A)
  pub parts : ℕ

-- what no call changes of a shared pass: its set, and that of its passes of the locks, in order
pub record SharedHolds (D A : Type 0) : Type 0 where
  pub set : SetPlan
  pub passes : List (Option (PassHolds D A))

module _ {D A : Type 0} where
  abbrev pub pass_holds : Pass (TurnedSlot D A) → PassHolds D A
  pass_holds pass = record { lock = lock_of pass; made = made_of pass; parts = parts_of pass }

  abbrev pub passes_hold : List (Option (Pass (TurnedSlot D A))) → List (Option (PassHolds D A))
  passes_hold passes = map (option_map pass_holds) passes

  -- the passes of the locks, and the ways to the data drives
  abbrev pub passes_in : SharedPass D A → List (Option (Pass (TurnedSlot D A)))
  passes_in pass = pass.passes.items

  abbrev pub pass_at : SharedPass D A → ℕ → Option (Pass (TurnedSlot D A))
  pass_at pass k = slice_index_or (passes_in pass) k None

  abbrev pub drives_of : SharedPass D A → List D
  drives_of pass = pass.disks.items

  abbrev pub set_held : SharedHolds D A → SetPlan
  set_held held = held.set

  abbrev pub shared_holds : SharedPass D A → SharedHolds D A
  shared_holds pass = record { set = pass.set; passes = passes_hold (passes_in pass) }

  -- a pass is there, and it is of this lock
  abbrev pub IsOfLock : TurnLock (TurnedSlot D A) → Option (PassHolds D A) → Type 0
  IsOfLock lock None = ⊥
  IsOfLock lock (Some holds) = (holds.lock ≡ lock_id lock) × (holds.made ≡ Some (made_with lock))

  -- there is a pass of each of 64 locks, in order
  abbrev pub AreOfLocks : List (TurnLock (TurnedSlot D A)) → List (Option (PassHolds D A)) → Type 0
  AreOfLocks locks passes = (k : ℕ) (lock : TurnLock (TurnedSlot D A)) → k < 64 → IsOfLock (slice_index_or locks k lock) (slice_index_or passes k None)

module _ {R D A G : Type 0} where
  -- the set and the locks of a desk
  abbrev pub set_of_desk : SharedDesk R D A G → SetPlan
  set_of_desk desk = desk.set

  abbrev pub locks_of : SharedDesk R D A G → List (TurnLock (TurnedSlot D A))
  locks_of desk = desk.locks.items

  -- a pass that holds this is one of the desk's
  pub record FitsDesk (desk : SharedDesk R D A G) (held : SharedHolds D A) : Type 0 where
    pub set : set_held held ≡ set_of_desk desk
    pub locks : AreOfLocks (locks_of desk) held.passes

  -- by these passes a call on a store over this set reaches all slots of the desk
  pub record ReachesAll (desk : SharedDesk R D A G) (set : SetPlan) (passes : List (Option (Pass (TurnedSlot D A)))) : Type 0 where
    pub set_is : set ≡ set_of_desk desk
    pub count : length passes ≡ 64
    pub locks : AreOfLocks (locks_of desk) (passes_hold passes)

module _ {D A T : Type 0} (ghosts : Ghosts D) where
  -- what a call has that is served over a pass and holds this
  abbrev pub reach_at : SharedPass D A → FeedSeen → TellerSeen T → Claim → Reach D A T
  reach_at pass feed teller claim = store_of (passes_seen (passes_in pass)) (views ghosts (drives_of pass)) claim feed teller
