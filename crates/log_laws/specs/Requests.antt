-- Lanes and data drives that serve in a call's log: the sections that they don't refuse where they are enough, the body that they take, and the read that goes on.
use Rattle.std.specs.Prelude.{◌≡◌, ℕ, zero, suc, ◌<◌, ◌≤◌, List, [], ◌∷◌, ◌++◌, Contains, Option, Some, MatchOption}
use Rattle.std.specs.Int.{IsBitSet}
use Rattle.audit_trail.specs.declared.entry.Entry.{Entry}
use Rattle.body_print.specs.Plans.{data_plan}
use Rattle.call_types.specs.declared.refusal.Refusal.TheVariants.{NotInFlight}
use Rattle.call_types.specs.declared.why.Why.{Why}
use Rattle.desk_base.specs.Telling.{Effect}
use Rattle.drive_base.specs.DriveSet.{count_in}
use Rattle.drive_base.specs.Plan.{write_drives}
use Rattle.drive_base.specs.View.{DriveView, view_at, views}
use Rattle.drive_base.specs.declared.drive.Drive.{Ghosts}
use Rattle.drive_base.specs.declared.plan.SetPlan.{SetPlan}
use Rattle.fault_base.specs.Counts.{Rose}
use Rattle.stamp_id.specs.declared.version.VersionId.{VersionId}
use Rattle.register_core.specs.declared.faults.QuorumFault.{QuorumFault}
use Rattle.slot_data.specs.Disks.{Disks}
use Rattle.slot_rules.specs.Rules.{IsRegisterName}
use Rattle.slot_core.specs.declared.slot.SlotFault.TheVariants.{Quorum}
use Rattle.receipts.specs.Events.{Event, Log, Note, Shown}
use Rattle.receipts.specs.Events.Event.{BarredFrom, Called, Fed, Told, Turned}
use Rattle.receipts.specs.Letters.{FewTook, Wanted}
use Rattle.log_laws.specs.Calling.{CallsRan}
use Rattle.op_steps.specs.Claims.{Claim, no_claim}
use Rattle.op_steps.specs.Holding.{StoreHolds}
use Rattle.op_steps.specs.Leading.{Standing}
use Rattle.op_steps.specs.Notes.{entry_in, refusal_by}
use Rattle.log_laws.specs.Reads.{EnoughServe, ReadGoesOn, ReadsData}
use Rattle.op_steps.specs.Serving.{AreEnough, DrivesServe, IsManifestName, IsNameOf}
use Rattle.op_steps.specs.Steps.{Ran, StepMoves}
use Rattle.op_steps.specs.Store.{AreInOrder, SlotSeen, Store, any_effect, store_of}

-- an entry is of a bucket's or a key's register, and a set has all lanes
abbrev pub HasAllLanes : SetPlan → ℕ → Option Entry → Type 0
HasAllLanes set lanes entry = MatchOption entry ⊥ (λ made. IsRegisterName made.name × ((k : ℕ) → k < set.drives → IsBitSet lanes k))

-- data drives of a set are in use, and no count of theirs rises over a log
abbrev pub DisksAreCalm : SetPlan → ℕ → List DriveView → List DriveView → Type 0
DisksAreCalm set disks old new = (k : ℕ) → k < set.drives → IsBitSet disks k
    → (IsBitSet set.out k → ⊥) × (Rose (view_at old k).count (view_at new k).count → ⊥)

module _ {D T : Type 0} (ghosts : Ghosts D) (takes breaks : Effect T) where
  -- lanes and data drives of these sets serve in a step, if it is a section
  abbrev pub StepServes : (set : SetPlan) (lanes disks : ℕ) (event : Event) (old new : Store D T) → StepMoves ghosts takes breaks set event old new → Type 0
  StepServes set lanes disks (Turned k note shown) old new step =
      DrivesServe (IsNameOf (entry_in note)) set.out lanes (views ghosts step.was.lanes) (views ghosts step.now.lanes)
      × DrivesServe IsManifestName set.out disks old.disks step.disks
  StepServes set lanes disks (BarredFrom k why) old new step = Unit {0}
  StepServes set lanes disks (Called k made) old new step = Unit {0}
  StepServes set lanes disks (Fed bytes cut) old new step = Unit {0}
  StepServes set lanes disks (Told telling cut) old new step = Unit {0}

  -- they do in the step of this place of a log
  abbrev pub ServesAt : (set : SetPlan) (lanes disks : ℕ) (log : Log) (old new : Store D T) → Ran ghosts takes breaks set log old new → ℕ → Type 0
  ServesAt set lanes disks [] old new ran place = Unit {0}
  ServesAt set lanes disks (event ∷ log) old new (mid, step, ran) zero = StepServes set lanes disks event old mid step
  ServesAt set lanes disks (event ∷ log) old new (mid, step, ran) (suc place) = ServesAt set lanes disks log mid new ran place

  -- over a log enough lanes and data drives that serve refuse nothing
  pub record LogComplete (set : SetPlan) (log : Log) (old new : Store D T) (ran : Ran ghosts takes breaks set log old new) : Type 0 where
    -- no section is refused for a fault of a quorum against which enough of them serve in it
    pub sections : (lanes disks k : ℕ) (note : Note) (shown : Shown) (fault : QuorumFault) (there : Contains log (Turned k (Some note) shown))
        → ServesAt set lanes disks log old new ran there.0
        → AreEnough ghosts set lanes disks (HasAllLanes set lanes note.entry) fault → note.refusal ≡ refusal_by (Quorum fault) → ⊥
    -- none in the call's own slot is refused for a put that isn't listed
    pub puts : (note : Note) (shown : Shown) (id : VersionId) → Contains log (Turned old.claim.slot (Some note) shown) → note.refusal ≡ Some (NotInFlight id) → ⊥
    -- not too few data drives took a body where as many as must take a write of it are in use and have no fault over the log
    pub body : (disks slot : ℕ) (whys : List Why) → DisksAreCalm set disks old.disks new.disks → (took : FewTook set slot whys log)
        → write_drives (data_plan set took.id).drives (data_plan set took.id).parity ≤ count_in disks set.drives → ⊥
    -- a read of data that its section found goes on where enough data drives serve
    pub reads : (disks : ℕ) (wanted : Wanted) (front more : Log) → EnoughServe ghosts takes breaks set disks wanted log old new ran → log ≡ front ++ more
        → ReadsData wanted front → ReadGoesOn ghosts takes breaks set disks wanted front log old new

  -- so it is over the log of a call on a store that holds
  abbrev pub RequestComplete : Type 0
  RequestComplete = (set : SetPlan) (log : Log) (old new : Store D T) (unseen : Disks) (claims : List Claim) (at : ℕ → Standing)
      → AreInOrder set old.slots old.disks → old.claim.slot < 64 → old.claim ≡ no_claim old.claim.slot
      → StoreHolds ghosts.tells ghosts.files unseen old.slots old.disks claims at → (ran : Ran ghosts takes breaks set log old new)
      → LogComplete set log old new ran

module _ {D : Type 0} (ghosts : Ghosts D) (set : SetPlan) where
  -- over the log of each of several calls
  abbrev pub EachComplete : (logs : List Log) (slots : List (SlotSeen D)) (disks : List DriveView) (slots_after : List (SlotSeen D)) (disks_after : List DriveView)
      → CallsRan ghosts set logs slots disks slots_after disks_after → Type 0
  EachComplete [] slots disks slots_after disks_after ran = Unit {0}
  EachComplete (log ∷ logs) slots disks slots_after disks_after (mid_slots, mid_disks, call, rest) =
      LogComplete ghosts any_effect any_effect set log (store_of slots disks (no_claim call.slot) call.feed call.teller)
      (store_of mid_slots mid_disks call.left call.feed_after call.teller_after) call.ran
      × EachComplete logs mid_slots mid_disks slots_after disks_after rest

  -- so it is over those of calls one after another, where the store holds before the first one
  abbrev pub CallsComplete : Type 0
  CallsComplete = (logs : List Log) (slots : List (SlotSeen D)) (disks : List DriveView) (slots_after : List (SlotSeen D)) (disks_after : List DriveView)
      (unseen : Disks) (claims : List Claim) (at : ℕ → Standing) → AreInOrder set slots disks
      → StoreHolds ghosts.tells ghosts.files unseen slots disks claims at → (ran : CallsRan ghosts set logs slots disks slots_after disks_after)
      → EachComplete logs slots disks slots_after disks_after ran
