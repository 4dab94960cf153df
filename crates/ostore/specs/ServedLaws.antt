-- Each run of `serve` over an open store is a life of each slot.
use Rattle.std.proofs.Common.{inl, inr}
use Rattle.std.specs.Global.{Global}
use Rattle.std.specs.Prelude.{◌≡◌, ℕ, ◌<◌, List, [], Option, Some, Vec, slice_index_or}
use Rattle.audit_trail.specs.declared.entry.Entry.{Entry}
use Rattle.drive_base.specs.View.{views}
use Rattle.drive_base.specs.declared.drive.Drive.{Ghosts}
use Rattle.io_base.specs.declared.door.Door.{Ghosts as DoorGhosts}
use Rattle.io_base.specs.declared.sink.Sink.{Ghosts as SinkGhosts}
use Rattle.io_base.specs.declared.source.Source.{Ghosts as SourceGhosts}
use Rattle.slot_data.specs.Disks.{Disks}
use Rattle.slot_core.specs.declared.slot.SlotParts.{SlotParts}
use Rattle.op_steps.specs.Leading.{Standing}
use Rattle.store_shared.specs.Holders.{LostServe, RigHolds}
use Rattle.store_shared.specs.Passes.{disks_of, set_of, slots_of}
use Rattle.store_shared.specs.declared.pass.PassParts.{PassParts}
use Rattle.store_shared.specs.declared.shared.SharedDesk.{SharedDesk}
use Rattle.store_shared.specs.declared.shared.SharedPass.{SharedPass}
use Rattle.ostore.specs.History.{LanesBegin}
use Rattle.ostore.specs.Served.{IsStoreEnd, Served}
use Rattle.ostore.specs.ServedLife.{LifeServed}
use Rattle.ostore.specs.Workers.{DoorsServed, Worker}
use Rattle.ostore.specs.declared.rig.Ended.{Ended}
use Rattle.ostore.specs.declared.rig.Rig.{Rig}
use Rattle.ostore.specs.declared.serving.StoreEnd.{StoreEnd}

module _ {D A O S T C Root : Type 0} {ghosts : Ghosts D} {root : D → Root} {entries : A → Option (List Entry)} {count : A → ℕ} {door : DoorGhosts O S T} {source : SourceGhosts S}
    {sink : SinkGhosts T} {moment : Option ℕ} {clock : C} where
  -- the workers that served doors
  abbrev pub workers_by : {K : Type 0} {desk : K} {first whole : SharedPass D A} {doors doors_after : List O} {status starved faults faults_after : ℕ}
      → DoorsServed ghosts root entries count door source sink moment desk clock first whole doors doors_after status starved faults faults_after
      → List (Worker K C (SharedPass D A) O)
  workers_by (inl served) = served.dones
  workers_by (inr not_dealt) = []

  -- those of a store
  abbrev pub workers_in : {R G : Type 0} {parts : PassParts D A} {doors : List O} {faults faults_after : ℕ} {end : StoreEnd D A O}
      → IsStoreEnd R G ghosts root entries count door source sink moment clock parts doors faults faults_after end
      → List (Worker (SharedDesk R D A G) C (SharedPass D A) O)
  workers_in (inl served) = workers_by served.served.served
  workers_in (inr unserved) = []

module _ (R G C : Type 0) {D A O S T Root : Type 0} (ghosts : Ghosts D) (root : D → Root) (entries : A → Option (List Entry)) (count : A → ℕ) (door : DoorGhosts O S T) (source : SourceGhosts S)
    (sink : SinkGhosts T) where
  -- each run of `serve` over an open store hands its rig back, and is such a life, in which its workers are the only callers
  abbrev pub ServesLives : Type 0
  ServesLives = (moment : Option ℕ) (clock : C) (rig : Rig D A) (doors : List O) (faults faults_after : ℕ) (ended : Ended D A (Vec O Global))
      (served : Served R G ghosts root entries count door source sink moment clock rig doors faults faults_after ended)
      → (after : Rig D A) × (ended.rig ≡ Some after)
      × ∥ LifeServed ghosts entries count door source sink moment (set_of served.opened) served.opens.opened.term (slots_of served.opened) rig.slots.items after.slots.items
      (workers_in served.served) [] ∥₁

  -- where the rig of such a run holds, and no lost drive failed while the store was opened, its term is new, and a history begins in each slot: the lanes stand for
  -- this as the slot is opened
  abbrev pub ServesBegin : Type 0
  ServesBegin = (moment : Option ℕ) (clock : C) (rig : Rig D A) (doors : List O) (faults faults_after : ℕ) (ended : Ended D A (Vec O Global))
      (served : Served R G ghosts root entries count door source sink moment clock rig doors faults faults_after ended) (used lost : ℕ) (unseen : Disks) (at : ℕ → Standing)
      → RigHolds ghosts rig.set used lost unseen at served.parts
      → LostServe lost (views ghosts served.parts.disks.items) (views ghosts (disks_of served.opened))
      → (used < served.opens.opened.term)
      × ((k : ℕ) (d : SlotParts D A) → k < 64
      → LanesBegin entries ghosts.tells ghosts.files (set_of served.opened) k served.opens.opened.term (slice_index_or rig.slots.items k d).lanes.items (at k))
