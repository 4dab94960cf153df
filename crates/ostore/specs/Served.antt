-- What `serve` does, step by step: the connections of many doors over one store, beside one another.
use Rattle.std.specs.Prelude.{◌≡◌, ◌⊎◌, ℕ, ◌<◌, List, Option, Some, None, Vec, length, slice_index_or}
use Rattle.std.specs.Global.{Global}
use Rattle.audit_trail.specs.declared.entry.Entry.{Entry}
use Rattle.drive_base.specs.declared.drive.Drive.{Ghosts}
use Rattle.drive_base.specs.declared.plan.SetPlan.{SetPlan}
use Rattle.io_base.specs.declared.door.Door.{Ghosts as DoorGhosts}
use Rattle.io_base.specs.declared.sink.Sink.{Ghosts as SinkGhosts}
use Rattle.io_base.specs.declared.source.Source.{Ghosts as SourceGhosts}
use Rattle.slot_core.specs.Views.{numbers_of}
use Rattle.slot_core.specs.declared.slot.Slot.{Slot}
use Rattle.store_shared.specs.OpeningAll.{StoreIsOpen}
use Rattle.store_shared.specs.Parting.{IsApart, IsMade, LacksParts}
use Rattle.store_shared.specs.Passes.{disks_of, set_of, slots_of}
use Rattle.store_shared.specs.SharedPasses.{shared_holds}
use Rattle.store_shared.specs.declared.pass.StoreParts.{StoreParts}
use Rattle.store_shared.specs.declared.pass.PassParts.{PassParts}
use Rattle.store_shared.specs.declared.pass.PlainPass.{PlainPass}
use Rattle.store_shared.specs.declared.shared.SharedDesk.{SharedDesk}
use Rattle.store_shared.specs.declared.shared.SharedPass.{SharedPass}
use Rattle.term_gate.specs.declared.refusal.OpenRefusal.{OpenRefusal}
use Rattle.ostore.specs.Opening.{NotOpens}
use Rattle.ostore.specs.Rigs.{ArePartsOf, StoreIsClosed}
use Rattle.ostore.specs.Sharing.{AreShared, EachShared}
use Rattle.ostore.specs.Statuses.{out_of_memory, refusal_status}
use Rattle.ostore.specs.Workers.{DoorsServed}
use Rattle.ostore.specs.declared.rig.Ended.{Ended}
use Rattle.ostore.specs.declared.rig.Rig.{Rig}
use Rattle.ostore.specs.declared.serving.StoreEnd.{StoreEnd}

-- the doors that came back
abbrev pub doors_in : {D A O : Type 0} → Ended D A (Vec O Global) → List O
doors_in ended = ended.door.items

-- parts of a store whose data drives were shared, or some of them, and lead to what they led to
pub record SharesDisks {D A Root : Type 0} (ghosts : Ghosts D) (root : D → Root) (was now : PassParts D A) : Type 0 where
  pub set : now.set ≡ was.set
  pub slots : now.slots.items ≡ was.slots.items
  pub disks : EachShared ghosts root was.disks.items now.disks.items

module _ {D A : Type 0} where
  -- the parts of a store: 64 slots of one set in the order of their indices, and a data drive for each drive of the set
  pub record IsStore (parts : PassParts D A) : Type 0 where
    pub count : length parts.slots.items ≡ 64
    pub index : (k : ℕ) (d : Slot D A) → k < length parts.slots.items → (numbers_of (slice_index_or parts.slots.items k d)).index ≡ k
    pub of_set : (k : ℕ) (d : Slot D A) → k < length parts.slots.items → (numbers_of (slice_index_or parts.slots.items k d)).set ≡ parts.set
    pub drives : length parts.disks.items ≡ parts.set.drives

  -- the parts of a store were closed, and left this rig; or there are none, and no rig
  abbrev pub IsHanded : SetPlan → Option (PassParts D A) → Option (Rig D A) → Type 0
  IsHanded set (Some after) rig = (stop : PlainPass D A) × (rig_after : Rig D A) × (slots_of stop ≡ after.slots.items) × (disks_of stop ≡ after.disks.items)
      × (rig ≡ Some rig_after) × StoreIsClosed set stop rig_after
  IsHanded set None rig = rig ≡ None

  -- a desk was closed: the turns of all passes together are the history of each slot. It could not be closed only where some part of a lock is missing
  abbrev pub IsDeskEnd : {R G : Type 0} → SharedDesk R D A G → SharedPass D A → ℕ → Option (PassParts D A) → ℕ → Type 0
  IsDeskEnd desk whole status (Some after) end = IsApart desk whole after × (end ≡ status)
  IsDeskEnd desk whole status None end = LacksParts (shared_holds whole) × (end ≡ out_of_memory)

module _ (R G : Type 0) {D A O S T C Root : Type 0} (ghosts : Ghosts D) (root : D → Root) (entries : A → Option (List Entry)) (count : A → ℕ) (door : DoorGhosts O S T) (source : SourceGhosts S)
    (sink : SinkGhosts T) (moment : Option ℕ) (clock : C) where
  -- a desk was made of a store's parts, its doors were served, and it was closed
  pub record DeskServed (parts : PassParts D A) (doors : List O) (faults faults_after : ℕ) (end : StoreEnd D A O) : Type 0 where
    pub desk : SharedDesk R D A G
    pub first : SharedPass D A
    pub made : IsMade parts desk first
    pub whole : SharedPass D A
    pub status : ℕ
    pub starved : ℕ
    pub served : DoorsServed ghosts root entries count door source sink moment desk clock first whole doors end.doors.items status starved faults faults_after
    pub starved_is : end.starved ≡ starved
    pub closed : IsDeskEnd desk whole status end.parts end.status

  -- there was no memory to begin: no door was touched, and some of the data drives may be shared
  pub record StoreUnserved (parts : PassParts D A) (doors : List O) (faults faults_after : ℕ) (end : StoreEnd D A O) : Type 0 where
    pub after : PassParts D A
    pub shares : SharesDisks ghosts root parts after
    pub parts_are : end.parts ≡ Some after
    pub status : end.status ≡ out_of_memory
    pub starved : end.starved ≡ 0
    pub doors_are : end.doors.items ≡ doors
    pub counted : faults_after ≡ faults

  -- the doors of a store were served, over data drives that are shared
  pub record StoreServed (parts : PassParts D A) (doors : List O) (faults faults_after : ℕ) (end : StoreEnd D A O) : Type 0 where
    pub shared : PassParts D A
    pub shares : SharesDisks ghosts root parts shared
    pub all : AreShared ghosts shared.disks.items
    pub served : DeskServed shared doors faults faults_after end

  -- one or the other
  abbrev pub IsStoreEnd : PassParts D A → List O → ℕ → ℕ → StoreEnd D A O → Type 0
  IsStoreEnd parts doors faults faults_after end =
      StoreServed parts doors faults faults_after end ⊎ StoreUnserved parts doors faults faults_after end

  -- a store was opened over a rig, its doors were served, and it was closed, which leaves this rig
  pub record Served (rig : Rig D A) (doors : List O) (faults faults_after : ℕ) (ended : Ended D A (Vec O Global)) : Type 0 where
    pub parts : StoreParts D A
    pub are : ArePartsOf rig parts
    pub opened : PlainPass D A
    pub opens : StoreIsOpen ghosts entries count rig.set parts opened
    pub begun : PassParts D A
    pub set_is : begun.set ≡ set_of opened
    pub slots_are : begun.slots.items ≡ slots_of opened
    pub disks_are : begun.disks.items ≡ disks_of opened
    pub end : StoreEnd D A O
    pub served : IsStoreEnd begun doors faults faults_after end
    pub status_is : ended.status ≡ end.status
    pub starved_is : ended.starved ≡ end.starved
    pub doors_are : doors_in ended ≡ end.doors.items
    pub opening : ended.opening ≡ None
    pub line : ended.line ≡ None
    pub closed : IsHanded rig.set end.parts ended.rig

  -- no store was opened over a rig, and no door is touched
  pub record NotServed (rig : Rig D A) (doors : List O) (faults faults_after : ℕ) (ended : Ended D A (Vec O Global)) : Type 0 where
    pub after : Rig D A
    pub why : OpenRefusal
    pub rig_is : ended.rig ≡ Some after
    pub opening : ended.opening ≡ Some why
    pub line : ended.line ≡ None
    pub status_is : ended.status ≡ refusal_status why
    pub starved : ended.starved ≡ 0
    pub refused : NotOpens ghosts entries count rig after why
    pub doors_are : doors_in ended ≡ doors
    pub counted : faults_after ≡ faults

  -- what `serve` comes to
  abbrev pub Serves : Rig D A → List O → ℕ → ℕ → Ended D A (Vec O Global) → Type 0
  Serves rig doors faults faults_after ended = Served rig doors faults faults_after ended ⊎ NotServed rig doors faults faults_after ended
