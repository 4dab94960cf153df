-- What one step does to what it works on.
use Rattle.std.specs.Prelude.{◌≡◌, ◌≢◌, ◌⊎◌, ℕ, ◌<◌, ◌≤◌, List, Contains, length, Option, Some, None, MatchOption, IsTrue}
use Rattle.std.specs.Int.{IsBitSet}
use Rattle.audit_trail.specs.declared.entry.Entry.{Entry}
use Rattle.body_print.specs.Names.{loose_manifest_name, loose_shard_name, manifest_name, shard_name}
use Rattle.call_types.specs.Feeds.{FeedEnded, Gave}
use Rattle.call_types.specs.declared.feed.Cut.{Cut}
use Rattle.call_types.specs.declared.feed.Cut.TheVariants.{BodyCut, NoMemory, ReadFault, ShardCut, WriteFault}
use Rattle.desk_base.specs.Telling.{Effect, Telling}
use Rattle.drive_base.specs.Calls.{MadeCall, Tells, WasMade}
use Rattle.drive_base.specs.Calls.Seen.{Unwritten}
use Rattle.drive_base.specs.Files.{Files}
use Rattle.drive_base.specs.declared.drive.Drive.{Ghosts}
use Rattle.drive_base.specs.View.{AllOnlyRead, DriveView, view_at, GoesOn}
use Rattle.drive_base.specs.declared.plan.SetPlan.{SetPlan}
use Rattle.fault_base.specs.Counts.{Rose}
use Rattle.stamp_id.specs.declared.stamp.ChangeId.{ChangeId}
use Rattle.stamp_id.specs.declared.version.VersionId.{VersionId}
use Rattle.vote_core.specs.Lane.{lane_at}
use Rattle.slot_history.specs.Contents.{number_of_id}
use Rattle.slot_history.specs.Standing.{Flying, Records, Stands}
use Rattle.slot_history.specs.State.{IsHeld, State}
use Rattle.slot_data.specs.Disks.{Disks}
use Rattle.slot_data.specs.Holding.{Holding, Pinned}
use Rattle.slot_core.specs.Calm.{HasMade, SectionCalms}
use Rattle.slot_core.specs.NameList.{IsGiven, IsListable}
use Rattle.slot_core.specs.Numbers.{NumbersMove}
use Rattle.slot_core.specs.Turns.{EntryMoves}
use Rattle.slot_core.specs.Views.{SlotNumbers, last_of, quorum_of}
use Rattle.receipts.specs.Events.{Note, Shown}
use Rattle.receipts.specs.Events.Shown.{ContentShown, NamesShown, NoneShown}
use Rattle.receipts.specs.declared.barred.Barred.{Barred}
use Rattle.op_steps.specs.Calls.{MayCall}
use Rattle.op_steps.specs.Causes.{TurnCause}
use Rattle.op_steps.specs.ChangeLetters.{ChangeLetters}
use Rattle.op_steps.specs.Claims.{Claim, DataHolds, among}
use Rattle.op_steps.specs.Notes.{AuditCounts, AuditHas, IsNoted, entry_in}
use Rattle.op_steps.specs.Serving.{TurnComplete}
use Rattle.op_steps.specs.Store.{FeedSeen, LanesStand, SlotSeen, TellerSeen}
use Rattle.receipts.specs.declared.barred.Barred.TheVariants as barred

-- what a section showed is so of the state before its deed: the content is that of its entry's register; of the registers that are held and that some
-- change made each is named that is in the stretch of the names
abbrev pub ShowsBy : Option Entry → Shown → State → State → Type 0
ShowsBy entry NoneShown before after = Unit {0}
ShowsBy entry (ContentShown content) before after = MatchOption entry ⊥ (λ made. content ≡ (before.registers made.name).content)
ShowsBy entry (NamesShown from most names) before after = (name : List ℕ) → IsHeld before.registers name → (before.registers name).change ≢ 0
    → IsListable from name → IsGiven most names name

-- a put began in a section: its id was drawn there, under the index of the slot, and the slot lists it
pub record IsBegun (was now : SlotNumbers) (after : Holding) (f : Flying) : Type 0 where
  pub slot : f.id.slot ≡ was.index
  pub above : last_of was < number_of_id f.id
  pub within : number_of_id f.id ≤ last_of now
  pub listed : Contains after.flights f

-- what an op holds after a section it held before: but a put that began there, a pin that was made there and is listed, and ids that were trash and are none now
pub record ClaimGains (was now : SlotNumbers) (before after : Holding) (claim later : Claim) : Type 0 where
  pub flight : (f : Flying) → later.flight ≡ Some f → (claim.flight ≡ Some f) ⊎ IsBegun was now after f
  pub pin : (p : Pinned) → later.pin ≡ Some p → (claim.pin ≡ Some p) ⊎ ((p.ticket ≡ was.turns) × Contains after.pins p)
  pub taken : (id : VersionId) → Contains later.taken id → Contains claim.taken id ⊎ (Contains before.trash id × (Contains after.trash id → ⊥))

-- a section changes what its op holds of its own slot alone
pub record ClaimMoves (index : ℕ) (claim later : Claim) : Type 0 where
  pub slot : later.slot ≡ claim.slot
  pub elsewhere : claim.slot ≢ index → later ≡ claim

module _ {D : Type 0} (ghosts : Ghosts D) where
  -- what a section leaves of lanes that stood for a state: they stand for a state to which its entry moved, with the same records in the place of lanes that
  -- are out; the register of which it made a change is calm, and each calm one that it only looked at is as it was; and whatever other ops hold, the data goes
  -- on to hold, with any files on drives that are out
  pub record TurnLeaves (was now : SlotSeen D) (note : Option Note) (shown : Shown) (claim later : Claim) (disks_old disks_new : List DriveView)
      (records : Records) (state : State) : Type 0 where
    pub records_after : Records
    pub state_after : State
    pub stands : LanesStand ghosts.tells ghosts.files now records_after state_after
    pub stay : (name : List ℕ) (k : ℕ) → IsBitSet was.numbers.set.out k → lane_at (records_after name) k ≡ lane_at (records name) k
    pub moves : EntryMoves was.numbers.index (entry_in note) (ShowsBy (entry_in note) shown) records state records_after state_after
    pub calm : SectionCalms (quorum_of was.numbers) (entry_in note) records state records_after state_after
    pub holds : (unseen : Disks) (front rest : List Claim) → DataHolds was.numbers was.holding unseen disks_old (among front claim rest) records state
        → DataHolds now.numbers now.holding unseen disks_new (among front later rest) records_after state_after

  -- one section of a slot: one turn more, with its note; its entry is what the audit got; data drives are only read; where it was refused, why; against
  -- which drives that serve it can't be; where it made a change, which lanes took it; and what it leaves of its lanes
  pub record TurnMoves (was now : SlotSeen D) (note : Option Note) (shown : Shown) (claim later : Claim) (disks_old disks_new : List DriveView) : Type 0 where
    pub numbers : NumbersMove was.numbers now.numbers
    pub note_is : IsNoted was.numbers note
    pub audit : AuditHas note was.entries now.entries
    pub faults : AuditCounts note was.faults now.faults
    pub claims : ClaimMoves was.numbers.index claim later
    pub gains : ClaimGains was.numbers now.numbers was.holding now.holding claim later
    pub read : AllOnlyRead disks_old disks_new
    pub cause : TurnCause ghosts note was now claim disks_old disks_new
    pub complete : TurnComplete ghosts note was now claim disks_old disks_new
    pub letters : (name : List ℕ) (change : ChangeId) → HasMade (entry_in note) name change → ChangeLetters ghosts was now name change
    pub leaves : (records : Records) (state : State) → LanesStand ghosts.tells ghosts.files was records state
        → TurnLeaves was now note shown claim later disks_old disks_new records state

-- why a section could not be done: the slot's turns are spent. For want of memory there is no cause
abbrev pub BarCause : Barred → SlotNumbers → Type 0
BarCause barred.Spent numbers = 18446744073709551615 ≤ numbers.turns
BarCause barred.NoMemory numbers = Unit {0}

-- a call told that nothing was being written under a loose name
abbrev pub SaysUnwritten : MadeCall → Type 0
SaysUnwritten made = (loose : List ℕ) × Tells made (Unwritten loose)

-- a name is one under which a drive keeps data, or one under which data is being written
abbrev pub IsDataName : List ℕ → Type 0
IsDataName name = (id : VersionId) × ((name ≡ manifest_name id) ⊎ (name ≡ shard_name id))

abbrev pub IsLooseName : List ℕ → Type 0
IsLooseName name = (id : VersionId) × ((name ≡ loose_manifest_name id) ⊎ (name ≡ loose_shard_name id))

-- under all other names a drive has what it had
pub record KeepsOthers (old new : Files) : Type 0 where
  pub kept : (name : List ℕ) → (IsDataName name → ⊥) → new.kept name ≡ old.kept name
  pub shown : (name : List ℕ) → (IsDataName name → ⊥) → new.shown name ≡ old.shown name
  pub loose : (name : List ℕ) → (IsLooseName name → ⊥) → new.loose name ≡ old.loose name

-- data drives go on, and those that tell keep what is no data
pub record DrivesKeep (old new : List DriveView) : Type 0 where
  pub long : length new ≡ length old
  pub goes_on : (k : ℕ) → GoesOn (view_at old k) (view_at new k)
  pub keeps : (k : ℕ) → IsTrue (view_at old k).tells → KeepsOthers (view_at old k).files (view_at new k).files

-- a drive keeps no longer what it kept under one of the two names of an id
abbrev pub LosesFile : VersionId → Files → Files → Type 0
LosesFile id old new = ((bytes : List ℕ) × (old.kept (manifest_name id) ≡ Some bytes) × (new.kept (manifest_name id) ≢ Some bytes))
    ⊎ ((bytes : List ℕ) × (old.kept (shard_name id) ≡ Some bytes) × (new.kept (shard_name id) ≢ Some bytes))

-- the lanes of a slot of these numbers stand for a state, with the puts that it lists
abbrev pub RecordsStand : SlotNumbers → Holding → Records → State → Type 0
RecordsStand numbers holding records state = Stands (quorum_of numbers) numbers.set.drives (last_of numbers) holding.flights records state

-- a slot as its data sees it: its numbers, what it keeps in memory, the records of its lanes, and its state
pub record SlotKept : Type 0 where
  pub numbers : SlotNumbers
  pub holding : Holding
  pub records : Records
  pub state : State

-- a slot of this set, whose lanes stand and whose data holds
pub record KeepsData (set : SetPlan) (unseen : Disks) (disks : List DriveView) (claims : List Claim) (slot : SlotKept) : Type 0 where
  pub set_is : slot.numbers.set ≡ set
  pub stands : RecordsStand slot.numbers slot.holding slot.records slot.state
  pub holds : DataHolds slot.numbers slot.holding unseen disks claims slot.records slot.state

-- a call leaves an op its put and its pin, and gives it no ids to remove
pub record ClaimStays (claim later : Claim) : Type 0 where
  pub slot : later.slot ≡ claim.slot
  pub flight : later.flight ≡ claim.flight
  pub pin : later.pin ≡ claim.pin
  pub taken : (id : VersionId) → Contains later.taken id → Contains claim.taken id

-- one call of a data drive in use, and none of another, which the op may make (`MayCall`). Where the data of the op's own slot holds, no drive tells that
-- nothing is being written under a loose name, and whatever other ops hold, the data of each slot goes on to hold
pub record CallMoves (set : SetPlan) (k : ℕ) (made : MadeCall) (claim later : Claim) (old new : List DriveView) : Type 0 where
  pub within : k < length old
  pub in_use : IsBitSet set.out k → ⊥
  pub was_made : WasMade made (view_at old k) (view_at new k)
  pub may : MayCall claim made.call
  pub long : length new ≡ length old
  pub others : (other : ℕ) → other ≢ k → view_at new other ≡ view_at old other
  pub claims : ClaimStays claim later
  pub written : (unseen : Disks) (front rest : List Claim) (own : SlotKept) → SaysUnwritten made → own.numbers.index ≡ claim.slot
      → KeepsData set unseen old (among front claim rest) own → ⊥
  pub holds : (unseen : Disks) (front rest : List Claim) (own slot : SlotKept) → own.numbers.index ≡ claim.slot
      → KeepsData set unseen old (among front claim rest) own → KeepsData set unseen old (among front claim rest) slot
      → DataHolds slot.numbers slot.holding unseen new (among front later rest) slot.records slot.state

-- why taking bytes failed, after those that were given
abbrev pub FeedCause : Option Cut → FeedSeen → FeedSeen → Type 0
FeedCause None old new = new.faults ≡ old.faults
FeedCause (Some ReadFault) old new = Rose old.faults new.faults
FeedCause (Some (BodyCut read stated)) old new = (read ≡ new.view.given) × (stated ≡ new.view.stated) × (new.view.given < new.view.stated)
    × FeedEnded new.view × (new.faults ≡ old.faults)
FeedCause (Some WriteFault) old new = ⊥
FeedCause (Some (ShardCut whys)) old new = ⊥
FeedCause (Some NoMemory) old new = ⊥

-- bytes were taken of the body, the next ones
pub record FeedMoves (bytes : List ℕ) (cut : Option Cut) (old new : FeedSeen) : Type 0 where
  pub gave : Gave bytes old.view new.view
  pub cause : FeedCause cut old new

-- something was told and taken, or its sink failed in the midst of it, or nothing was done for want of memory
abbrev pub TellMoves : {T : Type 0} → Effect T → Effect T → Telling → Option Cut → TellerSeen T → TellerSeen T → Type 0
TellMoves takes breaks telling None old new = takes old.value telling new.value × (new.faults ≡ old.faults)
TellMoves takes breaks telling (Some ReadFault) old new = ⊥
TellMoves takes breaks telling (Some (BodyCut read stated)) old new = ⊥
TellMoves takes breaks telling (Some WriteFault) old new = breaks old.value telling new.value × Rose old.faults new.faults
TellMoves takes breaks telling (Some (ShardCut whys)) old new = ⊥
TellMoves takes breaks telling (Some NoMemory) old new = (new.value ≡ old.value) × (new.faults ≡ old.faults)
