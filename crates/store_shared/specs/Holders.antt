-- What the lanes and the data drives of a store hold before it is opened, what the store that was opened over them holds, and what they hold when it ends.
-- Drives that were lost since an earlier life take no part in it: in their place stand the records and the files that they kept last.
use Rattle.std.specs.Prelude.{◌≡◌, ◌⊎◌, ℕ, ◌<◌, ◌≤◌, ◌^◌, Bool, IsTrue, List, [], length, None, Option, Result, replicate, slice_index_or}
use Rattle.std.specs.Int.{IsBitSet}
use Rattle.audit_trail.specs.declared.entry.Entry.{Entry}
use Rattle.drive_base.specs.Files.{Files}
use Rattle.drive_base.specs.View.{DriveView, view_at, views}
use Rattle.drive_base.specs.declared.drive.Drive.{Ghosts}
use Rattle.drive_base.specs.declared.plan.SetPlan.{SetPlan}
use Rattle.put_stage.specs.Cells.{data_of}
use Rattle.put_stage.specs.Work.{HasNoneLoose}
use Rattle.stamp_id.specs.declared.version.VersionId.{VersionId}
use Rattle.vote_core.specs.Lane.{blank_lane}
use Rattle.slot_history.specs.Contents.{number_of_id}
use Rattle.slot_history.specs.State.{no_state}
use Rattle.slot_data.specs.Disks.{Disks}
use Rattle.slot_data.specs.Holding.{no_hands, no_holding}
use Rattle.slot_data.specs.Standing.{DataStands}
use Rattle.slot_core.specs.Standing.{SlotStands}
use Rattle.slot_core.specs.Views.{SlotNumbers, last_of}
use Rattle.slot_core.specs.declared.slot.SlotParts.{SlotParts}
use Rattle.op_steps.specs.Claims.{Claim, HasHonestManifests, disks_of as counted}
use Rattle.op_steps.specs.Holding.{StoreHolds}
use Rattle.op_steps.specs.Moves.{DrivesKeep}
use Rattle.op_steps.specs.Leading.{Standing}
use Rattle.op_steps.specs.Steps.{IsSlotAt}
use Rattle.op_steps.specs.Store.{AreInOrder, SlotSeen, slots_seen}
use Rattle.term_gate.specs.Complete.{Serves, ShowsNone}
use Rattle.term_gate.specs.Opening.{Opens}
use Rattle.term_gate.specs.Terms.{EachHonest, EachTells, IsKept}
use Rattle.term_gate.specs.declared.opening.Opened.{Opened}
use Rattle.term_gate.specs.declared.refusal.OpenRefusal.{OpenRefusal}
use Rattle.store_shared.specs.Opening.{with_out}
use Rattle.store_shared.specs.OpeningAll.{StoreIsOpen}
use Rattle.store_shared.specs.Passes.{disks_of, set_of, slots_of}
use Rattle.store_shared.specs.declared.pass.StoreParts.{StoreParts}
use Rattle.store_shared.specs.declared.pass.PlainPass.{PlainPass}

-- no earlier life used a term above this one: there was none, or as many drives as must take a write keep a format with a term not below it
abbrev pub IsLastUsed : SetPlan → ℕ → List DriveView → Type 0
IsLastUsed set used disks = (used ≡ 0) ⊎ IsKept set used disks

-- the data drives of a set are as many as it has, each tells what it holds, and damage of their formats is honest; and no life used a term above this one
pub record DrivesRest (set : SetPlan) (used : ℕ) (disks : List DriveView) : Type 0 where
  pub count : length disks ≡ set.drives
  pub tell : EachTells disks
  pub honest : EachHonest disks
  pub last : IsLastUsed set used disks

-- these drives of a set were lost since an earlier life: each shows no format
pub record AreLost (set : SetPlan) (used lost : ℕ) (disks : List DriveView) : Type 0 where
  pub within : (k : ℕ) → IsBitSet lost k → k < set.drives
  pub lived : (k : ℕ) → IsBitSet lost k → 1 ≤ used
  pub lack : (k : ℕ) → IsBitSet lost k → ShowsNone (view_at disks k)

-- data drives that keep what is no data go on to rest, and those that are lost stay so
abbrev pub KeptDrivesRest : Type 0
KeptDrivesRest = (set : SetPlan) (used lost : ℕ) (old new : List DriveView) → DrivesKeep old new → DrivesRest set used old → AreLost set used lost old
    → DrivesRest set used new × AreLost set used lost new

-- the numbers of a slot in whose life of this term all were drawn
abbrev pub spent_numbers : SetPlan → ℕ → ℕ → SlotNumbers
spent_numbers set index term = record { set = set; index = index; term = term; turns = 0; seq = 18446744073709551615; count = 2 ^ 64 }

-- the lanes and the audit of one slot of a list are these
abbrev pub ArePartsAt : {D A : Type 0} → List (SlotParts D A) → ℕ → SlotParts D A → Type 0
ArePartsAt {D} {A} slots k parts = (k < length slots) × ((d : SlotParts D A) → slice_index_or slots k d ≡ parts)

module _ {D : Type 0} (tells : D → Bool) (files : D → Files) where
  -- a slot rests, whatever lives of this term and of earlier ones drew: its lanes stand for this, with no put under way; the data of the slot, as the drives
  -- keep it, stands with that, with nothing held in memory or in hand; and no drive has a loose file of an id that these lives can't have drawn
  pub record SlotRests (set : SetPlan) (index used : ℕ) (unseen : Disks) (disks : List DriveView) (lanes : List D) (at : Standing) : Type 0 where
    pub stands : SlotStands tells files (spent_numbers set index used) [] lanes at.records at.state
    pub held : DataStands set index (last_of (spent_numbers set index used)) at.records at.state no_holding (counted unseen set.out disks) no_hands
    pub loose : (k : ℕ) (id : VersionId) → k < set.drives → (IsBitSet set.out k → ⊥) → id.slot ≡ index → last_of (spent_numbers set index used) < number_of_id id
        → HasNoneLoose (data_of id (view_at disks k).files)

module _ {D A : Type 0} (ghosts : Ghosts D) where
  -- the lanes and data drives of a store hold before it is opened, where these drives are lost and these files stand in their place: each slot rests after
  -- the last term that an earlier life used, and stands for this; and on the other drives damage of manifests is honest
  pub record RigHolds (set : SetPlan) (used lost : ℕ) (unseen : Disks) (at : ℕ → Standing) (parts : StoreParts D A) : Type 0 where
    pub disks : DrivesRest set used (views ghosts parts.disks.items)
    pub lost_are : AreLost set used lost (views ghosts parts.disks.items)
    pub manifests : (k : ℕ) → k < set.drives → (IsBitSet lost k → ⊥) → HasHonestManifests (view_at (views ghosts parts.disks.items) k).files
    pub slots : (k : ℕ) (of : SlotParts D A) → ArePartsAt parts.slots.items k of
        → SlotRests ghosts.tells ghosts.files (with_out set lost) k used unseen (views ghosts parts.disks.items) of.lanes.items (at k)

-- ---- a store without files

-- a drive has no file
pub record HasNoFile (files : Files) : Type 0 where
  pub kept : (name : List ℕ) → files.kept name ≡ None
  pub shown : (name : List ℕ) → files.shown name ≡ None
  pub loose : (name : List ℕ) → files.loose name ≡ None

module _ {D : Type 0} (ghosts : Ghosts D) where
  -- a drive tells what it holds, and has no file
  abbrev pub IsBare : D → Type 0
  IsBare drive = IsTrue (ghosts.tells drive) × HasNoFile (ghosts.files drive)

  -- each drive of a set is bare
  pub record AreBare (set : SetPlan) (drives : List D) : Type 0 where
    pub count : length drives ≡ set.drives
    pub each : (k : ℕ) (d : D) → k < length drives → IsBare (slice_index_or drives k d)

module _ {D A : Type 0} (ghosts : Ghosts D) where
  -- all lanes and data drives of a store are bare
  pub record RigIsBare (set : SetPlan) (parts : StoreParts D A) : Type 0 where
    pub disks : AreBare ghosts set parts.disks.items
    pub lanes : (k : ℕ) (of : SlotParts D A) → ArePartsAt parts.slots.items k of → AreBare ghosts set of.lanes.items

-- nothing was done in any slot
abbrev pub nothing_done : SetPlan → ℕ → Standing
nothing_done set k = record { records = λ name. replicate set.drives blank_lane; state = no_state }

module _ {D : Type 0} (A : Type 0) (ghosts : Ghosts D) where
  -- bare lanes and data drives hold: no life was yet, nothing is lost, and nothing was done
  abbrev pub BareRigHolds : Type 0
  BareRigHolds = (set : SetPlan) (unseen : Disks) (parts : StoreParts D A) → RigIsBare ghosts set parts
      → RigHolds ghosts set 0 0 unseen (nothing_done set) parts

-- ---- a store that is opened

-- each lost drive serves while a store is opened: so it is found without a format
abbrev pub LostServe : ℕ → List DriveView → List DriveView → Type 0
LostServe lost old new = (k : ℕ) → IsBitSet lost k → Serves (view_at old k) (view_at new k)

module _ {D A : Type 0} (ghosts : Ghosts D) (entries : A → Option (List Entry)) (count : A → ℕ) where
  -- an opened store holds with nothing in hand, where these files stand in the place of the drives that are out; its term is above each one that was used, and
  -- is the last one now, and the drives that are out are lost
  pub record OpenHolds (used term : ℕ) (unseen : Disks) (at : ℕ → Standing) (pass : PlainPass D A) : Type 0 where
    pub rises : used < term
    pub holds : StoreHolds ghosts.tells ghosts.files unseen (slots_seen entries count (slots_of pass)) (views ghosts (disks_of pass)) [] at
    pub disks : DrivesRest (set_of pass) term (views ghosts (disks_of pass))
    pub lost_are : AreLost (set_of pass) term (set_of pass).out (views ghosts (disks_of pass))

  -- a store that was opened over lanes and data drives which hold, holds, and each slot stands for what its lanes stood for. In the place of lost drives stand
  -- the files that stood there; in that of others that the opening found without a format stand the files that they keep
  abbrev pub OpenedStoreHolds : Type 0
  OpenedStoreHolds = (set : SetPlan) (used lost : ℕ) (unseen : Disks) (at : ℕ → Standing) (parts : StoreParts D A) (pass : PlainPass D A)
      (is_open : StoreIsOpen ghosts entries count set parts pass)
      → RigHolds ghosts set used lost unseen at parts → LostServe lost (views ghosts parts.disks.items) (views ghosts (disks_of pass))
      → OpenHolds used is_open.opened.term (counted unseen lost (views ghosts (disks_of pass))) at pass

-- ---- an opening that is refused

module _ {D A : Type 0} (ghosts : Ghosts D) where
  -- the opening of a store was tried: its set was read, and perhaps given a term, whatever came of it (`Opens`), and its lanes stay
  pub record IsTried (set : SetPlan) (old new : StoreParts D A) : Type 0 where
    pub result : Result Opened OpenRefusal
    pub opens : Opens set result (views ghosts old.disks.items) (views ghosts new.disks.items)
    pub lanes : (k : ℕ) (now : SlotParts D A) → ArePartsAt new.slots.items k now
        → (was : SlotParts D A) × ArePartsAt old.slots.items k was × (now.lanes.items ≡ was.lanes.items)

module _ {D : Type 0} (A : Type 0) (ghosts : Ghosts D) where
  -- lanes and data drives hold as before when an opening was tried, where no lost drive failed
  abbrev pub TriedRigHolds : Type 0
  TriedRigHolds = (set : SetPlan) (used lost : ℕ) (unseen : Disks) (at : ℕ → Standing) (old new : StoreParts D A)
      → RigHolds ghosts set used lost unseen at old → IsTried ghosts set old new
      → LostServe lost (views ghosts old.disks.items) (views ghosts new.disks.items) → RigHolds ghosts set used lost unseen at new

-- ---- a store whose life ends

module _ {D A : Type 0} (ghosts : Ghosts D) where
  -- a store was taken apart: these are its data drives, and the lanes of its slots, each of which drew numbers of terms not above this one
  pub record IsTakenApart (used : ℕ) (slots : List (SlotSeen D)) (disks : List DriveView) (parts : StoreParts D A) : Type 0 where
    pub disks_are : views ghosts parts.disks.items ≡ disks
    pub lanes_are : (k : ℕ) (of : SlotParts D A) → ArePartsAt parts.slots.items k of
        → (was : SlotSeen D) × IsSlotAt slots k was × (of.lanes.items ≡ was.lanes)
    pub low : (k : ℕ) (was : SlotSeen D) → IsSlotAt slots k was → was.numbers.term ≤ used
    pub fits : (k : ℕ) (was : SlotSeen D) → IsSlotAt slots k was → was.numbers.seq < 2 ^ 64

module _ {D : Type 0} (A : Type 0) (ghosts : Ghosts D) where
  -- lanes and data drives of a store that holds, hold when its life ends, whatever was in hand; the drives that were out are lost
  abbrev pub ClosedStoreHolds : Type 0
  ClosedStoreHolds = (set : SetPlan) (used : ℕ) (unseen : Disks) (slots : List (SlotSeen D)) (disks : List DriveView) (claims : List Claim) (at : ℕ → Standing)
      (parts : StoreParts D A)
      → AreInOrder set slots disks → DrivesRest set used disks → AreLost set used set.out disks
      → StoreHolds ghosts.tells ghosts.files unseen slots disks claims at
      → IsTakenApart ghosts used slots disks parts → RigHolds ghosts set used set.out unseen at parts

-- ---- drives that are lost between two lives

-- lanes that aren't out stay as they were
pub record LanesStay {D : Type 0} (out : ℕ) (old new : List D) : Type 0 where
  pub count : length new ≡ length old
  pub each : (k : ℕ) (d : D) → k < length old → (IsBitSet out k → ⊥) → slice_index_or new k d ≡ slice_index_or old k d

module _ {D A : Type 0} (ghosts : Ghosts D) where
  -- more drives are lost than before, with the lanes on them, and all others stay as they were
  pub record LosesMore (lost more : ℕ) (old new : StoreParts D A) : Type 0 where
    pub still : (k : ℕ) → IsBitSet lost k → IsBitSet more k
    pub disks : (k : ℕ) → (IsBitSet more k → ⊥) → view_at (views ghosts new.disks.items) k ≡ view_at (views ghosts old.disks.items) k
    pub lanes : (k : ℕ) (now : SlotParts D A) → ArePartsAt new.slots.items k now
        → (was : SlotParts D A) × ArePartsAt old.slots.items k was × LanesStay more was.lanes.items now.lanes.items

module _ {D : Type 0} (A : Type 0) (ghosts : Ghosts D) where
  -- lanes and data drives of which more are lost go on to hold, where as many drives as must take a write still keep the last term. In the place of those
  -- that are lost now stand the files that they kept
  abbrev pub LostRigHolds : Type 0
  LostRigHolds = (set : SetPlan) (used lost more : ℕ) (unseen : Disks) (at : ℕ → Standing) (old new : StoreParts D A) → RigHolds ghosts set used lost unseen at old
      → LosesMore ghosts lost more old new → DrivesRest set used (views ghosts new.disks.items) → AreLost set used more (views ghosts new.disks.items)
      → RigHolds ghosts set used more (counted unseen lost (views ghosts old.disks.items)) at new
