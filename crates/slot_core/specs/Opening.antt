-- What opening a slot leaves, and what trouble does to a lane.
use Rattle.std.specs.Prelude.{◌≡◌, ◌≢◌, ℕ, ◌≤◌, Bool, IsTrue, List, [], Option, None, length, replicate, slice_index_or, Result, Ok, Err}
use Rattle.drive_base.specs.declared.drive.Drive.{Ghosts}
use Rattle.drive_base.specs.Files.{Files}
use Rattle.drive_base.specs.declared.plan.SetPlan.{SetPlan}
use Rattle.vote_core.specs.Lane.{blank_lane}
use Rattle.slot_history.specs.Standing.{Records, Stands}
use Rattle.slot_history.specs.State.{State, no_state}
use Rattle.audit_trail.specs.Entries.{CountsReserve, with_entry}
use Rattle.audit_trail.specs.declared.entry.Deed.TheVariants.{Opened}
use Rattle.audit_trail.specs.declared.entry.Entry.{Entry}
use Rattle.slot_data.specs.Holding.{no_holding}
use Rattle.slot_core.specs.Standing.{LanesHave, SlotStands}
use Rattle.slot_core.specs.Views.{SlotNumbers, audit_of, holding_of, lanes_of, last_of, numbers_of, quorum_of}
use Rattle.slot_core.specs.declared.slot.Slot.{Slot}
use Rattle.slot_core.specs.declared.slot.SlotParts.{SlotParts}
use Rattle.slot_core.specs.declared.slot.Unopened.{Unopened}

-- the numbers of a slot that was opened: one turn, the opening, and no number drawn
abbrev pub opened_numbers : SetPlan → ℕ → ℕ → SlotNumbers
opened_numbers set index term = record { set = set; index = index; term = term; turns = 1; seq = 0; count = 0 }

-- the entry of the opening
abbrev pub opening : ℕ → Entry
opening term = record { ticket = 0; late = None; name = []; deed = Opened term }

module _ {D A : Type 0} (entries : A → Option (List Entry)) (count : A → ℕ) where
  -- a slot is open over what was handed in
  pub record IsOpened (set : SetPlan) (index term : ℕ) (parts : SlotParts D A) (slot : Slot D A) : Type 0 where
    pub numbers : numbers_of slot ≡ opened_numbers set index term
    pub holding : holding_of slot ≡ no_holding
    pub lanes : lanes_of slot ≡ parts.lanes.items
    pub entry : entries (audit_of slot) ≡ with_entry (entries parts.audit) (opening term)
    pub counted : count (audit_of slot) ≡ count parts.audit

  -- a slot is not opened, and all is handed back
  pub record IsUnopened (parts : SlotParts D A) (left : Unopened D A) : Type 0 where
    pub lanes : left.parts.lanes.items ≡ parts.lanes.items
    pub entries_stay : entries left.parts.audit ≡ entries parts.audit
    pub counted : CountsReserve {T = Unit {0}} (Err left.fault) (count parts.audit) (count left.parts.audit)

  -- what an opening answers
  abbrev pub OpensSlot : SetPlan → ℕ → ℕ → SlotParts D A → Result (Slot D A) (Unopened D A) → Type 0
  OpensSlot set index term parts (Ok slot) = IsOpened set index term parts slot
  OpensSlot set index term parts (Err left) = IsUnopened parts left

module _ {D A : Type 0} (entries : A → Option (List Entry)) (count : A → ℕ) (tells : D → Bool) (files : D → Files) where
  -- where lanes have records that stand for a state, with no put under way and no number drawn, a slot that was opened over them stands for it
  abbrev pub OpenedSlotStands : Type 0
  OpenedSlotStands = (set : SetPlan) (index term : ℕ) (parts : SlotParts D A) (slot : Slot D A) (records : Records) (state : State)
      → IsOpened entries count set index term parts slot
      → LanesHave tells files (opened_numbers set index term) parts.lanes.items records
      → Stands (quorum_of (opened_numbers set index term)) set.drives (last_of (opened_numbers set index term)) [] records state
      → SlotStands tells files (numbers_of slot) (holding_of slot).flights (lanes_of slot) records state

  -- over lanes without files it stands for the state in which nothing was done
  abbrev pub FreshSlotStands : Type 0
  FreshSlotStands = (set : SetPlan) (index term : ℕ) (parts : SlotParts D A) (slot : Slot D A)
      → IsOpened entries count set index term parts slot
      → LanesHave tells files (opened_numbers set index term) parts.lanes.items (λ name. replicate set.drives blank_lane)
      → SlotStands tells files (numbers_of slot) (holding_of slot).flights (lanes_of slot) (λ name. replicate set.drives blank_lane) no_state

module _ {D T : Type 0} (ghosts : Ghosts D) (befalls : T → D → Bool → D → Type 0) where
  -- trouble befell one lane: what it keeps and what is being written stay, and every other lane is as it was
  pub record Strikes (index : ℕ) (trouble : T) (old : List D) (struck : Bool) (new : List D) : Type 0 where
    pub counted : length new ≡ length old
    pub befell : (d : D) → befalls trouble (slice_index_or old index d) struck (slice_index_or new index d)
    pub kept : (d : D) → IsTrue (ghosts.tells (slice_index_or old index d))
        → (ghosts.files (slice_index_or new index d)).kept ≡ (ghosts.files (slice_index_or old index d)).kept
    pub loose : (d : D) → IsTrue (ghosts.tells (slice_index_or old index d))
        → (ghosts.files (slice_index_or new index d)).loose ≡ (ghosts.files (slice_index_or old index d)).loose
    pub told : (d : D) → ghosts.tells (slice_index_or new index d) ≡ ghosts.tells (slice_index_or old index d)
    pub rises : (d : D) → ghosts.count (slice_index_or old index d) ≤ ghosts.count (slice_index_or new index d)
    pub others : (k : ℕ) (d : D) → k ≢ index → slice_index_or new k d ≡ slice_index_or old k d
