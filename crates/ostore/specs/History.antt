-- The first part of the theorem: the entries of each audit lead to what the lanes stand for.
use Rattle.std.specs.Prelude.{◌≡◌, ℕ, ◌<◌, ◌^◌, Bool, List, [], length, slice_index_or, Option}
use Rattle.audit_trail.specs.Entries.{with_entry}
use Rattle.audit_trail.specs.declared.entry.Entry.{Entry}
use Rattle.drive_base.specs.Files.{Files}
use Rattle.drive_base.specs.declared.plan.SetPlan.{SetPlan}
use Rattle.receipts.specs.Events.{Log}
use Rattle.slot_core.specs.Opening.{IsOpened, opened_numbers, opening}
use Rattle.slot_core.specs.Standing.{LanesHave, SlotStands}
use Rattle.slot_core.specs.Views.{SlotNumbers, audit_of, lanes_of, last_of, numbers_of, quorum_of}
use Rattle.slot_core.specs.declared.slot.Slot.{Slot}
use Rattle.slot_core.specs.declared.slot.SlotParts.{SlotParts}
use Rattle.slot_history.specs.Standing.{Flying, Stands}
use Rattle.op_steps.specs.Leading.{Entered, LeadsTo, Standing, WentOn, entered_at, entries_at, entries_of, with_entries}
use Rattle.op_steps.specs.Store.{slot_seen}

module _ {D A : Type 0} (entries : A → Option (List Entry)) (tells : D → Bool) (files : D → Files) where
  -- lanes and the premise at opening: they keep records that stand for a state, in a life of this term that drew nothing yet
  pub record LanesBegin (set : SetPlan) (index term : ℕ) (lanes : List D) (at : Standing) : Type 0 where
    pub have : LanesHave tells files (opened_numbers set index term) lanes at.records
    pub stands : Stands (quorum_of (opened_numbers set index term)) set.drives (last_of (opened_numbers set index term)) [] at.records at.state

  -- at the end of a life of this term the lanes stand for what these entries lead to from what they stood for
  pub record LanesEnd (set : SetPlan) (index term : ℕ) (run : List Entered) (lanes : List D) (at : Standing) : Type 0 where
    pub numbers : SlotNumbers
    pub of_set : numbers.set ≡ set
    pub of_slot : numbers.index ≡ index
    pub of_life : numbers.term ≡ term
    pub drawn : numbers.seq < 2 ^ 64
    pub flights : List Flying
    pub later : Standing
    pub stands : SlotStands tells files numbers flights lanes later.records later.state
    pub leads : LeadsTo set index run at later

  -- a slot went through a run: its audit has got the entry of the opening and those of the log, and where its lanes stood for something they stand for what
  -- these entries lead to
  pub record SlotRan (set : SetPlan) (term index : ℕ) (log : Log) (was now : SlotParts D A) : Type 0 where
    pub audit : entries now.audit ≡ with_entries (with_entry (entries was.audit) (opening term)) (entries_at index log)
    pub runs : (at : Standing) → LanesBegin set index term was.lanes.items at → LanesEnd set index term (entered_at index log) now.lanes.items at

  -- so did each slot
  abbrev pub AllRan : SetPlan → ℕ → Log → List (SlotParts D A) → List (SlotParts D A) → Type 0
  AllRan set term log old new = (k : ℕ) (d : SlotParts D A) → k < length old → SlotRan set term k log (slice_index_or old k d) (slice_index_or new k d)

-- a slot that was opened over lanes and an audit, went on by a log, and was closed, went through that run
module _ {D A : Type 0} (entries : A → Option (List Entry)) (count : A → ℕ) (tells : D → Bool) (files : D → Files) where
  abbrev pub ClosedSlotRan : Type 0
  ClosedSlotRan = (set : SetPlan) (term index : ℕ) (log : Log) (was now : SlotParts D A) (first last : Slot D A)
      → IsOpened entries count set index term was first → WentOn tells files index (slot_seen entries count first) (slot_seen entries count last) (entered_at index log)
      → (numbers_of last).index ≡ index → now.lanes.items ≡ lanes_of last → now.audit ≡ audit_of last → SlotRan entries tells files set term index log was now
