-- Where the entries of a log lead a slot, with what their sections showed, and how a slot goes on by them.
use Rattle.std.specs.Prelude.{◌≡◌, ◌⊎◌, ℕ, List, [], ◌∷◌, ◌++◌, if◌then◌else◌, map, nat_eq, Option, Some, None, Bool, option_map}
use Rattle.std.specs.Int.{IsBitSet}
use Rattle.std.specs.List.{flat_map}
use Rattle.audit_trail.specs.declared.entry.Entry.{Entry}
use Rattle.drive_base.specs.Plan.{write_drives}
use Rattle.drive_base.specs.declared.plan.SetPlan.{SetPlan}
use Rattle.stamp_id.specs.declared.stamp.ChangeId.{ChangeId}
use Rattle.vote_core.specs.Lane.{lane_at}
use Rattle.slot_history.specs.Moving.{Moves}
use Rattle.slot_history.specs.Standing.{Records}
use Rattle.slot_history.specs.State.{State}
use Rattle.slot_history.specs.Waiting.{Lates}
use Rattle.slot_core.specs.Calm.{HasBegun, HasMade, IsCalmUnder}
use Rattle.receipts.specs.Events.{Event, Log, Shown}
use Rattle.receipts.specs.Events.Event.{BarredFrom, Called, Fed, Told, Turned}
use Rattle.op_steps.specs.Moves.{ShowsBy}
use Rattle.op_steps.specs.Notes.{entry_in}
use Rattle.drive_base.specs.Files.{Files}
use Rattle.op_steps.specs.Store.{LanesStand, SlotSeen}

-- an entry of a slot, with what its section showed
pub record Entered : Type 0 where
  pub entry : Entry
  pub shown : Shown

-- that of a section, if it wrote one
abbrev pub entered_by : Option Entry → Shown → List Entered
entered_by None shown = []
entered_by (Some entry) shown = record { entry = entry; shown = shown } ∷ []

-- those of a slot in a log
abbrev pub entered_in : ℕ → Event → List Entered
entered_in slot (Turned k note shown) = if nat_eq k slot then entered_by (entry_in note) shown else []
entered_in slot (BarredFrom k why) = []
entered_in slot (Called k made) = []
entered_in slot (Fed bytes cut) = []
entered_in slot (Told telling cut) = []

abbrev pub entered_at : ℕ → Log → List Entered
entered_at slot log = flat_map (entered_in slot) log

-- the entries alone
abbrev pub entries_of : List Entered → List Entry
entries_of run = map (λ (e : Entered). e.entry) run

abbrev pub entries_at : ℕ → Log → List Entry
entries_at slot log = entries_of (entered_at slot log)

-- entries of a slot lead from one state to another as they do in a history (`Runs`), and what each section showed was so when its deed took place
abbrev pub RunsShowing : ℕ → List Entered → State → State → Type 0
RunsShowing slot [] old new = Lates old new
RunsShowing slot (e ∷ more) old new = (before after : State) × Lates old before × Moves slot e.entry before after
    × ShowsBy (Some e.entry) e.shown before after × RunsShowing slot more after new

-- what the lanes of a slot stand for: the records that they keep, and a state
pub record Standing : Type 0 where
  pub records : Records
  pub state : State

-- an entry made a change of this name's register, or the register was calm and the entry began none there that was refused
abbrev pub IsCalmAfter : Entry → List ℕ → Type 0 → Type 0
IsCalmAfter entry name calm = ((change : ChangeId) × HasMade (Some entry) name change) ⊎ (calm × (HasBegun (Some entry) name → ⊥))

-- so one entry after another leaves a register calm, which was so at first by this
abbrev pub IsCalmBy : List Entered → List ℕ → Type 0 → Type 0
IsCalmBy [] name calm = calm
IsCalmBy (e ∷ run) name calm = IsCalmBy run name (IsCalmAfter e.entry name calm)

-- a slot is led by these entries from what its lanes stood for to what they stand for now, with the same records in the place of lanes that are out; a register
-- is calm that these entries leave so
pub record LeadsTo (set : SetPlan) (slot : ℕ) (run : List Entered) (was now : Standing) : Type 0 where
  pub stay : (name : List ℕ) (k : ℕ) → IsBitSet set.out k → lane_at (now.records name) k ≡ lane_at (was.records name) k
  pub runs : RunsShowing slot run was.state now.state
  pub calm : (name : List ℕ) → IsCalmBy run name (IsCalmUnder (write_drives set.drives set.parity) was.records was.state name)
      → IsCalmUnder (write_drives set.drives set.parity) now.records now.state name

-- what an audit has, told or not, and these entries more
abbrev pub with_entries : Option (List Entry) → List Entry → Option (List Entry)
with_entries entries more = option_map (λ before. before ++ more) entries

module _ {D : Type 0} (tells : D → Bool) (files : D → Files) where
  -- the lanes of a slot stand for something to which these entries lead
  pub record RunsTo (slot : ℕ) (now : SlotSeen D) (run : List Entered) (at : Standing) : Type 0 where
    pub later : Standing
    pub stands : LanesStand tells files now later.records later.state
    pub leads : LeadsTo now.numbers.set slot run at later

  -- a slot went on by these entries: its set and term stay, its audit has got exactly them, and where its lanes stood for something they stand for what
  -- these lead to
  pub record WentOn (slot : ℕ) (was now : SlotSeen D) (run : List Entered) : Type 0 where
    pub set : now.numbers.set ≡ was.numbers.set
    pub term : now.numbers.term ≡ was.numbers.term
    pub audit : now.entries ≡ with_entries was.entries (entries_of run)
    pub runs : (at : Standing) → LanesStand tells files was at.records at.state → RunsTo slot now run at
