-- What happens while a call is served: the sections of slots, the calls of data drives, what is taken of its body and what is told, in their order.
use Rattle.std.specs.Prelude.{ℕ, List, [], ◌∷◌, Contains, if◌then◌else◌, map, nat_eq, Option, Some, None}
use Rattle.std.specs.List.{flat_map}
use Rattle.audit_trail.specs.declared.entry.Entry.{Entry}
use Rattle.call_types.specs.declared.feed.Cut.{Cut}
use Rattle.call_types.specs.declared.feed.Cut.TheVariants.{BodyCut, NoMemory, ReadFault, ShardCut, WriteFault}
use Rattle.drive_base.specs.Calls.{MadeCall, Seen, Tells}
use Rattle.drive_base.specs.Trail.{DriveCall}
use Rattle.call_types.specs.declared.refusal.Refusal.{Refusal}
use Rattle.desk_base.specs.Telling.{Telling}
use Rattle.receipts.specs.declared.barred.Barred.{Barred}

-- what a section leaves of itself: its slot, its ticket, its entry if it wrote one, and its refusal, as that of the call, if it was refused
pub record Note : Type 0 where
  pub slot : ℕ
  pub ticket : ℕ
  pub entry : Option Entry
  pub refusal : Option Refusal

-- what a section shows beside its note: nothing, the content of a register that it looked at, or the names of registers from one on, so many at most
pub data Shown : Type 0 where
  NoneShown : Shown
  ContentShown : List ℕ → Shown
  NamesShown : List ℕ → ℕ → List (List ℕ) → Shown

-- one step: a section of a slot, with its note, if it has one, and what it showed; a section that could not be done, and why; one call of the data drive
-- of an index, with its answer; bytes taken of the body, and a telling, each with its failure, if it failed. What failed to be told was not told
pub data Event : Type 0 where
  Turned : ℕ → Option Note → Shown → Event
  BarredFrom : ℕ → Barred → Event
  Called : ℕ → MadeCall → Event
  Fed : List ℕ → Option Cut → Event
  Told : Telling → Option Cut → Event

-- the events of a call, the first one first
abbrev pub Log : Type 0
Log = List Event

-- a section that has a note
pub record Section : Type 0 where
  pub note : Note
  pub shown : Shown

-- what one event adds to each reading of a log
abbrev pub section_in : Event → List Section
section_in (Turned slot None shown) = []
section_in (Turned slot (Some note) shown) = record { note = note; shown = shown } ∷ []
section_in (BarredFrom slot why) = []
section_in (Called drive made) = []
section_in (Fed bytes cut) = []
section_in (Told telling cut) = []

abbrev pub taken_in : Event → List ℕ
taken_in (Turned slot made shown) = []
taken_in (BarredFrom slot why) = []
taken_in (Called drive made) = []
taken_in (Fed bytes cut) = bytes
taken_in (Told telling cut) = []

abbrev pub told_in : Event → List Telling
told_in (Turned slot made shown) = []
told_in (BarredFrom slot why) = []
told_in (Called drive made) = []
told_in (Fed bytes cut) = []
told_in (Told telling None) = telling ∷ []
told_in (Told telling (Some cut)) = []

-- a telling that was tried: one that was told, or in the midst of which the sink failed
abbrev pub tried_in : Event → List Telling
tried_in (Turned slot made shown) = []
tried_in (BarredFrom slot why) = []
tried_in (Called drive made) = []
tried_in (Fed bytes cut) = []
tried_in (Told telling None) = telling ∷ []
tried_in (Told telling (Some ReadFault)) = []
tried_in (Told telling (Some (BodyCut read stated))) = []
tried_in (Told telling (Some WriteFault)) = telling ∷ []
tried_in (Told telling (Some (ShardCut whys))) = []
tried_in (Told telling (Some NoMemory)) = []

abbrev pub cut_in : Event → List Cut
cut_in (Turned slot made shown) = []
cut_in (BarredFrom slot why) = []
cut_in (Called drive made) = []
cut_in (Fed bytes None) = []
cut_in (Fed bytes (Some cut)) = cut ∷ []
cut_in (Told telling None) = []
cut_in (Told telling (Some cut)) = cut ∷ []

-- the call, if it is one of this drive
abbrev pub called_in : ℕ → Event → List DriveCall
called_in k (Turned slot made shown) = []
called_in k (BarredFrom slot why) = []
called_in k (Called drive made) = if nat_eq drive k then made.call ∷ [] else []
called_in k (Fed bytes cut) = []
called_in k (Told telling cut) = []

-- a call of this drive told so
pub record Saw (log : Log) (k : ℕ) (seen : Seen) : Type 0 where
  pub made : MadeCall
  pub called : Contains log (Called k made)
  pub tells : Tells made seen

-- the sections that have notes
abbrev pub sections_of : Log → List Section
sections_of log = flat_map section_in log

-- their notes
abbrev pub notes_of : Log → List Note
notes_of log = map (λ (section : Section). section.note) (sections_of log)

-- the bytes that were taken of the body
abbrev pub body_of : Log → List ℕ
body_of log = flat_map taken_in log

-- what was told
abbrev pub tale_of : Log → List Telling
tale_of log = flat_map told_in log

-- what was tried to be told
abbrev pub tried_of : Log → List Telling
tried_of log = flat_map tried_in log

-- the failures of feed and teller
abbrev pub cuts_of : Log → List Cut
cuts_of log = flat_map cut_in log

-- the calls of one drive, the first one first
abbrev pub calls_at : ℕ → Log → List DriveCall
calls_at k log = flat_map (called_in k) log

-- nothing is told at an event
abbrev pub IsUntold : Event → Type 0
IsUntold (Turned slot made shown) = Unit {0}
IsUntold (BarredFrom slot why) = Unit {0}
IsUntold (Called drive made) = Unit {0}
IsUntold (Fed bytes cut) = Unit {0}
IsUntold (Told telling None) = ⊥
IsUntold (Told telling (Some cut)) = Unit {0}

-- an event takes nothing, tells nothing and leaves no note
abbrev pub IsQuiet : Event → Type 0
IsQuiet (Turned slot None shown) = Unit {0}
IsQuiet (Turned slot (Some note) shown) = ⊥
IsQuiet (BarredFrom slot why) = Unit {0}
IsQuiet (Called drive made) = Unit {0}
IsQuiet (Fed bytes cut) = ⊥
IsQuiet (Told telling cut) = ⊥
