-- What the serving of a door comes to: connections one after another, and how it ended.
use Rattle.std.specs.Prelude.{◌≡◌, ◌⊎◌, ◌+◌, ◌≤◌, min, ℕ, Bool, true, List, [], ◌∷◌, ◌++◌, length, map, Option, Some, None, option_map, Result}
use Rattle.fault_base.specs.Counts.{Rose}
use Rattle.call_types.specs.declared.feed.Cut.{Cut}
use Rattle.desk_base.specs.Answering.{Task}
use Rattle.desk_base.specs.Telling.{Telling}
use Rattle.desk_base.specs.declared.desk.Desk.{Ghosts as DeskGhosts}
use Rattle.io_base.specs.declared.clock.Clock.{Ghosts as ClockGhosts}
use Rattle.io_base.specs.declared.door.Door.{Ghosts as DoorGhosts}
use Rattle.io_base.specs.declared.sink.Sink.{Ghosts as SinkGhosts}
use Rattle.io_base.specs.declared.source.Source.{Ghosts as SourceGhosts}
use Rattle.http_wire.specs.Taking.{SourceView, source_view}
use Rattle.serve_loop.specs.Deeds.{Wires, wires}
use Rattle.serve_loop.specs.Sending.{SinkView, sink_view}
use Rattle.serve_loop.specs.Session.{Session}
use Rattle.serve_loop.specs.declared.ends.DoorEnd.{DoorEnd}
use Rattle.serve_loop.specs.declared.ends.DoorEnd.TheVariants.{Over, DoorFailed}
use Rattle.serve_loop.specs.declared.ends.ConnectionEnd.{ConnectionEnd}
use Rattle.serve_loop.specs.declared.ends.ConnectionEnd.TheVariants.{NoMemory}

-- how the ends of connections are seen: a source with its takes, a sink with its gives, and their counts of faults
pub record Sight (S T : Type 0) : Type 0 where
  pub source : S → SourceView
  pub reads : S → ℕ
  pub sink : T → SinkView
  pub writes : T → ℕ

-- a sight, by what sources and sinks tell
abbrev pub sight : {S T : Type 0} → SourceGhosts S → SinkGhosts T → Sight S T
sight source sink = record { source = source_view source; reads = source.faults; sink = sink_view sink; writes = sink.faults }

-- the wires between two ends
abbrev pub wires_by : {S T : Type 0} → Sight S T → S → T → Wires
wires_by seen source sink = wires (seen.source source) (seen.sink sink) (seen.reads source) (seen.writes sink)

-- what is seen of a door: whether no connection will come any more, the pairs that it gave and those that came back, told or not, and its count
-- of faults
pub record DoorView (S T : Type 0) : Type 0 where
  pub over : Bool
  pub gave : Option (List (S × T))
  pub returned : Option (List (S × T))
  pub faults : ℕ

-- a door's view, from its parts
abbrev pub door_view : {O S T : Type 0} → (O → Bool) → (O → Option (List (S × T))) → (O → Option (List (S × T))) → (O → ℕ) → O → DoorView S T
door_view over gave returned faults door = record { over = over door; gave = gave door; returned = returned door; faults = faults door }

-- that of a door
abbrev pub door_seen : {O S T : Type 0} → DoorGhosts O S T → O → DoorView S T
door_seen ghosts door = door_view ghosts.over ghosts.gave ghosts.returned ghosts.faults door

-- one connection of a door: its two ends as the door gave them, how it ended, and both ends as they came back
pub record Visit (S T : Type 0) : Type 0 where
  pub source : S
  pub sink : T
  pub end : ConnectionEnd
  pub source_after : S
  pub sink_after : T

-- the pair that the door gave
abbrev pub given_of : {S T : Type 0} → Visit S T → S × T
given_of visit = (visit.source, visit.sink)

-- the pair that came back
abbrev pub returned_of : {S T : Type 0} → Visit S T → S × T
returned_of visit = (visit.source_after, visit.sink_after)

-- a connection that ended for want of memory counts as one
abbrev pub want_in : ConnectionEnd → ℕ
want_in NoMemory = 1
want_in other = 0

-- how many of these connections did
abbrev pub wants_in : {S T : Type 0} → List (Visit S T) → ℕ
wants_in [] = 0
wants_in (visit ∷ visits) = want_in visit.end + wants_in visits

-- a count that stays at its greatest value
abbrev pub capped : ℕ → ℕ
capped count = min count 18446744073709551615

-- what is known, and behind it these
abbrev pub told_all : {X : Type 0} → Option (List X) → List X → Option (List X)
told_all known xs = option_map (λ all. all ++ xs) known

-- no more pairs came back than the door gave, as far as it tells
abbrev pub IsEven : {X : Type 0} → Option (List X) → Option (List X) → Type 0
IsEven None returned = Unit {0}
IsEven (Some gave) None = Unit {0}
IsEven (Some gave) (Some returned) = length returned ≤ length gave

-- the door gave these connections and no other, and each of them came back; one that was over gave none
pub record GaveVisits {S T : Type 0} (visits : List (Visit S T)) (old new : DoorView S T) : Type 0 where
  pub gave : new.gave ≡ told_all old.gave (map given_of visits)
  pub returned : IsEven old.gave old.returned → new.returned ≡ told_all old.returned (map returned_of visits)
  pub shut : old.over ≡ true → visits ≡ []

-- how the serving of a door ended: the door is over and failed at nothing, or it failed, as its count of faults shows, and is no more over than before
abbrev pub DoorEndsSo : {S T : Type 0} → DoorEnd → (old new : DoorView S T) → Type 0
DoorEndsSo Over old new = (new.over ≡ true) × (new.faults ≡ old.faults)
DoorEndsSo (DoorFailed before after) old new =
    (new.over ≡ old.over) × (before ≡ old.faults) × (after ≡ new.faults) × Rose old.faults new.faults

-- a door was served to its end, from this count of faults on: it is over, or it failed since
abbrev pub IsServedOut : (over : Bool) → (before now : ℕ) → Type 0
IsServedOut over before now = (over ≡ true) ⊎ Rose before now

-- what a work was made with, which stays: its desk and its clock, and the pass and the door that it was given
pub record WorkBegan (K C P O : Type 0) : Type 0 where
  pub desk : K
  pub clock : C
  pub pass : P
  pub door : O

-- that, from its parts
abbrev pub work_began : {K C P O : Type 0} → K → C → P → O → WorkBegan K C P O
work_began desk clock pass door = record { desk = desk; clock = clock; pass = pass; door = door }

module _ {M R S T : Type 0} (answers : Task → M → M → List ℕ → List Telling → Result R Cut → Type 0) (clock : Option ℕ) (seen : Sight S T) where
  -- a connection was served, and how it ended
  abbrev pub IsVisited : M → Visit S T → M → Type 0
  IsVisited old visit new =
      Session answers clock old new visit.end (wires_by seen visit.source visit.sink) (wires_by seen visit.source_after visit.sink_after)

  -- connections were served one after another, each from where the one before left the pass
  abbrev pub AreVisited : M → List (Visit S T) → M → Type 0
  AreVisited old [] new = old ≡ new
  AreVisited old (visit ∷ visits) new = (mid : M) × IsVisited old visit mid × AreVisited mid visits new

  -- a door was served: its connections one after another, until it was over or failed
  pub record DoorServed (end : DoorEnd) (old new : M) (before after : DoorView S T) : Type 0 where
    pub visits : List (Visit S T)
    pub visited : AreVisited old visits new
    pub passed : GaveVisits visits before after
    pub ends : DoorEndsSo end before after

  -- connections were served over a pass since it was so, one after another, and each of them came back; what the pass holds is what it held, and so many of them
  -- ended for want of memory
  pub record ServedSince {H : Type 0} (holds : M → H) (old now : M) (start here : DoorView S T) (starved : ℕ) : Type 0 where
    pub holds_still : holds now ≡ holds old
    pub visits : List (Visit S T)
    pub visited : AreVisited old visits now
    pub passed : GaveVisits visits start here
    pub shut : start.over ≡ true → here.over ≡ true
    pub counted : starved ≡ capped (wants_in visits)

  -- one connection was served
  pub record ServesOne (old new : M) (before after : DoorView S T) : Type 0 where
    pub visit : Visit S T
    pub visited : IsVisited old visit new
    pub passed : GaveVisits (visit ∷ []) before after
    pub over : after.over ≡ before.over
    pub counted : after.faults ≡ before.faults

module _ {K C O P X S T : Type 0} (desk : DeskGhosts K P X) (clock : ClockGhosts C) (door : DoorGhosts O S T) (source : SourceGhosts S) (sink : SinkGhosts T) where
  -- what a work did since it was made with this desk, this clock, the first pass and the first door
  abbrev pub WorkServed : K → C → (first now : P) → (entrance here : O) → (starved : ℕ) → Type 0
  WorkServed of by first now entrance here starved =
      ∥ ServedSince (desk.answers of) (clock.moment by) (sight source sink) desk.holds first now (door_seen door entrance) (door_seen door here) starved ∥₁
