-- Workers that serve the doors of one store beside one another.
use Rattle.std.specs.Prelude.{◌≡◌, ◌⊎◌, ◌+◌, ℕ, Bool, true, not, List, [], ◌∷◌, ◌++◌, All, Option, Vec, length, map, reverse}
use Rattle.std.specs.Global.{Global}
use Rattle.std.specs.List.{AllByRecursion}
use Rattle.audit_trail.specs.declared.entry.Entry.{Entry}
use Rattle.desk_base.specs.declared.desk.Desk.{Ghosts as DeskGhosts}
use Rattle.drive_base.specs.declared.drive.Drive.{Ghosts}
use Rattle.fault_base.specs.Counts.{Rose}
use Rattle.io_base.specs.Works.{CountsLeft, picked}
use Rattle.io_base.specs.declared.clock.Clock.{Ghosts as ClockGhosts}
use Rattle.io_base.specs.declared.door.Door.{Ghosts as DoorGhosts}
use Rattle.io_base.specs.declared.sink.Sink.{Ghosts as SinkGhosts}
use Rattle.io_base.specs.declared.source.Source.{Ghosts as SourceGhosts}
use Rattle.serve_loop.specs.Doors.{DoorView, IsServedOut, ServedSince, Sight, WorkBegan, capped, door_view, sight, work_began}
use Rattle.serve_loop.specs.Works.{began_of, door_of, pass_of, starved_of}
use Rattle.serve_loop.specs.declared.works.ServeWork.{ServeWork}
use Rattle.store_shared.specs.Parting.{AreJoined, IsSplit}
use Rattle.store_shared.specs.SharedAnswers.{SharedAnswers}
use Rattle.store_shared.specs.SharedPasses.{FitsDesk, drives_of, shared_holds}
use Rattle.store_shared.specs.declared.shared.SharedDesk.{SharedDesk}
use Rattle.store_shared.specs.declared.shared.SharedPass.{SharedPass}
use Rattle.ostore.specs.Sharing.{LeadTo}
use Rattle.ostore.specs.Statuses.{done, out_of_memory, read_fault, write_fault}

-- each of these passes is one of the desk's
abbrev pub FitsEach : {R D A G : Type 0} → SharedDesk R D A G → List (SharedPass D A) → Type 0
FitsEach desk passes = All (λ pass. FitsDesk desk (shared_holds pass)) passes

-- a row of ways has so many, and which they are
abbrev pub HasLength : {D : Type 0} → ℕ → Vec D Global → Type 0
HasLength n row = length row.items ≡ n

abbrev pub ways_of : {D : Type 0} → Vec D Global → List D
ways_of row = row.items

-- a worker: what it was made with, its pass and its door as they came back, and how many of its connections ended for want of memory
pub record Worker (K C P O : Type 0) : Type 0 where
  pub began : WorkBegan K C P O
  pub pass : P
  pub door : O
  pub starved : ℕ

module _ {K C P O : Type 0} where
  abbrev pub begun_by : Worker K C P O → WorkBegan K C P O
  begun_by worker = worker.began

  -- a worker is one of this desk's
  abbrev pub IsOfDesk : K → Worker K C P O → Type 0
  IsOfDesk desk worker = worker.began.desk ≡ desk

  abbrev pub pass_by : Worker K C P O → P
  pass_by worker = worker.pass

  abbrev pub door_by : Worker K C P O → O
  door_by worker = worker.door

  abbrev pub given_by : Worker K C P O → O
  given_by worker = worker.began.door

  -- how many connections of all workers ended for want of memory, by the count of each
  abbrev pub starved_in : List (Worker K C P O) → ℕ
  starved_in [] = 0
  starved_in (worker ∷ workers) = worker.starved + starved_in workers

  -- a worker has a pass and a door of this desk and clock, and did nothing yet
  abbrev pub IsPost : K → C → Worker K C P O → Type 0
  IsPost desk clock worker = worker.began ≡ work_began desk clock worker.pass worker.door

module _ {R K O C P X S T : Type 0} {desk : DeskGhosts K P X} {door : DoorGhosts O S T} {source : SourceGhosts S} {sink : SinkGhosts T} {clock : ClockGhosts C} where
  -- the worker of a work
  abbrev pub worker_of : ServeWork R K O C P X S T desk door source sink clock → Worker K C P O
  worker_of work = record { began = began_of work; pass = pass_of work; door = door_of work; starved = starved_of work }

  abbrev pub workers_of : List (ServeWork R K O C P X S T desk door source sink clock) → List (Worker K C P O)
  workers_of works = map worker_of works

module _ {D A : Type 0} where
  -- one part of each lock is cut off a pass for each of these passes, one after another
  abbrev pub AreDealt : SharedPass D A → List (SharedPass D A) → SharedPass D A → Type 0
  AreDealt whole [] rest = rest ≡ whole
  AreDealt whole (pass ∷ passes) rest = (mid : SharedPass D A) × IsSplit whole mid pass (drives_of pass) × AreDealt mid passes rest

  -- passes are joined with one, from the last to the first: it has the parts and the turns of all, lock by lock
  abbrev pub AreUnited : SharedPass D A → List (SharedPass D A) → SharedPass D A → Type 0
  AreUnited first [] whole = whole ≡ first
  AreUnited first (pass ∷ passes) whole =
      (mid : SharedPass D A) × (ways : List D) × AreUnited first passes mid × AreJoined mid pass whole ways

module _ {O S T : Type 0} (door : DoorGhosts O S T) where
  -- what is seen of a door
  abbrev pub view_of : O → DoorView S T
  view_of it = door_view door.over door.gave door.returned door.faults it

  module _ {K C P : Type 0} where
    -- the door of a worker failed since it began
    abbrev pub DoorRose : Worker K C P O → Type 0
    DoorRose worker = Rose (door.faults worker.began.door) (door.faults worker.door)

    -- that of some worker
    abbrev pub AnyRose : List (Worker K C P O) → Type 0
    AnyRose [] = ⊥
    AnyRose (worker ∷ workers) = DoorRose worker ⊎ AnyRose workers

    -- the door of a worker failed at nothing since it began
    pub record IsStill (worker : Worker K C P O) : Type 0 where
      pub held : DoorRose worker → ⊥
      pub faults : door.faults worker.door ≡ door.faults worker.began.door

    -- and it is over
    pub record IsOver (worker : Worker K C P O) : Type 0 where
      pub over : door.over worker.door ≡ true
      pub held : DoorRose worker → ⊥
      pub faults : door.faults worker.door ≡ door.faults worker.began.door

    -- how the serving of doors ended, from the workers that were done and what was left: a door failed; or some work was left; or all doors are over
    abbrev pub DoorsEnd : {L : Type 0} → ℕ → List (Worker K C P O) → List L → Type 0
    DoorsEnd status dones lefts =
        ((status ≡ read_fault) × AnyRose dones)
        ⊎ (((status ≡ write_fault) × ((lefts ≡ []) → ⊥) × AllByRecursion IsStill dones)
        ⊎ ((status ≡ done) × (lefts ≡ []) × AllByRecursion IsOver dones))

module _ {D A O : Type 0} where
  -- there was no memory for the passes of all workers: those that were cut off are joined again, and no door was touched
  pub record NotDealt (first whole : SharedPass D A) (doors doors_after : List O) (status starved faults faults_after : ℕ) : Type 0 where
    pub status_is : status ≡ out_of_memory
    pub starved_is : starved ≡ 0
    pub passes : List (SharedPass D A)
    pub rest : SharedPass D A
    pub dealt : AreDealt first passes rest
    pub united : AreUnited rest passes whole
    pub doors_back : doors_after ≡ doors
    pub counted : faults_after ≡ faults

module _ {D A O S T Root : Type 0} (ghosts : Ghosts D) (root : D → Root) (entries : A → Option (List Entry)) (count : A → ℕ) (door : DoorGhosts O S T) (source : SourceGhosts S)
    (sink : SinkGhosts T) (moment : Option ℕ) where
  -- how the ends of the connections of a door are seen
  abbrev pub sight_of : Sight S T
  sight_of = sight source sink

  module _ {K C : Type 0} where
    -- a worker served its door until it was over or failed: connections one after another, each a session over its pass, whose calls ran among those of the others.
    -- It counts those that ended for want of memory
    pub record HasServed (worker : Worker K C (SharedPass D A) O) : Type 0 where
      pub out : IsServedOut (door.over worker.door) (door.faults worker.began.door) (door.faults worker.door)
      pub served : ∥ ServedSince (SharedAnswers ghosts entries count) moment sight_of shared_holds worker.began.pass worker.pass
          (view_of door worker.began.door) (view_of door worker.door) worker.starved ∥₁

    -- works of these workers were done or left beside one another: those that were done have served, with what they were made with; those that were left are as
    -- they were, and counted
    pub record WorksRan (posts dones lefts : List (Worker K C (SharedPass D A) O)) (faults faults_after : ℕ) : Type 0 where
      pub ran : ℕ → Bool
      pub dones_are : map begun_by dones ≡ picked ran 0 (map begun_by posts)
      pub lefts_are : lefts ≡ picked (λ n. not (ran n)) 0 posts
      pub served : All HasServed dones
      pub counted : CountsLeft lefts faults faults_after

    -- a worker got a pass with shared ways of its own to these data drives, in their order
    abbrev pub HasWays : List D → Worker K C (SharedPass D A) O → Type 0
    HasWays drives worker = LeadTo ghosts root drives (drives_of (pass_by worker))

    -- doors were served by workers beside one another. Each worker got a pass that was cut off the first one, with ways of its own to the data drives, and a
    -- door; those that could not be started are as they were, and counted, the others have served. All passes were joined then, and all doors are back. The
    -- connections that ended for want of memory are counted over all that have served
    pub record WorkersServed (desk : K) (clock : C) (first whole : SharedPass D A) (doors doors_after : List O) (status starved faults faults_after : ℕ) : Type 0 where
      pub posts : List (Worker K C (SharedPass D A) O)
      pub are_posts : All (IsPost desk clock) posts
      pub ways : All (HasWays (drives_of first)) posts
      pub rest : SharedPass D A
      pub dealt : AreDealt first (reverse (map pass_by posts)) rest
      pub doors_are : doors ≡ reverse (map door_by posts)
      pub dones : List (Worker K C (SharedPass D A) O)
      pub lefts : List (Worker K C (SharedPass D A) O)
      pub ran : WorksRan posts dones lefts faults faults_after
      pub mid : SharedPass D A
      pub united : AreUnited rest (map pass_by dones) mid
      pub united_too : AreUnited mid (map pass_by lefts) whole
      pub doors_back : doors_after ≡ reverse (map door_by dones) ++ reverse (map door_by lefts)
      pub ends : DoorsEnd door status dones lefts
      pub starved_is : starved ≡ capped (starved_in dones)

    -- one or the other
    abbrev pub DoorsServed : K → C → SharedPass D A → SharedPass D A → List O → List O → ℕ → ℕ → ℕ → ℕ → Type 0
    DoorsServed desk clock first whole doors doors_after status starved faults faults_after =
        WorkersServed desk clock first whole doors doors_after status starved faults faults_after
        ⊎ NotDealt first whole doors doors_after status starved faults faults_after
