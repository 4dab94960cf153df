-- What is seen of the work of serving a door.
use Rattle.std.specs.Prelude.{ℕ}
use Rattle.desk_base.specs.declared.desk.Desk.{Ghosts as DeskGhosts}
use Rattle.io_base.specs.declared.clock.Clock.{Ghosts as ClockGhosts}
use Rattle.io_base.specs.declared.door.Door.{Ghosts as DoorGhosts}
use Rattle.io_base.specs.declared.sink.Sink.{Ghosts as SinkGhosts}
use Rattle.io_base.specs.declared.source.Source.{Ghosts as SourceGhosts}
use Rattle.serve_loop.specs.Doors.{DoorServed, IsServedOut, WorkBegan, WorkServed, door_seen, sight, work_began}
use Rattle.serve_loop.specs.declared.ends.DoorEnd.{DoorEnd}
use Rattle.serve_loop.specs.declared.works.ServeWork.{ServeWork}

module _ {R K O C P X S T : Type 0} {desk : DeskGhosts K P X} {door : DoorGhosts O S T} {source : SourceGhosts S} {sink : SinkGhosts T} {clock : ClockGhosts C} where
  -- what it was made with
  abbrev pub began_of : ServeWork R K O C P X S T desk door source sink clock → WorkBegan K C P O
  began_of work = work_began work.desk.now work.clock.now work.first.value work.entrance.value

  -- of that its desk and its door
  abbrev pub desk_of : ServeWork R K O C P X S T desk door source sink clock → K
  desk_of work = work.desk.now

  abbrev pub entrance_of : ServeWork R K O C P X S T desk door source sink clock → O
  entrance_of work = work.entrance.value

  -- its pass and its door as they are now
  abbrev pub pass_of : ServeWork R K O C P X S T desk door source sink clock → P
  pass_of work = work.pass

  abbrev pub door_of : ServeWork R K O C P X S T desk door source sink clock → O
  door_of work = work.door

  -- how many connections ended for want of memory
  abbrev pub starved_of : ServeWork R K O C P X S T desk door source sink clock → ℕ
  starved_of work = work.starved

  -- it is done: its door was served to its end, and all connections since it was made are told
  abbrev pub IsWorked : ServeWork R K O C P X S T desk door source sink clock → Type 0
  IsWorked work = IsServedOut (door.over work.door) (door.faults work.entrance.value) (door.faults work.door)
      × WorkServed desk clock door source sink work.desk.now work.clock.now work.first.value work.pass work.entrance.value work.door work.starved

  -- it served its door to its end
  abbrev pub ServesDoor : (old new : ServeWork R K O C P X S T desk door source sink clock) → Type 0
  ServesDoor old new = (end : DoorEnd)
      × DoorServed (desk.answers old.desk.now) (clock.moment old.clock.now) (sight source sink) end old.pass new.pass (door_seen door old.door) (door_seen door new.door)
