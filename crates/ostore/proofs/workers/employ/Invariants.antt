use Rattle.std.proofs.Common.{◌≡◌, ◌+◌, ◌≤◌, ◌++◌, length, map, reverse}
use Rattle.std.specs.Prelude.{All, vec_capacity, vec_len}
use Rattle.ostore.specs.Workers.{FitsEach, IsPost, door_by, pass_by, workers_of}
use Rattle.ostore.proofs.workers.employ.Given as goal

-- the last passes and doors have workers, and there is room for the others
abbrev pub invariant-loop-door : goal.invariant-loop-door
invariant-loop-door g l = record {
  posts : All (IsPost l.desk l.clock) (workers_of l.works.items);
  passes : l.initial.passes.items ≡ l.passes.items ++ reverse (map pass_by (workers_of l.works.items));
  doors : l.initial.doors.items ≡ l.doors.items ++ reverse (map door_by (workers_of l.works.items));
  fit : FitsEach l.desk l.passes.items;
  count : length l.passes.items ≡ length l.doors.items;
  room : vec_len l.works + vec_len l.doors ≤ vec_capacity l.works;
  capacity : vec_capacity l.doors ≡ vec_capacity l.initial.doors;
}

abbrev pub decreases-loop-door : goal.decreases-loop-door
decreases-loop-door g l = vec_len l.doors
