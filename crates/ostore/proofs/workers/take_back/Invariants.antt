use Rattle.std.proofs.Common.{◌≡◌, ◌+◌, ◌≤◌, ◌++◌, List, map, reverse}
use Rattle.std.specs.List.{AllByRecursion}
use Rattle.std.specs.Prelude.{All, IsTrue, vec_capacity, vec_len}
use Rattle.serve_loop.specs.Doors.{capped}
use Rattle.store_shared.specs.SharedPasses.{FitsDesk, shared_holds}
use Rattle.store_shared.specs.declared.shared.SharedPass.{SharedPass}
use Rattle.ostore.specs.Workers.{AnyRose, AreUnited, IsOfDesk, IsStill, Worker, door_by, pass_by, starved_in, workers_of}
use Rattle.store_shared.specs.declared.shared.SharedDesk.{SharedDesk}
use Rattle.ostore.proofs.workers.take_back.Given as goal

-- the last works are taken apart, and there is room for the doors of the others
abbrev pub invariant-loop-work : goal.invariant-loop-work
invariant-loop-work g l = record {
  fits : FitsDesk l.desk (shared_holds l.whole);
  desks : All (IsOfDesk l.desk) (workers_of l.works.items);
  gone : List (Worker (SharedDesk g.row.R.Denot g.row.D.Denot g.row.A.Denot g.row.G.Denot) g.row.C.Denot (SharedPass g.row.D.Denot g.row.A.Denot) g.row.O.Denot);
  are : workers_of l.initial.works.items ≡ workers_of l.works.items ++ gone;
  united : AreUnited l.initial.whole (map pass_by gone) l.whole;
  back : l.doors.items ≡ l.initial.doors.items ++ reverse (map door_by gone);
  failed : IsTrue l.has_failed → AnyRose g.O.Door gone;
  still : (IsTrue l.has_failed → ⊥) → AllByRecursion (IsStill g.O.Door) gone;
  starved : l.starved ≡ capped (starved_in gone);
  room : vec_len l.doors + vec_len l.works ≤ vec_capacity l.doors;
  capacity : vec_capacity l.doors ≡ vec_capacity l.initial.doors;
  len : vec_len l.doors + vec_len l.works ≡ vec_len l.initial.doors + vec_len l.initial.works;
}

abbrev pub decreases-loop-work : goal.decreases-loop-work
decreases-loop-work g l = vec_len l.works
