use Rattle.std.proofs.Common.{◌≡◌}
use Rattle.serve_loop.specs.Doors.{door_seen, sight}
use Rattle.serve_loop.proofs.DoorLemmas.{DoorSoFar}
use Rattle.serve_loop.proofs.works.ServeWorkWork.work.Given as goal

-- the connections so far were served and came back, and the door failed at nothing
abbrev pub invariant-rounds : goal.invariant-rounds
invariant-rounds g l = record {
  holds : g.K.Desk.holds l.pass ≡ g.K.Desk.holds l.fn.self.pass;
  so_far : DoorSoFar (g.K.Desk.answers l.fn.self.desk.now) (g.C.Clock.moment l.fn.self.clock.now) (sight g.O.In.Source g.O.Out.Sink) l.fn.self.pass l.pass
      (door_seen g.O.Door l.fn.self.door)
      (door_seen g.O.Door l.door) l.fn.self.starved l.starved;
}
