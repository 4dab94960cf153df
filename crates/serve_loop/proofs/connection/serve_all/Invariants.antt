use Rattle.std.proofs.Common.{◌≡◌, ◌≤◌}
use Rattle.serve_loop.specs.Intakes.{IsAtRest}
use Rattle.serve_loop.specs.Seen.{open_wires, wire_of}
use Rattle.serve_loop.proofs.SessionLemmas.{SoFar}
use Rattle.serve_loop.proofs.connection.serve_all.Given as goal

-- the requests so far were answered, and none was the last
abbrev pub invariant-loop-number : goal.invariant-loop-number
invariant-loop-number g l = record {
  rests : IsAtRest (wire_of l.intake);
  few : l.number ≤ 999999;
  holds : g.K.Desk.holds l.pass ≡ g.K.Desk.holds l.fn.pass;
  so_far : SoFar (g.K.Desk.answers l.fn.server.desk.now) (g.C.Clock.moment l.fn.server.clock.now) l.number l.fn.pass l.pass
      (open_wires g.S.Source g.T.Sink l.fn.intake l.fn.sink)
      (open_wires g.S.Source g.T.Sink l.intake l.sink);
}
