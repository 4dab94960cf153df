use Rattle.std.proofs.Common.{sym, subst}
use Rattle.serve_loop.specs.Doors.{ServedSince, door_seen, sight}
use Rattle.serve_loop.proofs.DoorLemmas.{since_none}
use Rattle.serve_loop.proofs.works.ServeWork.new.Goals as goal

pub invariant_of-result-clause-served : goal.invariant_of-result-clause-served
invariant_of-result-clause-served g c =
    let answers = g.K.Desk.answers c.args.desk.now in
    let moment = g.C.Clock.moment c.args.clock.now in
    let seen = sight g.O.In.Source g.O.Out.Sink in
    let view = door_seen g.O.Door in
    ∣ subst (λ pass. ServedSince answers moment seen g.K.Desk.holds pass c.args.pass (view c.of-entrance.result.value) (view c.args.door) 0) (sym c.of-first.ensures)
    (subst (λ door. ServedSince answers moment seen g.K.Desk.holds c.args.pass c.args.pass (view door) (view c.args.door) 0) (sym c.of-entrance.ensures)
    (since_none answers moment seen g.K.Desk.holds c.args.pass (view c.args.door))) ∣₁
