use Rattle.std.proofs.Common.{refl, ◌∙◌}
use Rattle.serve_loop.specs.Doors.{door_seen, sight}
use Rattle.serve_loop.specs.declared.ends.DoorEnd.TheVariants.{DoorFailed, Over}
use Rattle.std.proofs.Math.Logic.{∥∥₁_map}
use Rattle.serve_loop.proofs.DoorLemmas.{door_ended, door_more, door_none, ends_failed, ends_over, serves_one, since_ended}
use Rattle.serve_loop.proofs.works.ServeWorkWork.work.Goals as goal

pub rounds-init : goal.rounds-init
rounds-init g c = record {
  holds = refl;
  so_far = door_none (g.K.Desk.answers c.args.self.now.desk.now) (g.C.Clock.moment c.args.self.now.clock.now)
      (sight g.O.In.Source g.O.Out.Sink)
      c.args.self.now.pass (door_seen g.O.Door c.args.self.now.door) c.args.self.now.starved;
}

pub rounds-preserved : goal.rounds-preserved
rounds-preserved g c =
    let view = door_seen g.O.Door in
    let seen = sight g.O.In.Source g.O.Out.Sink in
    record {
      holds = c.serve_connection-served.ensures.holds ∙ c.rounds.invariant.holds;
      so_far = door_more (g.K.Desk.answers c.args.self.now.desk.now) (g.C.Clock.moment c.args.self.now.clock.now) seen
          c.args.self.now.pass c.rounds.pass c.serve_connection-served.new.pass (view c.args.self.now.door) (view c.rounds.door) (view c.back.new.self) _ _ _ c.rounds.invariant.so_far
          (serves_one (g.K.Desk.answers c.args.self.now.desk.now) (g.C.Clock.moment c.args.self.now.clock.now) seen
          (record {
            source = c.in-Ok-Some.source;
            sink = c.in-Ok-Some.sink;
            end = c.serve_connection-served.result.end;
            source_after = c.serve_connection-served.result.source;
            sink_after = c.serve_connection-served.new.sink;
          })
          c.rounds.pass c.serve_connection-served.new.pass (view c.rounds.door) (view c.next-in-rounds.new.self) (view c.back.new.self) c.serve_connection-served.ensures.session
          (rw c.in-Ok-Some.field-0-is at c.in-Ok-Some.ensures.over) (rw c.in-Ok-Some.field-0-is at c.in-Ok-Some.ensures.gave) c.in-Ok-Some.ensures.returned c.in-Ok-Some.ensures.counted
          c.back.ensures.returned c.back.ensures.over c.back.ensures.gave c.back.ensures.count)
          c.count_want.ensures;
    }

pub returns-in-Ok-None-clause-served : goal.returns-in-Ok-None-clause-served
returns-in-Ok-None-clause-served g c =
    let view = door_seen g.O.Door in (
      Over,
      door_ended (g.K.Desk.answers c.args.self.now.desk.now) (g.C.Clock.moment c.args.self.now.clock.now) (sight g.O.In.Source g.O.Out.Sink)
          c.args.self.now.pass c.rounds.pass (view c.args.self.now.door) (view c.rounds.door) (view c.next-in-rounds.new.self) _ _ Over c.rounds.invariant.so_far
          (rw c.in-Ok-None.field-0-is at c.in-Ok-None.ensures.gave) c.in-Ok-None.ensures.returned
          (rw c.in-Ok-None.field-0-is at c.in-Ok-None.ensures.over, c.in-Ok-None.ensures.counted ∙ c.rounds.invariant.so_far.counted),
    )

pub returns-in-Err-clause-served : goal.returns-in-Err-clause-served
returns-in-Err-clause-served g c =
    let view = door_seen g.O.Door in
    let answers = g.K.Desk.answers c.args.self.now.desk.now in
    let moment = g.C.Clock.moment c.args.self.now.clock.now in (
      DoorFailed (g.O.Door.faults c.args.self.now.door) (g.O.Door.faults c.next-in-rounds.new.self),
      door_ended answers moment (sight g.O.In.Source g.O.Out.Sink) c.args.self.now.pass c.rounds.pass (view c.args.self.now.door) (view c.rounds.door) (view c.next-in-rounds.new.self) _ _
          (DoorFailed (g.O.Door.faults c.args.self.now.door) (g.O.Door.faults c.next-in-rounds.new.self)) c.rounds.invariant.so_far c.in-Err.ensures.gave c.in-Err.ensures.returned
          (ends_failed answers moment (sight g.O.In.Source g.O.Out.Sink) c.args.self.now.pass c.rounds.pass (view c.args.self.now.door) (view c.rounds.door) (view c.next-in-rounds.new.self) _ _
          c.rounds.invariant.so_far c.in-Err.ensures.over c.in-Err.ensures.counted),
    )

pub invariant_of-self-clause-served : goal.invariant_of-self-clause-served
invariant_of-self-clause-served g c =
    let view = door_seen g.O.Door in
    let answers = g.K.Desk.answers c.args.self.now.desk.now in
    let moment = g.C.Clock.moment c.args.self.now.clock.now in
    ∥∥₁_map c.args.self.now.served (λ since. since_ended answers moment (sight g.O.In.Source g.O.Out.Sink) g.K.Desk.holds
    _ c.args.self.now.pass c.rounds.pass _ (view c.args.self.now.door) (view c.rounds.door) (view c.next-in-rounds.new.self) _ _ Over since c.rounds.invariant.holds c.rounds.invariant.so_far
    (rw c.in-Ok-None.field-0-is at c.in-Ok-None.ensures.gave) c.in-Ok-None.ensures.returned
    (ends_over answers moment (sight g.O.In.Source g.O.Out.Sink) c.args.self.now.pass c.rounds.pass (view c.args.self.now.door) (view c.rounds.door) (view c.next-in-rounds.new.self) _ _
    c.rounds.invariant.so_far (rw c.in-Ok-None.field-0-is at c.in-Ok-None.ensures.over) c.in-Ok-None.ensures.counted))

pub invariant_of-self-in-Err-clause-served : goal.invariant_of-self-in-Err-clause-served
invariant_of-self-in-Err-clause-served g c =
    let view = door_seen g.O.Door in
    let answers = g.K.Desk.answers c.args.self.now.desk.now in
    let moment = g.C.Clock.moment c.args.self.now.clock.now in
    ∥∥₁_map c.args.self.now.served (λ since. since_ended answers moment (sight g.O.In.Source g.O.Out.Sink) g.K.Desk.holds
    _ c.args.self.now.pass c.rounds.pass _ (view c.args.self.now.door) (view c.rounds.door) (view c.next-in-rounds.new.self) _ _
    (DoorFailed (g.O.Door.faults c.args.self.now.door) (g.O.Door.faults c.next-in-rounds.new.self)) since c.rounds.invariant.holds c.rounds.invariant.so_far
    c.in-Err.ensures.gave c.in-Err.ensures.returned
    (ends_failed answers moment (sight g.O.In.Source g.O.Out.Sink) c.args.self.now.pass c.rounds.pass (view c.args.self.now.door) (view c.rounds.door) (view c.next-in-rounds.new.self) _ _
    c.rounds.invariant.so_far c.in-Err.ensures.over c.in-Err.ensures.counted))
