use Rattle.std.proofs.Common.{refl, arith, ◌∙◌}
use Rattle.serve_loop.specs.Seen.{unread}
use Rattle.serve_loop.specs.Sending.{sink_view}
use Rattle.serve_loop.proofs.SessionLemmas.{few_more, session_ended, so_far_more, so_far_none}
use Rattle.serve_loop.proofs.connection.serve_all.Goals as goal

pub loop-number-init : goal.loop-number-init
loop-number-init g c = record {
  rests = c.requires.rests;
  few = omega arith;
  holds = refl;
  so_far = so_far_none (g.K.Desk.answers c.args.server.now.desk.now) (g.C.Clock.moment c.args.server.now.clock.now) c.args.pass.now (unread c.args.intake.now) (sink_view g.T.Sink c.args.sink.now) _ _;
}

pub returns-in-Ended-clause-session : goal.returns-in-Ended-clause-session
returns-in-Ended-clause-session g c =
    session_ended (g.K.Desk.answers c.args.server.now.desk.now) (g.C.Clock.moment c.args.server.now.clock.now) c.in-Ended.end c.loop-number.number c.args.pass.now c.loop-number.pass c.serve_one.new.pass _ _ _
    c.loop-number.invariant.so_far (c.in-Ended.ensures.turn c.loop-number.number c.is_last.ensures)

pub loop-number-preserved : goal.loop-number-preserved
loop-number-preserved g c = record {
  rests = c.in-Answered.ensures.rests;
  few = few_more (g.K.Desk.answers c.args.server.now.desk.now) (g.C.Clock.moment c.args.server.now.clock.now) c.loop-number.number c.loop-number.pass c.serve_one.new.pass _ _ c.loop-number.invariant.few
      (c.in-Answered.ensures.turn c.loop-number.number c.is_last.ensures);
  holds = c.serve_one.ensures.holds ∙ c.loop-number.invariant.holds;
  so_far = so_far_more (g.K.Desk.answers c.args.server.now.desk.now) (g.C.Clock.moment c.args.server.now.clock.now) c.loop-number.number c.args.pass.now c.loop-number.pass c.serve_one.new.pass _ _ _
      c.loop-number.invariant.so_far (c.in-Answered.ensures.turn c.loop-number.number c.is_last.ensures);
}

pub returns-clause-session : goal.returns-clause-session
returns-clause-session g c = absurd (omega (arith, c.loop-number.invariant.few))
