use Rattle.std.specs.Prelude.{Ok, Err}
use Rattle.serve_loop.specs.Sending.{sink_view}
use Rattle.serve_loop.proofs.SentLemmas.{one_give}
use Rattle.serve_loop.proofs.replies.give.Goals as goal

-- src/giving.rt:22:1
pub returns-in-Ok : goal.returns-in-Ok
returns-in-Ok g c = (
  one_give (Ok c.in-Ok.field-0) c.args.text.now (sink_view g.T.Sink c.args.sink.now) (sink_view g.T.Sink c.give.new.self) c.in-Ok.ensures.given
      c.in-Ok.ensures.trail,
  c.in-Ok.ensures.counted,
)

-- src/giving.rt:22:1
pub returns-in-Err : goal.returns-in-Err
returns-in-Err g c = (
  one_give (Err c.in-Err.field-0) c.args.text.now (sink_view g.T.Sink c.args.sink.now) (sink_view g.T.Sink c.give.new.self) c.in-Err.ensures.given
      c.in-Err.ensures.trail,
  c.in-Err.ensures.counted,
)
