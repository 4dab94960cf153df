use Rattle.std.proofs.Common.{sym, subst}
use Rattle.http_wire.specs.Taking.{source_view}
use Rattle.serve_loop.specs.Seen.{wires_of}
use Rattle.serve_loop.specs.Sending.{sink_view}
use Rattle.serve_loop.specs.Session.{Session}
use Rattle.serve_loop.specs.declared.ends.ConnectionEnd.TheVariants.{NoMemory}
use Rattle.serve_loop.proofs.SessionLemmas.{session_none}
use Rattle.serve_loop.proofs.connection.serve_connection.Goals as goal

-- src/connection.rt:106:1
pub returns-in-Err-clause-session : goal.returns-in-Err-clause-session
returns-in-Err-clause-session g c =
    subst (λ s. Session (g.K.Desk.answers c.args.desk.now) (g.C.Clock.moment c.args.clock.now) c.args.pass.now c.args.pass.now NoMemory
    (wires_of g.S.Source g.T.Sink c.args.source c.args.sink.now) (wires_of g.S.Source g.T.Sink s c.args.sink.now))
    (sym c.in-Err.ensures.back)
    (session_none (g.K.Desk.answers c.args.desk.now) (g.C.Clock.moment c.args.clock.now) c.args.pass.now (source_view g.S.Source c.args.source) (sink_view g.T.Sink c.args.sink.now) _ _)
