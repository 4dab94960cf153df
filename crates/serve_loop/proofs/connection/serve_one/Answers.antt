use Rattle.std.proofs.Common.{[], refl, sym, ◌∙◌, subst, arith}
use Rattle.serve_loop.specs.Exchanges.{IsHead}
use Rattle.serve_loop.specs.Seen.{from_of, open_wires, unread, wire_of}
use Rattle.serve_loop.specs.Sending.{sink_view}
use Rattle.serve_loop.proofs.HeadLemmas.{deeper, head_over, no_head, no_request, read_front}
use Rattle.serve_loop.proofs.IntakeLemmas.{taken_all}
use Rattle.serve_loop.proofs.MovedLemmas.{moved_of}
use Rattle.serve_loop.proofs.SentLemmas.{sent_none}
use Rattle.serve_loop.proofs.connection.serve_one.Goals as goal

pub returns-in-Ok-Some-clause-turn : goal.returns-in-Ok-Some-clause-turn
returns-in-Ok-Some-clause-turn g c number last =
    let reads = rw c.in-Ok-Some.field-0-is at c.in-Ok-Some.ensures.answers in
    let read = read_front _ _ c.args.intake.now.wire.window _ (from_of c.args.intake.now) (from_of c.next_head.new.self) _ _ c.args.intake.now.last reads.0 in
    deeper (g.K.Desk.answers c.args.server.now.desk.now) (g.C.Clock.moment c.args.server.now.clock.now) c.serve_head.result number read.front c.args.pass.now c.serve_head.new.pass
    (open_wires g.S.Source g.T.Sink c.args.intake.now c.args.sink.now)
    (open_wires g.S.Source g.T.Sink c.next_head.new.self c.args.sink.now) _ _
    (moved_of read.front [] (unread c.args.intake.now) (unread c.next_head.new.self) (sink_view g.T.Sink c.args.sink.now) (sink_view g.T.Sink c.args.sink.now) _ _ _ _ read.took (sent_none (sink_view g.T.Sink c.args.sink.now)) (omega (arith, reads.0.decides.1)) (omega arith))
    (reads.0.decides.1, refl)
    (c.serve_head.ensures.turn number read.front last
    (subst (IsHead read.front c.in-Ok-Some.head) (sym (c.next_head.ensures.stated ∙ reads.1)) read.is))

pub returns-in-Ok-None-clause-turn : goal.returns-in-Ok-None-clause-turn
returns-in-Ok-None-clause-turn g c number last =
    let reads = (rw c.in-Ok-None.field-0-is at c.in-Ok-None.ensures.answers).0 in
    let ends = reads.decides in
    head_over (g.K.Desk.answers c.args.server.now.desk.now) (g.C.Clock.moment c.args.server.now.clock.now) number c.args.pass.now reads.text (unread c.args.intake.now) (from_of c.next_head.new.self) (sink_view g.T.Sink c.args.sink.now) _ _ _ ends.0 ends.2
    (taken_all reads.text c.args.intake.now.wire.window reads.came.piece (from_of c.args.intake.now) (from_of c.next_head.new.self) c.args.intake.now.last reads.came.text_is reads.came.took) ends.3

pub returns-in-Ok-clause-turn : goal.returns-in-Ok-clause-turn
returns-in-Ok-clause-turn g c number last =
    no_head (g.K.Desk.answers c.args.server.now.desk.now) (g.C.Clock.moment c.args.server.now.clock.now) c.in-Err.fault c.args.intake.now.wire.window
    (from_of c.args.intake.now) (from_of c.next_head.new.self) (wire_of c.next_head.new.self) _ _ c.args.intake.now.last c.in-Err.ensures.answers
    c.refuse_head.result c.in-Ok.why c.now.result number c.args.pass.now (sink_view g.T.Sink c.args.sink.now) (sink_view g.T.Sink c.refuse_head.new.sink) _ _ _
    c.in-Ok.ensures c.now.ensures.told c.now.ensures.range c.refuse_head.ensures

pub returns-in-Err-unread-clause-turn : goal.returns-in-Err-unread-clause-turn
returns-in-Err-unread-clause-turn g c number last =
    no_request (g.K.Desk.answers c.args.server.now.desk.now) (g.C.Clock.moment c.args.server.now.clock.now) c.in-Err.fault c.args.intake.now.wire.window
    (from_of c.args.intake.now) (from_of c.next_head.new.self) (wire_of c.next_head.new.self) _ _ c.args.intake.now.last c.in-Err.ensures.answers
    c.in-Err-unread.end number c.args.pass.now (sink_view g.T.Sink c.args.sink.now) _ c.in-Err-unread.ensures
