use Rattle.std.proofs.Common.{refl, sym, ◌∙◌}
use Rattle.serve_loop.specs.Exchanges.{asked, refused}
use Rattle.serve_loop.specs.Intakes.{IsAtRest}
use Rattle.serve_loop.specs.Seen.{from_of, open_wires, wire_of}
use Rattle.serve_loop.specs.Sending.{sink_view}
use Rattle.serve_loop.proofs.TurnLemmas.{refused_goes, rests_so, starved, turned}
use Rattle.serve_loop.proofs.exchange.serve_head.Goals as goal

pub returns-in-Ok-clause-turn : goal.returns-in-Ok-clause-turn
returns-in-Ok-clause-turn g c number front last head =
    let ask = asked c.args.head.now c.args.intake.now.stated c.in-Ok.call in
    turned (g.K.Desk.answers c.args.server.now.desk.now) (g.C.Clock.moment c.args.server.now.clock.now) c.turn_of.result c.serve_call-answer.result ask c.now-now.result c.manner_of-manner.result number front c.args.pass.now c.serve_call-answer.new.pass _
    (wire_of c.serve_call-answer.new.intake) (from_of c.serve_call-answer.new.intake) (sink_view g.T.Sink c.serve_call-answer.new.sink) _ _ c.turn_of.ensures c.serve_call-answer.new.intake.last (head, c.in-Ok.ensures.reads) c.now-now.ensures.told c.now-now.ensures.range
    (c.manner_of-manner.ensures.manner number ask last refl refl) (c.serve_call-answer.ensures.goes c.manner_of-manner.result c.closes-close.ensures)

pub returns-in-Err-Refused-clause-turn : goal.returns-in-Err-Refused-clause-turn
returns-in-Err-Refused-clause-turn g c number front last head =
    let ask = refused c.args.head.now c.args.intake.now.stated c.in-Err-Refused.why in
    turned (g.K.Desk.answers c.args.server.now.desk.now) (g.C.Clock.moment c.args.server.now.clock.now) c.turn_of-in-Err-Refused.result c.refuse-answer.result ask c.now-now.result c.manner_of-manner-in-Err-Refused.result number front c.args.pass.now c.args.pass.now _
    (wire_of c.refuse-answer.new.intake) (from_of c.refuse-answer.new.intake) (sink_view g.T.Sink c.refuse-answer.new.sink) _ _ c.turn_of-in-Err-Refused.ensures c.refuse-answer.new.intake.last (head, rw c.in-Err-Refused.field-0-is at c.in-Err-Refused.ensures.reads) c.now-now.ensures.told c.now-now.ensures.range
    (c.manner_of-manner-in-Err-Refused.ensures.manner number ask last refl (sym c.leaves_body.ensures))
    (refused_goes (g.K.Desk.answers c.args.server.now.desk.now) (g.C.Clock.moment c.args.server.now.clock.now) c.refuse-answer.result c.args.head.now c.args.intake.now.stated c.in-Err-Refused.why c.now-now.result c.manner_of-manner-in-Err-Refused.result c.args.pass.now (open_wires g.S.Source g.T.Sink c.args.intake.now c.args.sink.now) (open_wires g.S.Source g.T.Sink c.refuse-answer.new.intake c.refuse-answer.new.sink) (c.refuse-answer.ensures.goes c.manner_of-manner-in-Err-Refused.result c.closes-close-in-Err-Refused.ensures))

pub returns-in-Err-Refused-clause-rests : goal.returns-in-Err-Refused-clause-rests
returns-in-Err-Refused-clause-rests g c =
    rests_so (IsAtRest (wire_of c.refuse-answer.new.intake)) c.turn_of-in-Err-Refused.result c.refuse-answer.result c.manner_of-manner-in-Err-Refused.result c.leaves_body.result
    c.turn_of-in-Err-Refused.ensures c.manner_of-manner-in-Err-Refused.ensures.stays (λ stays. c.refuse-answer.ensures.rests (sym c.leaves_body.ensures ∙ stays))

pub returns-in-Err-NoMemory-clause-turn : goal.returns-in-Err-NoMemory-clause-turn
returns-in-Err-NoMemory-clause-turn g c number front last head =
    starved (g.K.Desk.answers c.args.server.now.desk.now) (g.C.Clock.moment c.args.server.now.clock.now) number front c.args.pass.now (wire_of c.args.intake.now) (from_of c.args.intake.now) (sink_view g.T.Sink c.args.sink.now) _ _ c.args.intake.now.last
