use Rattle.std.proofs.Common.{[], inl, inr, refl, sym, ap, subst, ◌∙◌}
use Rattle.serve_loop.specs.Exchanges.{asked, expects_continue, greeting}
use Rattle.serve_loop.specs.Seen.{from_of, open_wires, told_of, unread, wire_of}
use Rattle.serve_loop.specs.Sending.{Sent, sink_view}
use Rattle.serve_loop.specs.Turns.{AskGoes, Asking}
use Rattle.serve_loop.proofs.CallLemmas.{call_goes, goes_err}
use Rattle.serve_loop.proofs.CutLemmas.{asked_cut, asked_well, was_so, waits_so}
use Rattle.serve_loop.proofs.RestLemmas.{greet_cut, pass_cut}
use Rattle.serve_loop.proofs.TellingLemmas.{takes_all}
use Rattle.serve_loop.proofs.exchange.serve_call.Goals as goal

pub returns-in_err-greet-clause-goes : goal.returns-in_err-greet-clause-goes
returns-in_err-greet-clause-goes g c manner is =
    let cut = greet_cut c.in_err-greet.field-0.0 (asked c.args.head.now c.args.intake.now.stated c.args.call.now) _ manner [] _ (unread c.args.intake.now)
    (sink_view g.T.Sink c.args.sink.now) (sink_view g.T.Sink c.greet.new.sink) (g.S.Source.faults c.args.intake.now.wire.source) _ _
    (ap (λ n. greeting (expects_continue c.args.head.now n)) (c.body_left.ensures ∙ c.requires.fresh)) c.in_err-greet.ensures in
    goes_err (g.K.Desk.answers c.args.server.now.desk.now) c.from_residual.result c.in_err-greet.field-0.0 _ _ manner c.args.pass.now _ _ c.from_residual.ensures.1
    ([], cut)

pub returns-in_err-ready-clause-goes : goal.returns-in_err-ready-clause-goes
returns-in_err-ready-clause-goes g c manner is =
    goes_err (g.K.Desk.answers c.args.server.now.desk.now) c.from_residual-in_err-ready.result c.in_err-ready.field-0.0 _ _ manner c.args.pass.now _ _ c.from_residual-in_err-ready.ensures.1
    (pass_cut c.in_err-ready.field-0.0 (asked c.args.head.now c.args.intake.now.stated c.args.call.now) _ manner [] (wire_of c.args.intake.now) (wire_of c.ready.new.intake)
    (from_of c.args.intake.now) (from_of c.ready.new.intake) (sink_view g.T.Sink c.args.sink.now) (sink_view g.T.Sink c.greet.new.sink) _ _ _ _
    c.requires.fresh
    (subst (λ n. Sent (greeting (expects_continue c.args.head.now n)) (sink_view g.T.Sink c.args.sink.now) (sink_view g.T.Sink c.greet.new.sink))
    (c.body_left.ensures ∙ c.requires.fresh) c.in_ok-greet.ensures.0)
    c.in_ok-greet.ensures.1 c.in_err-ready.ensures.readies)

pub returns-in-Ok-clause-goes : goal.returns-in-Ok-clause-goes
returns-in-Ok-clause-goes g c manner is =
    let ready = c.in_ok-ready.ensures.readies in
    let serves = c.in-Ok.ensures.serves in
    let all = takes_all (told_of g.T.Sink) (λ t. t.sink.ghost_name) serves.tale _ c.call.new.teller serves.told in
    let asking : Asking = record { head = c.args.head.now; call = c.args.call.now; now = c.args.now; close = c.args.close; long = c.ready.new.intake.wire.body_left } in
    call_goes (g.K.Desk.answers c.args.server.now.desk.now) c.finish.result _ _ _ _ _ manner _ _ (wire_of c.args.intake.now) (wire_of c.ready.new.intake)
    (from_of c.args.intake.now) (from_of c.ready.new.intake) (sink_view g.T.Sink c.args.sink.now) (sink_view g.T.Sink c.greet.new.sink) _ _ _ _ _ _ _
    is c.requires.fresh ready
    (subst (λ n. Sent (greeting (expects_continue c.args.head.now n)) (sink_view g.T.Sink c.args.sink.now) (sink_view g.T.Sink c.greet.new.sink))
    (c.body_left.ensures ∙ c.requires.fresh) c.in_ok-greet.ensures.0)
    c.in_ok-greet.ensures.1
    (subst (λ s. AskGoes (g.K.Desk.answers c.args.server.now.desk.now) c.finish.result asking c.args.pass.now c.call.new.pass
    (open_wires g.S.Source g.T.Sink c.ready.new.intake c.greet.new.sink)
    (open_wires g.S.Source g.T.Sink c.finish.new.intake s))
    (sym (c.sink-1.given.1 (sym (c.finish.ensures.name ∙ all.0))))
    (asked_well (g.K.Desk.answers c.args.server.now.desk.now) (told_of g.T.Sink) (λ t. t.sink.ghost_name) c.finish.result asking _ _ _ c.in-Ok.field-0 serves.body serves.tale _ _
    (wire_of c.ready.new.intake) (wire_of c.call.new.feed) (wire_of c.finish.new.intake)
    (from_of c.ready.new.intake) (from_of c.call.new.feed) (from_of c.finish.new.intake) _ _ _ _ c.call.new.teller c.finish.new.teller _ _ _
    refl (ready.fresh ∙ sym ready.states) c.call.new.feed.within serves.took serves.whole serves.answers serves.told refl c.new-held.ensures.items
    (elim (waits_so c.stated_length.result) [ inl all ↦ inl all | inr none ↦ inr (ready.fresh ∙ sym c.stated_length.ensures ∙ none) ])
    c.in-Ok.ensures.cause.0 c.in-Ok.ensures.cause.1 c.finish.ensures.finishes))

pub returns-clause-goes : goal.returns-clause-goes
returns-clause-goes g c manner is =
    let ready = c.in_ok-ready.ensures.readies in
    let serves = c.in-Err.ensures.serves in
    let all = was_so g.row.K-Receipt.Denot (told_of g.T.Sink) (λ t. t.sink.ghost_name) c.in-Err.cut serves.tale _ c.call.new.teller serves.told in
    let asking : Asking = record { head = c.args.head.now; call = c.args.call.now; now = c.args.now; close = c.args.close; long = c.ready.new.intake.wire.body_left } in
    call_goes (g.K.Desk.answers c.args.server.now.desk.now) c.break_off.result _ _ _ _ _ manner _ _ (wire_of c.args.intake.now) (wire_of c.ready.new.intake)
    (from_of c.args.intake.now) (from_of c.ready.new.intake) (sink_view g.T.Sink c.args.sink.now) (sink_view g.T.Sink c.greet.new.sink) _ _ _ _ _ _ _
    is c.requires.fresh ready
    (subst (λ n. Sent (greeting (expects_continue c.args.head.now n)) (sink_view g.T.Sink c.args.sink.now) (sink_view g.T.Sink c.greet.new.sink))
    (c.body_left.ensures ∙ c.requires.fresh) c.in_ok-greet.ensures.0)
    c.in_ok-greet.ensures.1
    (subst (λ s. AskGoes (g.K.Desk.answers c.args.server.now.desk.now) c.break_off.result asking c.args.pass.now c.call.new.pass
    (open_wires g.S.Source g.T.Sink c.ready.new.intake c.greet.new.sink)
    (open_wires g.S.Source g.T.Sink c.call.new.feed s))
    (sym (c.sink-in-Err-1.given.1 (sym (c.break_off.ensures.name ∙ all.0))))
    (asked_cut (g.K.Desk.answers c.args.server.now.desk.now) (told_of g.T.Sink) (λ t. t.sink.ghost_name) c.in-Err.cut c.break_off.result asking _ _ _ serves.body serves.tale _ _
    (wire_of c.ready.new.intake) (wire_of c.call.new.feed) (from_of c.ready.new.intake) (from_of c.call.new.feed) _ _ _ c.call.new.teller c.break_off.new.teller _ _ _
    refl (ready.fresh ∙ sym ready.states) c.call.new.feed.within ready.fresh serves.took serves.whole serves.answers serves.told refl c.new-held.ensures.items
    (elim (waits_so c.stated_length.result) [ inl all ↦ inl all | inr none ↦ inr (ready.fresh ∙ sym c.stated_length.ensures ∙ none) ])
    c.in-Err.ensures.cause c.break_off.ensures.breaks))
