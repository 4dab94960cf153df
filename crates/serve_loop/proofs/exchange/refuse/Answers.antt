use Rattle.std.proofs.Common.{[], ◌∷◌, refl, sym, subst, ◌∙◌}
use Rattle.call_types.specs.declared.reply.Reply.TheVariants.{Refused}
use Rattle.desk_base.specs.Telling.Telling.{Head}
use Rattle.http_wire.proofs.SourceLemmas.{taken_none}
use Rattle.serve_loop.specs.Exchanges.{refused}
use Rattle.serve_loop.specs.Seen.{from_of, unread, wire_of}
use Rattle.serve_loop.specs.Sending.{Sent, sink_view}
use Rattle.serve_loop.proofs.RestLemmas.{greet_cut, greets_none, greets_refused, pass_cut, refuse_err, refusal_given, size_none, size_refused}
use Rattle.serve_loop.proofs.SentLemmas.{sent_none}
use Rattle.serve_loop.proofs.exchange.refuse.Goals as goal

pub returns-then-leaves_body-clause-goes : goal.returns-then-leaves_body-clause-goes
returns-then-leaves_body-clause-goes g c manner is =
    let leaves = sym c.leaves_body.ensures ∙ c.if-leaves_body.true in
    refusal_given c.give_refusal.result (refused c.args.head.now c.args.intake.now.stated c.args.why) c.args.why _ manner [] _ (unread c.args.intake.now) (unread c.args.intake.now)
    (sink_view g.T.Sink c.args.sink.now) (sink_view g.T.Sink c.args.sink.now) (sink_view g.T.Sink c.give_refusal.new.sink) _ _ _ _ _
    is (size_none c.args.head.now c.args.why _ leaves) (taken_none (unread c.args.intake.now)) refl
    (subst (λ l. Sent l (sink_view g.T.Sink c.args.sink.now) (sink_view g.T.Sink c.args.sink.now)) (greets_none c.args.head.now c.args.why c.args.intake.now.stated leaves)
    (sent_none (sink_view g.T.Sink c.args.sink.now))) refl c.give_refusal.ensures

pub returns-in_err-greet-clause-goes : goal.returns-in_err-greet-clause-goes
returns-in_err-greet-clause-goes g c manner is =
    let reads = sym c.leaves_body.ensures ∙ c.if-leaves_body.false in
    let cut = greet_cut c.in_err-greet.field-0.0 (refused c.args.head.now c.args.intake.now.stated c.args.why) _ manner (Head (Refused c.args.why) ∷ []) _ (unread c.args.intake.now)
    (sink_view g.T.Sink c.args.sink.now) (sink_view g.T.Sink c.greet.new.sink) (g.S.Source.faults c.args.intake.now.wire.source) _ _
    (greets_refused c.args.head.now c.args.why _ _ (c.body_left.ensures ∙ c.requires.fresh) reads) c.in_err-greet.ensures in
    refuse_err c.from_residual.result c.in_err-greet.field-0.0 _ _ _ _ _ _ c.from_residual.ensures.1 ([], cut)

pub returns-in_err-pass_over-clause-goes : goal.returns-in_err-pass_over-clause-goes
returns-in_err-pass_over-clause-goes g c manner is =
    let reads = sym c.leaves_body.ensures ∙ c.if-leaves_body.false in
    refuse_err c.from_residual-in_err-pass_over.result c.in_err-pass_over.field-0.0 _ _ _ _ _ _ c.from_residual-in_err-pass_over.ensures.1
    (pass_cut c.in_err-pass_over.field-0.0 (refused c.args.head.now c.args.intake.now.stated c.args.why) _ manner (Head (Refused c.args.why) ∷ [])
    (wire_of c.args.intake.now) (wire_of c.pass_over.new.self) (from_of c.args.intake.now) (from_of c.pass_over.new.self)
    (sink_view g.T.Sink c.args.sink.now) (sink_view g.T.Sink c.greet.new.sink) _ _ _ _
    (c.requires.fresh ∙ size_refused c.args.head.now c.args.why _ reads)
    (subst (λ l. Sent l (sink_view g.T.Sink c.args.sink.now) (sink_view g.T.Sink c.greet.new.sink)) (greets_refused c.args.head.now c.args.why _ _ (c.body_left.ensures ∙ c.requires.fresh) reads) c.in_ok-greet.ensures.0)
    c.in_ok-greet.ensures.1 c.in_err-pass_over.ensures.passes)

pub returns-clause-goes : goal.returns-clause-goes
returns-clause-goes g c manner is =
    let reads = sym c.leaves_body.ensures ∙ c.if-leaves_body.false in
    refusal_given c.give_refusal-2.result (refused c.args.head.now c.args.intake.now.stated c.args.why) c.args.why _ manner c.in_ok-pass_over.ensures.passes.rest _
    (unread c.args.intake.now) (unread c.pass_over.new.self) (sink_view g.T.Sink c.args.sink.now) (sink_view g.T.Sink c.greet.new.sink)
    (sink_view g.T.Sink c.give_refusal-2.new.sink) _ _ _ _ _
    is (c.in_ok-pass_over.ensures.passes.long ∙ c.requires.fresh ∙ size_refused c.args.head.now c.args.why _ reads)
    c.in_ok-pass_over.ensures.passes.took c.in_ok-pass_over.ensures.passes.counted
    (subst (λ l. Sent l (sink_view g.T.Sink c.args.sink.now) (sink_view g.T.Sink c.greet.new.sink)) (greets_refused c.args.head.now c.args.why _ _ (c.body_left.ensures ∙ c.requires.fresh) reads) c.in_ok-greet.ensures.0)
    c.in_ok-greet.ensures.1 c.give_refusal-2.ensures
