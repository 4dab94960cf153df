use Rattle.std.proofs.Common.{◌≡◌, ◌∙◌, List, ℕ, Ok, Err, inl, inr, refl, subst}
use Rattle.serve_loop.specs.Sending.{Sent, SentFront, sink_view}
use Rattle.serve_loop.proofs.SentLemmas.{one_give}
use Rattle.ostore.proofs.surveying.tell.Goals as goal

pub returns-in-Ok-give-clause-told : goal.returns-in-Ok-give-clause-told
returns-in-Ok-give-clause-told g c =
    let old = sink_view g.K.Sink c.args.sink.now in
    let new = sink_view g.K.Sink c.give.new.self in
    inl (record {
      seens = c.in-Ok.survey.formats;
      term = c.in-Ok.survey.term;
      surveys = c.in-Ok.ensures.seen;
      gives = inl (
        refl,
        subst (λ (text : List ℕ). Sent text old new) (c.as_bytes.ensures.value ∙ c.in-Ok-document.ensures)
            (one_give (Ok c.in-Ok-give.field-0) c.as_bytes.result.now old new c.in-Ok-give.ensures.given c.in-Ok-give.ensures.trail),
        c.in-Ok-give.ensures.counted,
      );
    })

pub returns-clause-told : goal.returns-clause-told
returns-clause-told g c =
    let old = sink_view g.K.Sink c.args.sink.now in
    let new = sink_view g.K.Sink c.give.new.self in
    inl (record {
      seens = c.in-Ok.survey.formats;
      term = c.in-Ok.survey.term;
      surveys = c.in-Ok.ensures.seen;
      gives = inr (
        refl,
        subst (λ (text : List ℕ). SentFront text old new) (c.as_bytes.ensures.value ∙ c.in-Ok-document.ensures)
            (one_give (Err c.in-Err.field-0) c.as_bytes.result.now old new c.in-Err.ensures.given c.in-Err.ensures.trail),
        c.in-Err.ensures.counted,
      );
    })
