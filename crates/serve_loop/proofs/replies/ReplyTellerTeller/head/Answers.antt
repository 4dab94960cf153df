use Rattle.std.proofs.Common.{refl, ap, ◌∙◌, ◌++◌}
use Rattle.serve_loop.specs.Seen.{told_of}
use Rattle.serve_loop.proofs.TellingLemmas.{takes_held, tells_flushed}
use Rattle.serve_loop.proofs.replies.ReplyTellerTeller.head.Goals as goal

-- src/telling.rt:84:13
pub returns-then-self-clause-tells : goal.returns-then-self-clause-tells
returns-then-self-clause-tells g c = (refl, takes_held _ _ _ refl (c.in-Ok-behind.ensures ∙ ap (λ l. l ++ c.in-Ok.text.items) c.deref.ensures.value ∙ ap (λ l. c.args.self.now.held.now.items ++ l) c.in-Ok.ensures) refl)

-- src/telling.rt:67:5
pub returns-clause-tells : goal.returns-clause-tells
returns-clause-tells g c =
    tells_flushed (told_of g.T.Sink) (λ t. t.sink.ghost_name) _ c.flush.result _ _ _ _ _ c.flush.ensures.name refl refl (c.in-Ok-behind.ensures ∙ ap (λ l. l ++ c.in-Ok.text.items) c.deref.ensures.value ∙ ap (λ l. c.args.self.now.held.now.items ++ l) c.in-Ok.ensures) c.if-self.false c.flush.ensures.gives
