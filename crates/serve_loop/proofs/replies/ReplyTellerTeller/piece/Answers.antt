use Rattle.std.proofs.Common.{refl}
use Rattle.serve_loop.specs.Seen.{told_of}
use Rattle.serve_loop.proofs.TellingLemmas.{tells_given}
use Rattle.serve_loop.proofs.replies.ReplyTellerTeller.piece.Goals as goal

-- src/telling.rt:89:5
pub returns-clause-tells : goal.returns-clause-tells
returns-clause-tells g c =
    tells_given (told_of g.T.Sink) (λ t. t.sink.ghost_name) _ c.give.result _ _ _ _ _ _ c.in_ok-flush.ensures.name c.in_ok-flush.ensures.gives refl refl c.if-self.false c.give.ensures
