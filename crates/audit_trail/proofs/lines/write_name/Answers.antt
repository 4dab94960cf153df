use Rattle.std.proofs.Common.{◌≡◌, ◌++◌, ℕ, List, sym, ap, ◌∙◌, subst, append_assoc}
use Rattle.io_base.proofs.Giving.{append_known-joined, GaveFront-joined}
use Rattle.io_base.specs.Sink.{GaveFront}
use Rattle.percent_encoding.specs.Iter.{encoded_text}
use Rattle.percent_encoding.specs.Percent.{percent_encode}
use Rattle.audit_trail.specs.declared.lines.TheConstants.{ESCAPED}
use Rattle.audit_trail.proofs.LineLemmas.{err_counted, err_gave, front_wider}
use Rattle.audit_trail.proofs.lines.write_name.Goals as goal

pub loop-piece-preserved : goal.loop-piece-preserved
loop-piece-preserved g c =
    let K = g.K.Sink in
    let so = c.loop-piece.invariant in
    let bytes = c.as_bytes.result.now in
    let rest = encoded_text c.next.new.self in (
      so.0 ++ bytes,
      append_known-joined (K.given c.args.sink.now) (K.given c.loop-piece.sink) (K.given c.give.new.self) so.0 bytes so.1 c.in_ok-give.ensures.given,
      append_assoc so.0 bytes rest ∙ ap (λ (b : List ℕ). so.0 ++ (b ++ rest)) c.as_bytes.ensures.value
          ∙ ap (λ (left : List ℕ). so.0 ++ left) (sym c.in-Some.ensures.steps) ∙ so.2,
      c.in_ok-give.ensures.counted ∙ so.3,
    )

pub returns-in_err-give-clause-given : goal.returns-in_err-give-clause-given
returns-in_err-give-clause-given g c =
    let K = g.K.Sink in
    let so = c.loop-piece.invariant in
    let bytes = c.as_bytes.result.now in
    let rest = encoded_text c.next.new.self in
    let old = K.given c.args.sink.now in
    let new = K.given c.give.new.self in
    let whole : so.0 ++ (bytes ++ rest) ≡ percent_encode ESCAPED c.args.name.now =
    ap (λ (b : List ℕ). so.0 ++ (b ++ rest)) c.as_bytes.ensures.value ∙ ap (λ (left : List ℕ). so.0 ++ left) (sym c.in-Some.ensures.steps) ∙ so.2 in
    err_gave c.from_residual.result (percent_encode ESCAPED c.args.name.now) old new c.from_residual.ensures.0
    (subst (λ (all : List ℕ). GaveFront all old new) whole
    (GaveFront-joined old (K.given c.loop-piece.sink) new so.0 (bytes ++ rest) so.1
    (front_wider (K.given c.loop-piece.sink) new bytes rest c.in_err-give.ensures.given)))

pub returns-in_err-give-clause-counted : goal.returns-in_err-give-clause-counted
returns-in_err-give-clause-counted g c =
    let K = g.K.Sink in
    err_counted c.from_residual.result (K.faults c.args.sink.now) (K.faults c.loop-piece.sink) (K.faults c.give.new.self)
    c.from_residual.ensures.0 c.loop-piece.invariant.3 c.in_err-give.ensures.counted
