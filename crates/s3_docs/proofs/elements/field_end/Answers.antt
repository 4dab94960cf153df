use Rattle.std.proofs.Common.{◌∙◌, ℕ}
use Rattle.std.proofs.lemmas.Result.{err_from_is_err_and, IfErr-weaker}
use Rattle.s3_docs.specs.Machine.{State, end_tag}
use Rattle.s3_docs.specs.Reads.{Stops, Opens}
use Rattle.s3_docs.proofs.elements.field_end.Goals as goal

pub returns-in_err-rest-clause-stops : goal.returns-in_err-rest-clause-stops
returns-in_err-rest-clause-stops c =
    let p = err_from_is_err_and c.from_residual.result c.from_residual.ensures.1 in
    rw (p.1, p.2) (λ gap next opens. c.in_err-rest.ensures.stops gap (end_tag c.args.name.now next) opens)

pub returns-clause-stops : goal.returns-clause-stops
returns-clause-stops c =
    IfErr-weaker c.end_tag.result (λ (left : ℕ). (next : State) → Stops (end_tag c.args.name.now next) c.in_ok-rest.rest.now left)
    (λ (left : ℕ). (gap next : State) → Opens gap (end_tag c.args.name.now next) → Stops gap c.args.text.now left)
    (λ left stop gap next opens. c.in_ok-rest.ensures.reads gap (end_tag c.args.name.now next) opens ∙ stop next) c.end_tag.ensures.stops
