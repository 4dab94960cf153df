use Rattle.std.proofs.Common.{◌∙◌, refl}
use Rattle.std.proofs.lemmas.Result.{err_from_is_err_and}
use Rattle.s3_docs.specs.Machine.{PartNumber, Ending, Inside, with_number}
use Rattle.s3_docs.proofs.values.part_number.Goals as goal

pub returns-in_err-rest-clause-stops : goal.returns-in_err-rest-clause-stops
returns-in_err-rest-clause-stops c =
    let p = err_from_is_err_and c.from_residual-in_err-rest.result c.from_residual-in_err-rest.ensures.1 in
    let value = c.in_ok-found.found.value in
    rw (p.1, p.2) (λ holder.
    c.in_ok-found.ensures.reads holder
    ∙ c.in_err-rest.ensures.stops (Ending (with_number holder value) PartNumber) (Inside (with_number holder value)) (refl, refl, λ b. refl))
