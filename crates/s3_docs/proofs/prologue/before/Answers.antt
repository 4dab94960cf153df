use Rattle.std.proofs.Common.{refl}
use Rattle.std.proofs.lemmas.Result.{err_from_is_err_and}
use Rattle.s3_docs.specs.Machine.{Before, Rooted, root_name, due}
use Rattle.s3_docs.proofs.prologue.before.Goals as goal

pub returns-in_err-rest-clause-stops : goal.returns-in_err-rest-clause-stops
returns-in_err-rest-clause-stops c =
    let p = err_from_is_err_and c.from_residual.result c.from_residual.ensures.1 in
    rw (p.1, p.2) (c.in_err-rest.ensures.stops (Before c.args.root) (due (root_name c.args.root) (Rooted c.args.root)) (refl, refl, λ b. refl))
