use Rattle.std.proofs.Common.{◌∙◌, subst, List, ℕ}
use Rattle.std.proofs.lemmas.Result.{err_from_is_err_and, IfErr-weaker}
use Rattle.s3_docs.specs.declared.prologue.Root.{Root}
use Rattle.s3_docs.specs.Machine.{Rooted, root_name, due}
use Rattle.s3_docs.specs.Reads.{Reads, Stops}
use Rattle.s3_docs.proofs.prologue.named.Goals as goal

pub returns-in_err-rest-clause-stops : goal.returns-in_err-rest-clause-stops
returns-in_err-rest-clause-stops c =
    let p = err_from_is_err_and c.from_residual.result c.from_residual.ensures.1 in
    let h = c.in_err-rest.ensures.stops (Rooted c.args.root) in
    rw (p.1, p.2) (subst (λ (name : List ℕ). Stops (due name (Rooted c.args.root)) c.args.text.now c.in_err-rest.field-0.0) c.root_name.ensures h)

pub returns-clause-stops : goal.returns-clause-stops
returns-clause-stops c =
    let h = c.in_ok-rest.ensures.reads (Rooted c.args.root) in
    let read = subst (λ (name : List ℕ). Reads (due name (Rooted c.args.root)) c.args.text.now (Rooted c.args.root) c.in_ok-rest.rest.now) c.root_name.ensures h in
    IfErr-weaker c.rooted.result (λ (left : ℕ). (root : Root) → Stops (Rooted root) c.in_ok-rest.rest.now left)
    (λ (left : ℕ). Stops (due (root_name c.args.root) (Rooted c.args.root)) c.args.text.now left)
    (λ left stop. read ∙ stop c.args.root) c.rooted.ensures.stops
