use Rattle.std.proofs.Common.{◌≡◌, ◌∙◌, sym, false, eqb, length}
use Rattle.std.proofs.lemmas.Result.{IfErr-weaker, IfOk-weaker}
use Rattle.s3_docs.specs.Machine.{After, Parts}
use Rattle.s3_docs.proofs.complete.parts_end.Goals as goal

pub returns-clause-reads : goal.returns-clause-reads
returns-clause-reads c =
    let some : eqb (length c.args.parts.now) 0 ≡ false = sym c.is_empty.ensures ∙ c.if-is_empty.false in
    rw some (IfOk-weaker c.expect.result _ _ (λ rest reads. reads (After (Parts c.args.parts.now))) c.expect.ensures.reads)

pub returns-clause-stops : goal.returns-clause-stops
returns-clause-stops c =
    let some : eqb (length c.args.parts.now) 0 ≡ false = sym c.is_empty.ensures ∙ c.if-is_empty.false in
    rw some (IfErr-weaker c.expect.result _ _ (λ left stops. stops (After (Parts c.args.parts.now))) c.expect.ensures.stops)
