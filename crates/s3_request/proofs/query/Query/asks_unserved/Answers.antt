use borrow.Author.Count.{below_more}
use Rattle.std.proofs.Common.{sym, ap, ◌∙◌, arith}
use Rattle.s3_request.specs.Query.{is_unserved}
use Rattle.s3_request.proofs.QueryLemmas.{any_found, any_missing}
use Rattle.s3_request.proofs.query.Query.asks_unserved.Goals as goal

pub loop-i-preserved : goal.loop-i-preserved
loop-i-preserved c =
    below_more _ _ c.loop-i.invariant (ap is_unserved (sym c.name.ensures) ∙ (sym c.is_unserved.ensures ∙ c.if-is_unserved.false))

pub returns-then-is_unserved : goal.returns-then-is_unserved
returns-then-is_unserved c =
    sym (any_found c.args.self.now c.loop-i.i (omega arith) (ap is_unserved (sym c.name.ensures) ∙ (sym c.is_unserved.ensures ∙ c.if-is_unserved.true)))

pub returns : goal.returns
returns c = sym (any_missing c.args.self.now (λ k less. c.loop-i.invariant k (omega (arith, less))))
