use borrow.Author.Count.{below_more}
use Rattle.std.proofs.Common.{sym, ap, ◌∙◌, arith}
use Rattle.std.specs.Prelude.{Some}
use Rattle.std.specs.Str.{bytes_eq}
use Rattle.s3_request.proofs.QueryLemmas.{value_found, value_missing}
use Rattle.s3_request.proofs.query.Query.value_of.Goals as goal

pub loop-i-preserved : goal.loop-i-preserved
loop-i-preserved c =
    below_more _ _ c.loop-i.invariant (ap (bytes_eq c.args.name.now) (sym c.name.ensures) ∙ (sym c.eq.ensures ∙ c.if-eq.false))

pub returns-then-eq : goal.returns-then-eq
returns-then-eq c =
    value_found (bytes_eq c.args.name.now) c.args.self.now c.loop-i.i (omega arith) c.loop-i.invariant
    (ap (bytes_eq c.args.name.now) (sym c.name.ensures) ∙ (sym c.eq.ensures ∙ c.if-eq.true))
    ∙ ap Some (sym c.value.ensures)

pub returns : goal.returns
returns c = value_missing (bytes_eq c.args.name.now) c.args.self.now (λ k less. c.loop-i.invariant k (omega (arith, less)))
