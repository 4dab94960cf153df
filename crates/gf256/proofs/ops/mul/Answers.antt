use Rattle.std.proofs.Common.{sym, ◌∙◌, ap, lit<}
use Rattle.gf256.specs.Field.{product, power}
use Rattle.gf256.proofs.Products.{product-zero_left, product-zero_right}
use Rattle.gf256.proofs.Powers.{power-add}
use Rattle.gf256.proofs.ops.mul.Goals as goal
use Rattle.gf256.proofs.ops.mul.Goals.{then-a-eq0-via-then-a-eq0, then-a-eq0-via-else-a-eq0+then-b-eq0}

pub returns-then-a-eq0 : goal.returns-then-a-eq0
returns-then-a-eq0 c = elim c.then-a-eq0.branch [
  | then-a-eq0-via-then-a-eq0 w ↦
      sym (ap (λ x. product x c.args.b) w.if-a-eq0.true ∙ product-zero_left c.args.b)
  | then-a-eq0-via-else-a-eq0+then-b-eq0 w ↦
      sym (ap (λ x. product c.args.a x) w.if-b-eq0.true ∙ product-zero_right c.args.a)
]

pub returns : goal.returns
returns c =
    c.power_of_two.ensures ∙ power-add 2 c.logarithm.result c.logarithm-2.result (lit< tt) ∙
    ap (λ x. product x (power 2 c.logarithm-2.result)) c.logarithm.ensures.exponent ∙
    ap (λ x. product c.args.a x) c.logarithm-2.ensures.exponent
