use Rattle.std.proofs.Common.{◌<◌, ◌*◌, sym, ◌∙◌, ap, lit<, arith}
use Rattle.gf256.specs.Field.{power}
use Rattle.gf256.proofs.Powers.{power-zero, power-of_zero, power-mul}
use Rattle.gf256.proofs.TableLemmas.{power-two_mod}
use Rattle.gf256.proofs.ops.pow.Goals as goal

pub returns-then-n-eq0 : goal.returns-then-n-eq0
returns-then-n-eq0 c = sym (ap (λ n. power c.args.a n) c.if-n-eq0.true ∙ power-zero c.args.a)

pub returns-then-a-eq0 : goal.returns-then-a-eq0
returns-then-a-eq0 c =
    let positive : 0 < c.args.n = omega arith in
    sym (ap (λ a. power a c.args.n) c.if-a-eq0.true ∙ power-of_zero c.args.n positive)

pub returns : goal.returns
returns c =
    c.power_of_two.ensures ∙ power-two_mod (c.logarithm.result * c.args.n) ∙
    sym (power-mul 2 c.logarithm.result c.args.n (lit< tt)) ∙
    ap (λ a. power a c.args.n) c.logarithm.ensures.exponent
