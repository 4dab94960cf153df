use Rattle.std.proofs.Common.{◌-◌, sym, ◌∙◌, ap}
use Rattle.gf256.specs.Field.{product, power}
use Rattle.gf256.proofs.Inverses.{power-inverse}
use Rattle.gf256.proofs.ops.inv.Goals as goal

pub returns : goal.returns
returns c =
    ap (λ x. product c.args.a x) c.power_of_two.ensures ∙
    sym (ap (λ x. product x (power 2 (255 - c.logarithm.result))) c.logarithm.ensures.exponent) ∙
    power-inverse c.logarithm.result c.logarithm.ensures.below
