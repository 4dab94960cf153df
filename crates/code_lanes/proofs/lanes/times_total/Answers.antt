use Rattle.std.proofs.Common.{get_or, sym, ap, ◌∙◌}
use Rattle.gf256.specs.Field.{product}
use Rattle.gf256.proofs.Products.{product-one_left}
use Rattle.code_lanes.proofs.LaneLemmas.{lane_byte}
use Rattle.code_lanes.proofs.lanes.times_total.Goals as goal

pub returns-then-total-eq1 : goal.returns-then-total-eq1
returns-then-total-eq1 c is =
    let v = c.args.v in
    record {
      long = c.fits-v.0;
      each = λ k l.
          sym (ap (λ t. product t (get_or v k 0)) c.if-total-eq1.true ∙ product-one_left (get_or v k 0) (lane_byte v c.fits-v.0 c.fits-v.1 k l));
    }

pub returns : goal.returns
returns c is = c.times.ensures c.args.total is
