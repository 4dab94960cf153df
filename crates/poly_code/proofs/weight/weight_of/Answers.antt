use Rattle.std.proofs.Common.{◌≡◌, ◌≢◌, ◌<◌, ℕ, length, get_or, sym, ◌∙◌, ap, subst, arith}
use Rattle.gf256.specs.Field.{product}
use Rattle.poly_code.specs.Lagrange.{differences, inverse_of, weight}
use Rattle.poly_code.proofs.Differences.{AreRows, are_rows, differences-nonzero, inverse_of-unique}
use Rattle.poly_code.proofs.weight.weight_of.Goals as goal

pub inv-requires : goal.inv-requires
inv-requires c =
    let rows = c.args.rows.now in
    let are : AreRows rows = are_rows rows (λ i. omega (arith, c.type_inv.rows i)) c.requires.distinct in
    let nonzero : differences rows c.args.index (get_or rows c.args.index 0) (length rows) ≢ 0 =
    differences-nonzero rows c.args.index (length rows) are c.requires.within (omega arith) in
    let positive : 0 < differences rows c.args.index (get_or rows c.args.index 0) (length rows) = omega arith in
    omega arith

pub returns : goal.returns
unfolding weight
returns c =
    let rows = c.args.rows.now in
    let are : AreRows rows = are_rows rows (λ i. omega (arith, c.type_inv.rows i)) c.requires.distinct in
    let at_own : ℕ = differences rows c.args.index (get_or rows c.args.index 0) (length rows) in
    let nonzero : at_own ≢ 0 = differences-nonzero rows c.args.index (length rows) are c.requires.within (omega arith) in
    let below : c.differences_from-below.result ≡ at_own = c.differences_from-below.ensures in
    let inverse : c.inv.result ≡ inverse_of at_own =
    inverse_of-unique at_own c.inv.result (subst (λ (v : ℕ). v < 256) below c.differences_from-below.type_inv) c.inv.type_inv nonzero
    (ap (λ y. product y c.inv.result) (sym below) ∙ c.inv.ensures) in
    c.mul.ensures ∙ ap (λ y. product y c.inv.result) c.differences_from-above.ensures ∙
    ap (λ y. product (differences rows c.args.index c.args.point (length rows)) y) inverse
