use Rattle.std.proofs.Common.{◌≡◌, ◌≢◌, ◌+◌, ℕ, suc, get_or, length, sym, ◌∙◌, ap, arith}
use Rattle.std.specs.Int.Bits.{bit_xor}
use Rattle.gf256.specs.Field.{product}
use Rattle.poly_code.specs.Lagrange.{differences}
use Rattle.poly_code.proofs.Differences.{differences-zero, differences-same, differences-other}
use Rattle.poly_code.proofs.weight.differences_from.Goals as goal
use Rattle.poly_code.proofs.weight.differences_from.Goals.{then-index-skipped, else-index-skipped}

pub loop-index-init : goal.loop-index-init
loop-index-init c = sym (differences-zero c.args.rows.now c.args.skipped c.args.point)

pub loop-index-preserved : goal.loop-index-preserved
loop-index-preserved c =
    let rows = c.args.rows.now in
    let i : ℕ = c.loop-index.index in
    let next : suc i ≡ i + 1 = omega arith in
    elim c.if-index-skipped.branch [
      | then-index-skipped w ↦
          let ne : i ≢ c.args.skipped = w.if-index-skipped.true in
          w.product-is ∙ w.mul-product.ensures ∙ ap (λ y. product y (bit_xor c.args.point (get_or rows i 0))) c.loop-index.invariant ∙
          sym (differences-other rows c.args.skipped c.args.point i ne) ∙
          ap (λ n. differences rows c.args.skipped c.args.point n) next
      | else-index-skipped w ↦
          let e : i ≡ c.args.skipped = w.if-index-skipped.false in
          w.product-is ∙ c.loop-index.invariant ∙ sym (differences-same rows c.args.skipped c.args.point i e) ∙
          ap (λ n. differences rows c.args.skipped c.args.point n) next
    ]

pub returns : goal.returns
returns c =
    let rows = c.args.rows.now in
    let end : c.loop-index.index ≡ length rows = omega arith in
    c.loop-index.invariant ∙ ap (λ n. differences rows c.args.skipped c.args.point n) end
