use Rattle.std.proofs.Common.{◌≡◌, ℕ, ◌+◌, ◌-◌, ◌*◌, ◌≤◌, ◌∙◌, List, length, take, drop, arith, subst}
use Rattle.std.proofs.Math.Nat.{mul-le-mul_left}
use borrow.Rule.Slice.PartMut.{put_mid}
use Rattle.poly_code.proofs.ValueLemmas.{AreValues}
use Rattle.poly_code.proofs.BlockLemmas.{length-part}
use Rattle.poly_code.proofs.ValueLemmas.{values_more}
use Rattle.poly_code.proofs.block.fill_pairs.Goals as goal

pub loop-pair-preserved : goal.loop-pair-preserved
loop-pair-preserved c =
    let rows = c.args.rows.now in
    let have = c.args.have.now in
    let width = c.args.width in
    let pair = c.loop-pair.pair in
    let out : List ℕ = c.loop-pair.out in
    let made : List ℕ = c.fill_two_blocks.new.out in
    let from : ℕ = 2 * pair * width in
    let whole : width * (2 * pair + 2) ≤ width * (2 * c.args.pairs) = mul-le-mul_left width (omega arith) in
    let room : from + 2 * width ≤ length out = omega arith in
    let part : length (take (from + 2 * width - from) (drop from out)) ≡ 2 * width = length-part out from (2 * width) room in
    let long : length made ≡ 2 * width = c.fill_two_blocks.auto.out ∙ part in
    let next : 2 * pair + 2 ≡ 2 * (pair + 1) = omega arith in
    subst (λ n. AreValues rows width have c.args.point n (put_mid from (from + 2 * width - from) out made)) next
    (values_more rows have out made width c.args.point (2 * pair) 2 (from + 2 * width - from) c.loop-pair.invariant c.fill_two_blocks.ensures long room)
