use Rattle.std.proofs.Common.{◌≡◌, ◌+◌, ◌-◌, ◌*◌, ◌/◌, ◌<◌, ◌≤◌, ◌∙◌, ℕ, List, length, get_or, arith, subst, take, drop, sym, ap}
use borrow.Rule.Slice.PartMut.{put_mid}
use Rattle.poly_code.specs.Columns.{byte_of_block}
use Rattle.poly_code.specs.Lagrange.{IsValueThrough}
use Rattle.poly_code.proofs.ValueLemmas.{AreValues}
use Rattle.poly_code.proofs.BlockLemmas.{length-part}
use Rattle.poly_code.proofs.ValueLemmas.{value_more}
use Rattle.poly_code.proofs.block.fill_blocks.Goals as goal

pub returns-then-count-eq1 : goal.returns-then-count-eq1
returns-then-count-eq1 c =
    let rows = c.args.rows.now in
    let have = c.args.have.now in
    let width = c.args.width in
    let point = c.args.point in
    let last : ℕ = c.args.count - 1 in
    let out : List ℕ = c.fill_pairs.new.out in
    let made : List ℕ = c.fill_block.new.out in
    let from : ℕ = last * width in
    let pairs : 2 * (c.args.count / 2) ≡ last = omega (arith, c.if-count-eq1.true) in
    let end : last + 1 ≡ c.args.count = omega (arith, c.if-count-eq1.true) in
    let whole : last * width + width ≡ c.args.count * width = sym (ap (λ n. n * width) (sym end) ∙ (omega arith)) in
    let room : from + width ≤ length out = omega arith in
    let part : length (take (from + width - from) (drop from out)) ≡ width = length-part out from width room in
    let before : AreValues rows width have point last out = subst (λ n. AreValues rows width have point n out) pairs c.fill_pairs.ensures in
    let new : (k : ℕ) → k < width → IsValueThrough rows (byte_of_block width k have) (point + last) (get_or made k 0) =
    subst (λ w. (k : ℕ) → k < w → IsValueThrough rows (byte_of_block w k have) (point + last) (get_or made k 0)) part c.fill_block.ensures in
    subst (λ n. AreValues rows width have point n (put_mid from (from + width - from) out made)) end
    (value_more rows have out made width point last (from + width - from) before new (c.fill_block.auto.out ∙ part) room)
