use Rattle.std.proofs.Common.{◌+◌, ◌*◌, ap, ◌∙◌, sym, subst, arith, get_or, bit_xor}
use Rattle.gf256.specs.Field.{product}
use Rattle.code_lanes.specs.Sums.{AreAdded}
use Rattle.code_lanes.proofs.LaneLemmas.{HasLanes-is}
use Rattle.code_lanes.proofs.SumLemmas.{added_next}
use Rattle.code_lanes.proofs.onto.mul_strips.Goals as goal

pub loop-index-preserved : goal.loop-index-preserved
loop-index-preserved c =
    let by = c.args.by in
    let from = c.args.from.now in
    let out = c.loop-index.onto in
    let i = c.loop-index.index in
    let lanes = HasLanes-is _ (λ k. bit_xor (get_or out (32 * i + k) 0) (product by (get_or from (32 * i + k) 0))) c.add.ensures
    (λ k l.
    ap (λ x. bit_xor x (get_or c.times.result k 0)) (c.load.ensures.each k l)
    ∙ ap (λ x. bit_xor (get_or out (32 * i + k) 0) x)
    ((c.times.ensures by c.table_of-table.ensures).each k l ∙ ap (λ x. product by x) (c.load-in-loop-index.ensures.each k l))) in
    subst (λ new. AreAdded by 0 (32 * (i + 1)) from c.args.onto.now new) (sym c.store.ensures)
    (added_next by i from c.args.onto.now out c.add.result (omega arith) lanes c.loop-index.invariant)
