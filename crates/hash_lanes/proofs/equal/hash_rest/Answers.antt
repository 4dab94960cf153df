use Rattle.std.proofs.Common.{◌≡◌, ◌+◌, ◌∙◌, [], ap, length, slice_index_or, slice_set, sym, arith}
use Rattle.std.proofs.lemmas.List.{length-set, take_all}
use Rattle.sha2.specs.Sha256.{sha256}
use Rattle.hash_lanes.specs.Blocks.{block_at, block_digests}
use Rattle.hash_lanes.proofs.Fronts.{front_one, get_or-block_digests, length-block_digests}
use Rattle.hash_lanes.proofs.equal.hash_rest.Goals as goal

pub rest-preserved : goal.rest-preserved
rest-preserved c held =
    let size = c.args.size in
    let bytes = c.args.bytes.now in
    let count = length c.args.digests.now in
    front_one c.rest.digests (block_digests size bytes count) c.rest.i c.digest.result (omega arith)
    (omega (arith, length-block_digests size bytes count))
    (c.digest.ensures ∙ ap sha256 c.block.ensures.block ∙ sym (get_or-block_digests size bytes count c.rest.i (omega arith)))
    (c.rest.invariant held)

pub returns : goal.returns
returns c held =
    let wanted = block_digests c.args.size c.args.bytes.now (length c.args.digests.now) in
    sym (take_all c.rest.i c.rest.digests (omega arith)) ∙ c.rest.invariant held
    ∙ take_all c.rest.i wanted (omega (arith, length-block_digests c.args.size c.args.bytes.now (length c.args.digests.now)))

pub returns-then-digests-at-eq3 : goal.returns-then-digests-at-eq3
returns-then-digests-at-eq3 c held =
    let size = c.args.size in
    let bytes = c.args.bytes.now in
    let old = c.args.digests.now in
    let count = length old in
    let at = c.args.at in
    let wanted = block_digests size bytes count in
    let long = length-block_digests size bytes count in
    let a = slice_index_or c.hash_four.result 0 [] in
    let b = slice_index_or c.hash_four.result 1 [] in
    let d = slice_index_or c.hash_four.result 2 [] in
    let a_is : a ≡ sha256 (block_at size bytes at) = rw c.hash_four.ensures (ap sha256 c.block-a.ensures.block) in
    let b_is : b ≡ sha256 (block_at size bytes (at + 1)) = rw c.hash_four.ensures (ap sha256 c.block-b.ensures.block) in
    let d_is : d ≡ sha256 (block_at size bytes (at + 2)) = rw c.hash_four.ensures (ap sha256 c.block-c.ensures.block) in
    let one = slice_set old at a in
    let two = slice_set one (at + 1) b in
    let all = slice_set two (at + 2) d in
    let one_long : length one ≡ count = length-set old at a in
    let two_long : length two ≡ count = length-set one (at + 1) b ∙ one_long in
    let all_long : length all ≡ count = length-set two (at + 2) d ∙ two_long in
    let second : at + 1 + 1 ≡ at + 2 = omega arith in
    let first_front =
    front_one old wanted at a (omega arith) (omega arith)
    (a_is ∙ sym (get_or-block_digests size bytes count at (omega arith))) held in
    let second_front =
    front_one one wanted (at + 1) b (omega arith) (omega arith)
    (b_is ∙ sym (get_or-block_digests size bytes count (at + 1) (omega arith))) first_front in
    let third_front =
    front_one two wanted (at + 2) d (omega arith) (omega arith)
    (d_is ∙ sym (get_or-block_digests size bytes count (at + 2) (omega arith))) (rw second at second_front) in
    sym (take_all (at + 2 + 1) all (omega arith)) ∙ third_front ∙ take_all (at + 2 + 1) wanted (omega arith)
