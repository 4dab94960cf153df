use Rattle.std.proofs.Common.{◌≡◌, ◌+◌, ◌*◌, ◌/◌, ◌∙◌, ap, length, sym, arith}
use Rattle.sha2.specs.Sha256.{sha256}
use Rattle.hash_lanes.specs.Blocks.{block_digests}
use Rattle.hash_lanes.proofs.Fronts.{front_four, get_or-block_digests, length-block_digests}
use Rattle.hash_lanes.proofs.equal.hash_equal_blocks.Goals as goal

pub groups-preserved : goal.groups-preserved
groups-preserved c =
    let size = c.args.size in
    let bytes = c.args.bytes.now in
    let count = length c.args.digests.now in
    let at = 4 * c.groups.group in
    let next : 4 * (c.groups.group + 1) ≡ at + 4 = omega arith in
    rw next
    (front_four c.groups.digests c.put_four.new.digests (block_digests size bytes count) at _ _ _ _ (omega (arith, length-block_digests size bytes count))
    (ap sha256 c.block.ensures.block ∙ sym (get_or-block_digests size bytes count at (omega arith)))
    (ap sha256 c.block-in-groups.ensures.block ∙ sym (get_or-block_digests size bytes count (at + 1) (omega arith)))
    (ap sha256 c.block-in-groups-2.ensures.block ∙ sym (get_or-block_digests size bytes count (at + 2) (omega arith)))
    (ap sha256 c.block-in-groups-3.ensures.block ∙ sym (get_or-block_digests size bytes count (at + 3) (omega arith)))
    (rw c.hash_four-four.ensures at c.put_four.ensures) c.groups.invariant)

pub returns : goal.returns
returns c =
    let same : length c.groups.digests ≡ length c.args.digests.now = omega arith in
    let done : 4 * c.groups.group ≡ length c.args.digests.now / 4 * 4 = omega arith in
    (rw same at c.hash_rest.ensures) (rw done at c.groups.invariant)
