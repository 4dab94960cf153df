use Rattle.std.proofs.Common.{◌+◌, ◌∙◌, sym, arith}
use Rattle.hash_lanes.specs.Blocks.{digests_of}
use Rattle.hash_lanes.proofs.Fronts.{front_four, front_one, get_or-digests_of, length-digests_of}
use Rattle.hash_lanes.proofs.blocks.hash_next.Goals as goal

pub returns-then-d-a-clause-digests : goal.returns-then-d-a-clause-digests
returns-then-d-a-clause-digests c held =
    let blocks = c.args.blocks.now in
    let at = c.args.at in
    front_four c.args.digests.now c.put_four.new.digests (digests_of blocks) at _ _ _ _ (omega (arith, length-digests_of blocks))
    (sym (get_or-digests_of blocks at _ (omega arith)))
    (sym (get_or-digests_of blocks (at + 1) _ (omega arith)))
    (sym (get_or-digests_of blocks (at + 2) _ (omega arith)))
    (sym (get_or-digests_of blocks (at + 3) _ (omega arith)))
    (rw c.hash_four.ensures at c.put_four.ensures) held

pub returns-clause-digests : goal.returns-clause-digests
returns-clause-digests c held =
    let blocks = c.args.blocks.now in
    front_one c.args.digests.now (digests_of blocks) c.args.at _ (omega arith) (omega (arith, length-digests_of blocks))
    (c.digest.ensures ∙ sym (get_or-digests_of blocks c.args.at _ (omega arith))) held
