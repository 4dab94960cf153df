use Rattle.std.proofs.Common.{◌≡◌, length, take}
use Rattle.hash_lanes.specs.Blocks.{block_digests}
use Rattle.hash_lanes.proofs.equal.hash_rest.Given as goal

abbrev pub invariant-rest : goal.invariant-rest
invariant-rest l =
    let wanted = block_digests l.size l.bytes (length l.fn.digests) in
    take l.at l.fn.digests ≡ take l.at wanted → take l.i l.digests ≡ take l.i wanted
