use Rattle.std.proofs.Common.{arith}
use Rattle.std.proofs.lemmas.Grind.{div_ceil_times}
use Rattle.shard_file.proofs.ShardLemmas.{half_block}
use Rattle.shard_file.proofs.places.block_len.Goals as goal

pub returns-clause-half : goal.returns-clause-half
returns-clause-half c =
    let d = c.read_quorum.result in
    let ceil = div_ceil_times c.args.stripe d (omega arith) in
    half_block d c.args.stripe c.div_ceil.result (omega arith) (rw c.div_ceil.ensures (omega (arith, ceil)))
