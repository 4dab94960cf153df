use Rattle.std.proofs.Common.{◌∙◌, length, sym}
use Rattle.std.specs.List.{range_with_len}
use Rattle.sha2.specs.Sha256.{sha256}
use Rattle.shard_file.specs.Stripes.{piece}
use Rattle.shard_file.proofs.Pieces.{map_map}
use Rattle.shard_file.proofs.digests.block_digests.Goals as goal

pub returns : goal.returns
returns c =
    c.hash_equal_blocks.ensures
    ∙ sym (map_map (piece c.args.size c.args.bytes.now) sha256 (range_with_len 0 (length c.args.digests.now)))
