use Rattle.shard_file.proofs.ShardLemmas.{bodies_have_shards, digests_end_the_file, shard_files_have_length, shard_files_hold_blocks, whole_blocks_adjoin}
use Rattle.shard_file.proofs.StripeLemmas.{stripes_are_the_body, stripes_have_lengths, data_blocks_are_padded, data_blocks_are_the_stripe, data_blocks_have_one_size}
use Rattle.shard_file.proofs.laws.shard_laws.Goals as goal

pub returns-clause-stripes : goal.returns-clause-stripes
returns-clause-stripes c = stripes_are_the_body

pub returns-clause-stripe_lengths : goal.returns-clause-stripe_lengths
returns-clause-stripe_lengths c = stripes_have_lengths

pub returns-clause-padded : goal.returns-clause-padded
returns-clause-padded c = data_blocks_are_padded

pub returns-clause-stripe : goal.returns-clause-stripe
returns-clause-stripe c = data_blocks_are_the_stripe

pub returns-clause-blocks : goal.returns-clause-blocks
returns-clause-blocks c = data_blocks_have_one_size

pub returns-clause-file : goal.returns-clause-file
returns-clause-file c = shard_files_have_length

pub returns-clause-shards : goal.returns-clause-shards
returns-clause-shards c = bodies_have_shards

pub returns-clause-held : goal.returns-clause-held
returns-clause-held c = shard_files_hold_blocks

pub returns-clause-digests : goal.returns-clause-digests
returns-clause-digests c = digests_end_the_file

pub returns-clause-adjoin : goal.returns-clause-adjoin
returns-clause-adjoin c = whole_blocks_adjoin
