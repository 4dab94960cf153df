use Rattle.body_print.proofs.ByteLemmas.{hashed_are_bytes}
use Rattle.body_print.proofs.CutLemmas.{joined_print, text_tells_cuts}
use Rattle.body_print.proofs.GrowingLemmas.{stripes_are_added}
use Rattle.body_print.proofs.PrintLemmas.{print_texts_are_one}
use Rattle.body_print.proofs.RebuildLemmas.{rebuilt_block}
use Rattle.body_print.proofs.ShardLemmas.{shards_are_one, shards_have_their_blocks}
use Rattle.body_print.proofs.laws.body_laws.Goals as goal

pub returns-clause-one : goal.returns-clause-one
returns-clause-one c = shards_are_one

pub returns-clause-blocks : goal.returns-clause-blocks
returns-clause-blocks c = shards_have_their_blocks

pub returns-clause-more : goal.returns-clause-more
returns-clause-more c = stripes_are_added

pub returns-clause-any : goal.returns-clause-any
returns-clause-any c = rebuilt_block

pub returns-clause-texts : goal.returns-clause-texts
returns-clause-texts c = print_texts_are_one

pub returns-clause-cuts : goal.returns-clause-cuts
returns-clause-cuts c = text_tells_cuts

pub returns-clause-joined : goal.returns-clause-joined
returns-clause-joined c = joined_print

pub returns-clause-bytes : goal.returns-clause-bytes
returns-clause-bytes c = hashed_are_bytes
