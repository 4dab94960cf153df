use Rattle.std.proofs.Common.{length}
use Rattle.get_read.proofs.SiftLemmas.{sifted_none}
use Rattle.get_read.proofs.blocks.are_enough.Goals as goal

pub returns-then-len-wanted-clause-sifted : goal.returns-then-len-wanted-clause-sifted
returns-then-len-wanted-clause-sifted c =
    (length c.args.found.now.rows.items, sifted_none c.args.size c.args.found.now c.args.whys.now c.requires.at_hand)
