use borrow.Author.Count.{below_more}
use Rattle.std.proofs.lemmas.Bool.{iff_false}
use Rattle.http_wire.proofs.names.first_of.Goals as goal

pub loop-i-preserved : goal.loop-i-preserved
loop-i-preserved c = below_more _ _ c.loop-i.invariant (iff_false c.is_named.ensures c.if-is_named.false)
