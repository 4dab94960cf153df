use borrow.Author.Count.{below_more}
use Rattle.std.proofs.Common.{rules}
use Rattle.http_wire.proofs.FramingLemmas.{all_say}
use Rattle.http_wire.proofs.framing.said_by_all.Goals as goal

pub loop-i-preserved : goal.loop-i-preserved
loop-i-preserved c = below_more _ _ c.loop-i.invariant (c.agrees.ensures.0 c.if-not-agrees.false)

pub returns : goal.returns
returns c =
    all_say c.args.head.now.lines c.args.first c.args.number c.requires.first (search rules)
