use Rattle.call_types.proofs.WhysLemmas.{IsOneForEach-good, shown_whys-good}
use Rattle.call_types.proofs.why.Whys.all_good.Goals as goal

pub invariant_of-result : goal.invariant_of-result
invariant_of-result c = IsOneForEach-good c.args.drives c.requires.least c.requires.most

pub returns : goal.returns
returns c = shown_whys-good c.args.drives c.requires.most
