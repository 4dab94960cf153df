use Rattle.vote_core.proofs.Preparing.{mend_keeps}
use Rattle.vote_core.proofs.laws.mend_law.Goals as goal

pub returns : goal.returns
returns c = mend_keeps
