use Rattle.std.proofs.Common.{rules}
use Rattle.version_list.proofs.AnswerLemmas.{Serves-Leaves}
use Rattle.version_list.proofs.step.delete_named.Goals as goal

pub returns : goal.returns
returns c =
    Serves-Leaves _ _ _ _ _ c.answered.result c.answered.ensures.state c.answered.ensures.done c.answered.ensures.gone
    c.in_ok-outcome.ensures tt (search rules)
