use Rattle.code_lanes.specs.Steps.{added}
use Rattle.code_lanes.proofs.StepLemmas.{combined}
use Rattle.code_lanes.proofs.steps.cross_two.Goals as goal

pub returns : goal.returns
returns c count values f g by is low high =
    c.evaluate_two.ensures count values f (added f g) by is low (combined count values low high c.add.ensures)
