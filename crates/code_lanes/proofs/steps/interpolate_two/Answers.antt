use Rattle.code_lanes.proofs.StepLemmas.{combined, multiplied}
use Rattle.code_lanes.proofs.steps.interpolate_two.Goals as goal

pub returns : goal.returns
returns c count values f g by is low high =
    let second = combined count values low high c.add-second.ensures in
    (combined count values low (multiplied count values by is.byte second (c.times.ensures by is)) c.add.ensures, second)
