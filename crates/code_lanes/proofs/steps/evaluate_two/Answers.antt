use Rattle.code_lanes.proofs.StepLemmas.{combined, multiplied}
use Rattle.code_lanes.proofs.steps.evaluate_two.Goals as goal

pub returns : goal.returns
returns c count values f g by is low high =
    let first = combined count values low (multiplied count values by is.byte high (c.times.ensures by is)) c.add-first.ensures in
    (first, combined count values first high c.add.ensures)
