use Rattle.code_lanes.proofs.StepLemmas.{combined}
use Rattle.code_lanes.proofs.steps.interpolate_first.Goals as goal

pub returns : goal.returns
returns c count values m high is four =
    let second = combined count values four.first four.second c.add-b.ensures in
    let upper = c.interpolate_two.ensures count values m.third m.fourth high is four.third four.fourth in
    record {
      first = four.first;
      second = second;
      third = combined count values four.first upper.0 c.add.ensures;
      fourth = combined count values second upper.1 c.add-2.ensures;
    }
