use Rattle.code_lanes.proofs.steps.cross.Goals as goal

pub returns : goal.returns
returns c count values m n by is v w =
    let first = c.cross_two.ensures count values m.first n.first by is v.first w.first in
    let second = c.cross_two-2.ensures count values m.second n.second by is v.second w.second in
    let third = c.cross_two-3.ensures count values m.third n.third by is v.third w.third in
    let fourth = c.cross_two-4.ensures count values m.fourth n.fourth by is v.fourth w.fourth in (
      record { first = first.0; second = second.0; third = third.0; fourth = fourth.0 },
      record { first = first.1; second = second.1; third = third.1; fourth = fourth.1 },
    )
