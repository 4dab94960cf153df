use Rattle.code_lanes.proofs.steps.interpolate_four.Goals as goal

pub returns : goal.returns
returns c count values m outer low high is_outer is_low is_high four =
    let lower = c.interpolate_two.ensures count values m.first m.second low is_low four.first four.second in
    let upper = c.interpolate_two-2.ensures count values m.third m.fourth high is_high four.third four.fourth in
    let even = c.interpolate_two-3.ensures count values _ _ outer is_outer lower.0 upper.0 in
    let odd = c.interpolate_two-4.ensures count values _ _ outer is_outer lower.1 upper.1 in
    record { first = even.0; second = odd.0; third = even.1; fourth = odd.1 }
