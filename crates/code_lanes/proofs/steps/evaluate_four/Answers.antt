use Rattle.code_lanes.proofs.steps.evaluate_four.Goals as goal

pub returns : goal.returns
returns c count values m outer low high is_outer is_low is_high four =
    let even = c.evaluate_two.ensures count values m.first m.third outer is_outer four.first four.third in
    let odd = c.evaluate_two-2.ensures count values m.second m.fourth outer is_outer four.second four.fourth in
    let lower = c.evaluate_two-3.ensures count values _ _ low is_low even.0 odd.0 in
    let upper = c.evaluate_two-4.ensures count values _ _ high is_high even.1 odd.1 in
    record { first = lower.0; second = lower.1; third = upper.0; fourth = upper.1 }
