use Rattle.vote_core.proofs.Resting.{one_value, drawing_keeps}
use Rattle.vote_core.proofs.Meeting.{quorums_meet, unlisted_is_blank, value_is_met}
use Rattle.vote_core.proofs.laws.value_laws.Goals as goal

pub returns-clause-one : goal.returns-clause-one
returns-clause-one c = one_value

pub returns-clause-drawing : goal.returns-clause-drawing
returns-clause-drawing c = drawing_keeps

pub returns-clause-meet : goal.returns-clause-meet
returns-clause-meet c = quorums_meet

pub returns-clause-met : goal.returns-clause-met
returns-clause-met c = value_is_met

pub returns-clause-unlisted : goal.returns-clause-unlisted
returns-clause-unlisted c = unlisted_is_blank
