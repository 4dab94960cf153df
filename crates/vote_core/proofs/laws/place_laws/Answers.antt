use Rattle.vote_core.proofs.Places.{shown_by_places, left_by_places, left_at_by_places, had_by_places}
use Rattle.vote_core.proofs.Keeping.{lane_before}
use Rattle.vote_core.proofs.laws.place_laws.Goals as goal

pub returns-clause-shown : goal.returns-clause-shown
returns-clause-shown c = shown_by_places

pub returns-clause-left : goal.returns-clause-left
returns-clause-left c = left_by_places

pub returns-clause-targets : goal.returns-clause-targets
returns-clause-targets c = left_at_by_places

pub returns-clause-mask : goal.returns-clause-mask
returns-clause-mask c = had_by_places

pub returns-clause-members : goal.returns-clause-members
returns-clause-members c = lane_before
