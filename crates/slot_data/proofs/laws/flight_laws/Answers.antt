use Rattle.slot_data.proofs.FlightLemmas.{put_begins, put_is_given_up}
use Rattle.slot_data.proofs.laws.flight_laws.Goals as goal

pub returns-clause-begin : goal.returns-clause-begin
returns-clause-begin c = put_begins

pub returns-clause-given_up : goal.returns-clause-given_up
returns-clause-given_up c = put_is_given_up
