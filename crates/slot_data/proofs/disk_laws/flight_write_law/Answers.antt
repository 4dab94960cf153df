use Rattle.slot_data.proofs.FlightWriteLemmas.{flight_writes}
use Rattle.slot_data.proofs.disk_laws.flight_write_law.Goals as goal

pub returns : goal.returns
returns c = flight_writes
