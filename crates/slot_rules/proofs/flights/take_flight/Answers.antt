use Rattle.slot_data.specs.declared.rows.FlightRow.{FlightRow}
use Rattle.slot_rules.proofs.TakingLemmas.{row_taken}
use Rattle.slot_rules.proofs.flights.take_flight.Goals as goal

pub returns-clause-takes : goal.returns-clause-takes
returns-clause-takes c =
    row_taken (λ (row : FlightRow). row.id) c.args.id c.deref.result.now c.args.flights.now.items c.remove.new.self.items c.in_ok-place.place c.remove.result
    c.deref.ensures.value c.in_ok-place.ensures c.remove.ensures.value c.remove.ensures.items
