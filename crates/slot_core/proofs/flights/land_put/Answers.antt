use Rattle.std.proofs.Common.{refl, rules, sym}
use Rattle.slot_core.proofs.CommitLemmas.{land_missing}
use Rattle.slot_core.proofs.flights.land_put.Goals as goal

pub returns-in_default-clause-lands : goal.returns-in_default-clause-lands
returns-in_default-clause-lands c =
    land_missing c.take_flight.result c.args.id c.args.flights.now.items c.take_flight.new.flights.items (search rules) c.take_flight.ensures.takes

pub returns-clause-lands : goal.returns-clause-lands
returns-clause-lands c = (sym c.in-Some.ensures.takes.0, (c.in-Some.row, refl, c.in-Some.ensures.takes.1))
