use Rattle.std.proofs.Common.{refl, rules}
use Rattle.slot_core.proofs.TakingLemmas.{put_gone, put_stays}
use Rattle.slot_core.specs.Views.{holding_of}
use Rattle.slot_core.proofs.slot.Slot.give_up.Goals as goal

pub returns-in_default-clause-holds : goal.returns-in_default-clause-holds
returns-in_default-clause-holds g c =
    put_stays c.take_flight.result c.args.self.now.flights.items c.take_flight.new.flights.items c.args.id (holding_of c.args.self.now) _ (search rules) refl
    c.take_flight.ensures.takes refl refl refl

pub returns-clause-holds : goal.returns-clause-holds
returns-clause-holds g c =
    put_gone c.args.self.now.flights.items c.take_flight.new.flights.items c.in-Some.row c.args.id (holding_of c.args.self.now) _ refl
    c.in-Some.ensures.takes refl refl (search rules)
