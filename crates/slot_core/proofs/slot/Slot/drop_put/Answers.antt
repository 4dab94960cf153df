use Rattle.std.proofs.Common.{None, refl, arith, ap}
use Rattle.slot_core.proofs.QuietLemmas.{drop_leaves, leaves_on, moves_by}
use Rattle.slot_core.specs.Sections.{MayGiveUp, ShowsNoMore}
use Rattle.slot_core.specs.Views.{SlotNumbers, holding_of, lanes_of, numbers_of}
use Rattle.slot_core.proofs.slot.Slot.drop_put.Goals as goal

pub returns-clause-leaves : goal.returns-clause-leaves
returns-clause-leaves g c =
    let old = c.args.self.now in
    let new = c.give_up.new.self in
    leaves_on g.D.Drive.tells g.D.Drive.files (numbers_of old) (numbers_of new) (holding_of old) (holding_of new) (lanes_of old) (lanes_of new) None
    ShowsNoMore (MayGiveUp c.args.flight.id) c.give_up.ensures.lanes
    (drop_leaves g.D.Drive.tells g.D.Drive.files (numbers_of old) (numbers_of new) c.args.flight.id (holding_of old) (holding_of new) (lanes_of old) None
    c.resting_laws.ensures.end c.flight_laws.ensures.given_up
    (moves_by (numbers_of old) (numbers_of new) old.drawn.seq (omega arith) (omega arith) c.give_up.ensures.numbers)
    (ap (λ (n : SlotNumbers). n.seq) c.give_up.ensures.numbers) c.give_up.ensures.holds refl)
