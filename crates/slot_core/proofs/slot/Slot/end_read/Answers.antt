use Rattle.std.proofs.Common.{None, refl, arith}
use Rattle.slot_core.proofs.QuietLemmas.{moves_by, pin_leaves}
use Rattle.slot_core.proofs.TakingLemmas.{pin_goes}
use Rattle.slot_core.specs.Views.{holding_of, lanes_of, numbers_of}
use Rattle.slot_core.proofs.slot.Slot.end_read.Goals as goal

pub returns-clause-holds : goal.returns-clause-holds
returns-clause-holds g c =
    pin_goes c.take_pin.result c.args.self.now.pins.items c.take_pin.new.pins.items c.args.pin.ticket (holding_of c.args.self.now) refl c.take_pin.ensures.takes

pub returns-clause-leaves : goal.returns-clause-leaves
returns-clause-leaves g c =
    pin_leaves g.D.Drive.tells g.D.Drive.files (numbers_of c.args.self.now) _ c.args.pin.ticket (holding_of c.args.self.now) _ (lanes_of c.args.self.now) None
    c.pin_laws.ensures.end (moves_by (numbers_of c.args.self.now) _ c.args.self.now.drawn.seq (omega arith) (omega arith) refl) refl (returns-clause-holds g c) refl
