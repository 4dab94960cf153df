use Rattle.std.proofs.Common.{None, refl, arith}
use Rattle.slot_core.proofs.QuietLemmas.{begin_leaves, leaves_on, moves_by, nothing_leaves}
use Rattle.slot_core.specs.Hands.{HandsStay}
use Rattle.slot_core.specs.Sections.{BeginsPut, ShowsNoMore}
use Rattle.slot_core.specs.Views.{holding_of, lanes_of, numbers_of}
use Rattle.slot_core.proofs.slot.Slot.begin_put.Goals as goal

pub returns-in-Ok-clause-leaves : goal.returns-in-Ok-clause-leaves
returns-in-Ok-clause-leaves g c =
    let old = c.args.self.now in
    let new = c.list_put.new.self in
    let h = c.in-Ok.ensures.holds in
    let begins : BeginsPut (numbers_of old) (numbers_of new) c.args.at.now c.in-Ok.flight (holding_of old) (holding_of new) =
    record { term = h.term; seq = h.seq; slot = h.slot; name_is = h.name_is; drawn = h.drawn; listed = h.listed } in
    let up = begins.drawn in
    leaves_on g.D.Drive.tells g.D.Drive.files (numbers_of old) (numbers_of new) (holding_of old) (holding_of new) (lanes_of old) (lanes_of new) None
    ShowsNoMore HandsStay c.list_put.ensures.lanes
    (begin_leaves g.D.Drive.tells g.D.Drive.files (numbers_of old) (numbers_of new) c.args.at.now c.in-Ok.flight (holding_of old) (holding_of new) (lanes_of old) None
    c.resting_laws.ensures.begin c.flight_laws.ensures.begin
    (moves_by (numbers_of old) (numbers_of new) new.drawn.seq (omega arith) (omega arith) c.list_put.ensures.numbers) begins refl)

pub returns-in-Err-clause-leaves : goal.returns-in-Err-clause-leaves
returns-in-Err-clause-leaves g c =
    let old = c.args.self.now in
    let new = c.list_put.new.self in
    let h = c.in-Err.ensures.holds in
    let same = h.0 in
    leaves_on g.D.Drive.tells g.D.Drive.files (numbers_of old) (numbers_of new) (holding_of old) (holding_of new) (lanes_of old) (lanes_of new) None
    ShowsNoMore HandsStay c.list_put.ensures.lanes
    (nothing_leaves g.D.Drive.tells g.D.Drive.files (numbers_of old) (numbers_of new) (holding_of old) (holding_of new) (lanes_of old) None HandsStay
    (moves_by (numbers_of old) (numbers_of new) new.drawn.seq (omega arith) (omega arith) c.list_put.ensures.numbers) h.0 h.1 refl (λ disks hands after may. may))
