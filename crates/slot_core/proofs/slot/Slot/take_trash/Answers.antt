use Rattle.std.proofs.Common.{None, Ok, List, refl, arith, ap, ◌∙◌, take}
use Rattle.std.specs.Prelude.{filter, not}
use Rattle.std.specs.List.{list_any}
use Rattle.stamp_id.specs.declared.version.VersionId.{VersionId}
use Rattle.slot_data.specs.Moves.{with_taken, with_trash}
use Rattle.slot_data.specs.Rows.{is_id, pin_names}
use Rattle.slot_data.specs.declared.rows.PinRow.{PinRow}
use Rattle.slot_core.proofs.QuietLemmas.{moves_by, trash_leaves}
use Rattle.slot_core.specs.Sections.{TakesInHand}
use Rattle.slot_core.specs.Views.{holding_of, lanes_of, numbers_of}
use Rattle.slot_core.specs.declared.slot.SlotFault.{SlotFault}
use Rattle.slot_core.proofs.slot.Slot.take_trash.Goals as goal

pub returns-clause-leaves : goal.returns-clause-leaves
returns-clause-leaves g c =
    let old = c.args.self.now in
    let trash = old.trash.items in
    trash_leaves g.D.Drive.tells g.D.Drive.files (numbers_of old) _ c.args.most old.pins.items (holding_of old) _ c.in-Ok.ids.items (lanes_of old) None
    (TakesInHand {E = SlotFault} (Ok c.from_vec.result)) c.hands_laws.ensures.trash c.row_laws.ensures.pins
    (λ disks hands after may. may ∙ ap (with_taken hands) c.from_vec.ensures)
    (moves_by (numbers_of old) _ old.drawn.seq (omega arith) (omega arith) refl) refl refl
    (record {
      taken = c.in-Ok.ensures
          ∙ (ap (λ (t : List VersionId). take c.args.most (filter (λ id. not (list_any (pin_names id) c.deref-2.result.now)) t)) c.deref.ensures.value
          ∙ ap (λ (p : List PinRow). take c.args.most (filter (λ id. not (list_any (pin_names id) p)) trash)) c.deref-2.ensures.value);
      left = ap (with_trash (holding_of old)) (c.leave_out.ensures.left
          ∙ ap (λ (l : List VersionId). filter (λ id. not (list_any (is_id id) l)) trash) c.deref-3.ensures.value);
    }) refl
