use Rattle.slot_data.specs.declared.rows.PinRow.{PinRow}
use Rattle.slot_rules.proofs.TakingLemmas.{row_taken}
use Rattle.slot_rules.proofs.pins.take_pin.Goals as goal

pub returns-clause-takes : goal.returns-clause-takes
returns-clause-takes c =
    row_taken (λ (row : PinRow). row.ticket) c.args.ticket c.deref.result.now c.args.pins.now.items c.remove.new.self.items c.in_ok-place.place c.remove.result
    c.deref.ensures.value c.in_ok-place.ensures c.remove.ensures.value c.remove.ensures.items
