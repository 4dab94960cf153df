use Rattle.std.proofs.Common.{◌∙◌, ◌++◌, ap, subst, sym, arith}
use Rattle.std.specs.Prelude.{All}
use Rattle.store_shared.specs.Making.{unlocked}
use Rattle.store_shared.specs.Parting.{IsFirst}
use Rattle.store_shared.specs.Turned.{slot_in, turns_in}
use Rattle.store_shared.specs.declared.making.Fresh.{Fresh}
use Rattle.store_shared.proofs.MakingLemmas.{all_more, slots_move}
use Rattle.store_shared.proofs.making.lock_all.Goals as goal

pub loop-slot-preserved : goal.loop-slot-preserved
loop-slot-preserved g c =
    let kept = c.loop-slot.invariant in
    let one : Fresh g.row.D.Denot g.row.A.Denot = record { lock = c.in-Ok.lock; pass = c.in-Ok.pass } in
    let fresh = c.loop-slot.fresh.items in
    let Ready : Fresh g.row.D.Denot g.row.A.Denot → Type 0 = (λ f. IsFirst f.lock f.pass) in
    let says = c.in-Ok.ensures.pass in
    let made = c.in-Ok.ensures.made in
    let first : IsFirst one.lock one.pass = record {
      of_lock = says.0;
      parts = says.1;
      seen = says.2 ∙ ap turns_in (sym made);
      spent = says.3;
      turns = says.5;
    } in
    let room = kept.room in
    let few = kept.few in
    let same = kept.capacity in
    let fewer = c.in-Some.ensures.len in
    let stays = c.in-Some.ensures.capacity in
    let longer = c.push_reserved.ensures.len in
    let wide = c.push_reserved.ensures.capacity in
    record {
      slots = sym (slots_move c.pop.new.self.items c.push_reserved.new.self.items fresh one c.in-Some.slot c.push_reserved.ensures.items (ap slot_in (sym made)))
          ∙ (ap (λ s. s ++ unlocked fresh) (sym c.in-Some.ensures.items) ∙ kept.slots);
      fresh = subst (All Ready) (sym c.push_reserved.ensures.items) (all_more Ready fresh one kept.fresh first);
      room = omega (arith, room, fewer, longer, wide);
      few = omega (arith, few, fewer, longer, stays);
      capacity = stays ∙ same;
    }
