use Rattle.std.proofs.Common.{◌∙◌, ◌∷◌, ◌++◌, [], ap, subst, arith}
use Rattle.std.specs.Prelude.{All}
use Rattle.store_shared.specs.Making.{unlocked}
use Rattle.store_shared.specs.Parting.{IsFirst}
use Rattle.store_shared.specs.Turned.{slot_in}
use Rattle.store_shared.specs.declared.making.Fresh.{Fresh}
use Rattle.store_shared.proofs.MakingLemmas.{all_front, all_last, first_closed, slots_move}
use Rattle.store_shared.proofs.making.unlock_all.Goals as goal

pub loop-lock-preserved : goal.loop-lock-preserved
loop-lock-preserved g c =
    let kept = c.loop-lock.invariant in
    let one = c.in-Some.field-0 in
    let rest = c.pop.new.self.items in
    let Ready : Fresh g.row.D.Denot g.row.A.Denot → Type 0 = (λ f. IsFirst f.lock f.pass) in
    let fresh : All Ready (rest ++ one ∷ []) = subst (All Ready) c.in-Some.ensures.items kept.fresh in
    let same = first_closed one.lock one.pass c.in-Ok.turned (all_last Ready rest one fresh) c.in-Ok.ensures.ok.2 c.in-Ok.ensures.history in
    let room = kept.room in
    let fewer = c.in-Some.ensures.len in
    let longer = c.push_reserved.ensures.len in
    let wide = c.push_reserved.ensures.capacity in
    record {
      slots = ap (λ s. s ++ unlocked rest) c.push_reserved.ensures.items
          ∙ (slots_move c.loop-lock.slots.items c.loop-lock.fresh.items rest one c.in-Ok.turned.slot c.in-Some.ensures.items (ap slot_in same) ∙ kept.slots);
      fresh = all_front Ready rest (one ∷ []) fresh;
      room = omega (arith, room, fewer, longer, wide);
    }
