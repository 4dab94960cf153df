use Rattle.std.proofs.Common.{◌∙◌, ◌∷◌, ◌++◌, [], ap, subst, subst₂, sym, arith}
use Rattle.std.specs.Prelude.{All}
use Rattle.store_shared.specs.Making.{AreFirst, unlocked}
use Rattle.store_shared.specs.Parting.{IsFirst}
use Rattle.store_shared.specs.Turned.{made_slots}
use Rattle.store_shared.specs.declared.making.Fresh.{Fresh}
use Rattle.store_shared.proofs.MakingLemmas.{all_front, all_last, first_more, made_move}
use Rattle.store_shared.proofs.making.deal.Goals as goal

pub loop-lock-preserved : goal.loop-lock-preserved
loop-lock-preserved g c =
    let kept = c.loop-lock.invariant in
    let one = c.in-Some.field-0 in
    let rest = c.pop.new.self.items in
    let Ready : Fresh g.row.D.Denot g.row.A.Denot → Type 0 = (λ f. IsFirst f.lock f.pass) in
    let fresh : All Ready (rest ++ one ∷ []) = subst (All Ready) c.in-Some.ensures.items kept.fresh in
    let room = kept.room in
    let room_too = kept.room_too in
    let fewer = c.in-Some.ensures.len in
    let longer = c.push_reserved.ensures.len in
    let wide = c.push_reserved.ensures.capacity in
    let longer_too = c.push_reserved-in-Some.ensures.len in
    let wide_too = c.push_reserved-in-Some.ensures.capacity in
    record {
      slots = ap (λ l. made_slots l ++ unlocked rest) c.push_reserved.ensures.items
          ∙ (made_move c.loop-lock.locks.items c.loop-lock.fresh.items rest one c.in-Some.ensures.items ∙ kept.slots);
      first = subst₂ (λ l p. AreFirst l p) (sym c.push_reserved.ensures.items) (sym c.push_reserved-in-Some.ensures.items)
          (first_more c.loop-lock.locks.items c.loop-lock.passes.items one.lock one.pass kept.first (all_last Ready rest one fresh));
      fresh = all_front Ready rest (one ∷ []) fresh;
      room = omega (arith, room, fewer, longer, wide);
      room_too = omega (arith, room_too, fewer, longer_too, wide_too);
    }
