use Rattle.std.proofs.Common.{◌≡◌, ◌∙◌, None, get_or, refl, subst, sym, arith}
use Rattle.slot_core.specs.Views.{numbers_of}
use Rattle.store_shared.specs.Parting.{IsFirstAt, parts_in}
use Rattle.store_shared.specs.SharedPasses.{passes_hold}
use Rattle.store_shared.proofs.MakingLemmas.{first_all, first_locks, made_long, unlocked_long}
use Rattle.store_shared.proofs.PartingLemmas.{fits_after}
use Rattle.store_shared.proofs.shared.SharedDesk.new.Goals as goal

pub deal-requires-clause-fresh : goal.deal-requires-clause-fresh
deal-requires-clause-fresh g c = (c.if-not-lock_all.ensures.done refl).2

pub deal-requires-clause-room : goal.deal-requires-clause-room
deal-requires-clause-room g c =
    let long = unlocked_long c.lock_all.new.fresh.items c.args.parts.slots.items (c.if-not-lock_all.ensures.done refl).1 in
    let count = c.requires.count in
    let room = c.in-Some.field-0.room.1 in
    let same = c.lock_all.new.fresh.ok in
    omega (arith, long, count, room, same)

pub deal-requires-clause-room_too : goal.deal-requires-clause-room_too
deal-requires-clause-room_too g c =
    let long = unlocked_long c.lock_all.new.fresh.items c.args.parts.slots.items (c.if-not-lock_all.ensures.done refl).1 in
    let count = c.requires.count in
    let room = c.in-Some.field-0.room.2 in
    let same = c.lock_all.new.fresh.ok in
    omega (arith, long, count, room, same)

pub invariant_of-new : goal.invariant_of-new
invariant_of-new g c =
    let same = c.if-not-lock_all.ensures.capacity refl in
    let count = c.requires.count in
    let held = c.args.parts.slots.ok in
    record { empty = (c.if-not-lock_all.ensures.done refl).0; wide = omega (arith, same, count, held) }

pub pass_over-pass-requires-clause-count : goal.pass_over-pass-requires-clause-count
pass_over-pass-requires-clause-count g c =
    let made = c.deal.ensures.slots ∙ (c.if-not-lock_all.ensures.done refl).1 in
    c.deal.ensures.first.long ∙ (made_long c.deal.new.locks.items c.args.parts.slots.items made ∙ c.requires.count)

pub invariant_of-result : goal.invariant_of-result
invariant_of-result g c =
    let made = c.deal.ensures.slots ∙ (c.if-not-lock_all.ensures.done refl).1 in
    let count = c.requires.count in
    record {
      count = made_long c.deal.new.locks.items c.args.parts.slots.items made ∙ count;
      index = λ k d below. subst (λ s. (numbers_of (get_or s k d)).index ≡ k) (sym made) (c.requires.index k d (omega (arith, count, below)));
      of_set = λ k d below. subst (λ s. (numbers_of (get_or s k d)).set ≡ c.args.parts.set) (sym made) (c.requires.of_set k d (omega (arith, count, below)));
    }

pub returns-clause-ok : goal.returns-clause-ok
returns-clause-ok g c =
    let made = c.deal.ensures.slots ∙ (c.if-not-lock_all.ensures.done refl).1 in
    let many = made_long c.deal.new.locks.items c.args.parts.slots.items made ∙ c.requires.count in
    let long = c.deal.ensures.first.long ∙ many in
    record {
      set = refl;
      slots = made;
      fits = fits_after _ c.pass_over-pass.result c.deal.new.passes.items c.pass_over-pass.ensures.set c.pass_over-pass.ensures.passes long
          (first_locks c.deal.new.locks.items c.deal.new.passes.items many c.deal.ensures.first);
      parts_are = λ k below. subst (λ p. parts_in (get_or (passes_hold p) k None) ≡ 65536) (sym c.pass_over-pass.ensures.passes)
          (first_all c.deal.new.locks.items c.deal.new.passes.items many c.deal.ensures.first k below);
      each = λ k lock below. subst (λ p. IsFirstAt (get_or c.deal.new.locks.items k lock) (get_or p k None)) (sym c.pass_over-pass.ensures.passes)
          (c.deal.ensures.first.each k lock (omega (arith, many, below)));
      drives = c.pass_over-pass.ensures.drives;
    }
