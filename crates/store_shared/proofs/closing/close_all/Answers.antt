use Rattle.std.proofs.Common.{◌≡◌, ◌<◌, ◌∙◌, ap, length, reverse, subst, sym, arith}
use Rattle.std.specs.Prelude.{option_map}
use Rattle.store_shared.specs.Parting.{AreClosed, IsClosed, parts_in}
use Rattle.store_shared.specs.SharedPasses.{pass_holds}
use Rattle.store_shared.proofs.ClosingLemmas.{ClosedSoFar, closed_all, closed_more, last_lock, last_pass, rest_long}
use Rattle.store_shared.proofs.OrderLemmas.{whole_slice}
use Rattle.store_shared.proofs.PlaceLemmas.{locked_of, locked_there, place_lock, place_parts}
use Rattle.store_shared.proofs.closing.close_all.Goals as goal

pub unreachable-requires-in_default-place : goal.unreachable-requires-in_default-place
unreachable-requires-in_default-place g c =
    let locks = c.args.locks.items in
    let passes = c.args.passes.items in
    let rest = c.pop.new.self.items in
    let long = rest_long locks passes c.loop-lock.locks.items rest c.in-Some.lock c.loop-lock.passes.items c.pop-in-Some.new.self.items c.in-Some-pop.place
    c.loop-lock.slots.items c.in-Some.ensures.items c.in-Some-pop.ensures.items c.loop-lock.invariant.closed in
    let below : length rest < 64 = omega (arith, long) in
    let there = last_pass locks passes c.loop-lock.locks.items rest c.in-Some.lock c.loop-lock.passes.items c.pop-in-Some.new.self.items c.in-Some-pop.place
    c.loop-lock.slots.items c.in-Some.ensures.items c.in-Some-pop.ensures.items c.loop-lock.invariant.closed in
    locked_there locks (length rest) c.in-Some-pop.place
    (place_lock locks passes (length rest) below c.requires.count_too c.requires.lock c.in-Some-pop.place there) c.requires.count c.in_default-place.is

pub close-requires : goal.close-requires
close-requires g c =
    let locks = c.args.locks.items in
    let passes = c.args.passes.items in
    let rest = c.pop.new.self.items in
    let long = rest_long locks passes c.loop-lock.locks.items rest c.in-Some.lock c.loop-lock.passes.items c.pop-in-Some.new.self.items c.in-Some-pop.place
    c.loop-lock.slots.items c.in-Some.ensures.items c.in-Some-pop.ensures.items c.loop-lock.invariant.closed in
    let below : length rest < 64 = omega (arith, long) in
    let there = last_pass locks passes c.loop-lock.locks.items rest c.in-Some.lock c.loop-lock.passes.items c.pop-in-Some.new.self.items c.in-Some-pop.place
    c.loop-lock.slots.items c.in-Some.ensures.items c.in-Some-pop.ensures.items c.loop-lock.invariant.closed in
    let here = last_lock locks passes c.loop-lock.locks.items rest c.in-Some.lock c.loop-lock.passes.items c.pop-in-Some.new.self.items c.in-Some-pop.place
    c.loop-lock.slots.items c.in-Some.ensures.items c.in-Some-pop.ensures.items c.loop-lock.invariant.closed c.in-Some.lock in
    locked_of locks (length rest) c.in-Some-pop.place
    (place_lock locks passes (length rest) below c.requires.count_too c.requires.lock c.in-Some-pop.place there)
    c.in-Some.lock c.in-Some-place.pass (sym here) c.in-Some-place.is

pub unreachable-requires-in_default-close : goal.unreachable-requires-in_default-close
unreachable-requires-in_default-close g c =
    let locks = c.args.locks.items in
    let passes = c.args.passes.items in
    let rest = c.pop.new.self.items in
    let long = rest_long locks passes c.loop-lock.locks.items rest c.in-Some.lock c.loop-lock.passes.items c.pop-in-Some.new.self.items c.in-Some-pop.place
    c.loop-lock.slots.items c.in-Some.ensures.items c.in-Some-pop.ensures.items c.loop-lock.invariant.closed in
    let below : length rest < 64 = omega (arith, long) in
    let there = last_pass locks passes c.loop-lock.locks.items rest c.in-Some.lock c.loop-lock.passes.items c.pop-in-Some.new.self.items c.in-Some-pop.place
    c.loop-lock.slots.items c.in-Some.ensures.items c.in-Some-pop.ensures.items c.loop-lock.invariant.closed in
    let same = place_parts locks passes (length rest) below c.requires.count_too c.in-Some-pop.place there
    ∙ ap (λ p. parts_in (option_map pass_holds p)) c.in-Some-place.is in
    let all = c.requires.parts (length rest) below in
    let few = c.in_default-close.ensures.err.0 in
    omega (arith, same, all, few)

pub loop-lock-preserved : goal.loop-lock-preserved
loop-lock-preserved g c =
    let room = c.loop-lock.invariant.room in
    let wide = c.push_reserved.ensures.capacity in
    let says = c.in-Ok.ensures in
    let closed : IsClosed c.in-Some.lock c.in-Some-place.pass c.in-Ok.turned = record {
      parts = says.ok.0;
      name = says.ok.1;
      seen = says.ok.2;
      spent = says.spent;
      history = says.history;
    } in
    record {
      closed = subst (ClosedSoFar c.args.locks.items c.args.passes.items c.pop.new.self.items c.pop-in-Some.new.self.items) (sym c.push_reserved.ensures.items)
          (closed_more c.args.locks.items c.args.passes.items c.loop-lock.locks.items c.pop.new.self.items c.in-Some.lock c.loop-lock.passes.items
          c.pop-in-Some.new.self.items c.in-Some-pop.place c.loop-lock.slots.items c.in-Some.ensures.items c.in-Some-pop.ensures.items
          c.loop-lock.invariant.closed c.in-Some-place.pass c.in-Ok.turned.slot c.in-Some-place.is closed);
      room = omega (arith, room, wide);
    }

pub returns : goal.returns
returns g c =
    let none : length c.loop-lock.locks.items ≡ 0 = (let n = c.in_default.ensures.cases in omega (arith, n.0)) in
    let slots = c.loop-lock.slots.items in
    let whole = whole_slice c.reverse.new.self slots c.loop-lock.slots.len (c.reverse.ensures.len ∙ c.as_mut_slice.ensures.len) in
    record {
      closed = subst (AreClosed c.args.locks.items c.args.passes.items) (sym (whole ∙ (c.reverse.ensures.after ∙ ap reverse c.as_mut_slice.ensures.value)))
          (closed_all c.args.locks.items c.args.passes.items c.loop-lock.locks.items c.loop-lock.passes.items slots none c.loop-lock.invariant.closed);
    }
