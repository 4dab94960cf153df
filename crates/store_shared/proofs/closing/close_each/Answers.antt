use Rattle.std.proofs.Common.{◌≡◌, ℕ, length, arith}
use Rattle.store_shared.proofs.ShutLemmas.{closes_all, closes_none, closes_one, none_left}
use Rattle.store_shared.proofs.closing.close_each.Goals as goal

pub loop-slot-init : goal.loop-slot-init
loop-slot-init g c = record { closes = closes_none c.args.slots.items c.args.home.now.items; room = c.requires.room }

pub loop-slot-preserved : goal.loop-slot-preserved
loop-slot-preserved g c =
    let kept = c.loop-slot.invariant in
    let room = kept.room in
    let fewer = c.in-Some.ensures.len in
    let longer = c.push_reserved.ensures.len in
    let same = c.push_reserved.ensures.capacity in
    record {
      closes = closes_one c.args.slots.items c.loop-slot.slots.items c.pop.new.self.items c.in-Some.slot c.close.result c.args.home.now.items
          c.loop-slot.home.items c.push_reserved.new.self.items kept.closes c.in-Some.ensures.items
          (record { lanes = c.close.ensures.lanes; audit = c.close.ensures.audit }) c.push_reserved.ensures.items;
      room = omega (arith, room, fewer, longer, same);
    }

pub returns : goal.returns
returns g c =
    let none : length c.loop-slot.slots.items ≡ 0 = (let n = c.in_default.ensures.cases in omega (arith, n.0)) in
    closes_all c.args.slots.items c.loop-slot.slots.items c.args.home.now.items c.loop-slot.home.items c.loop-slot.invariant.closes
    (none_left c.loop-slot.slots.items none)
