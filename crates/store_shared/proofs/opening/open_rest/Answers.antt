use Rattle.std.proofs.Common.{arith}
use Rattle.store_shared.proofs.OpeningLemmas.{behind_more, front_lanes}
use Rattle.store_shared.proofs.opening.open_rest.Goals as goal

pub loop-alloc-preserved : goal.loop-alloc-preserved
loop-alloc-preserved g c =
    let kept = c.loop-alloc.invariant in
    let one = c.in_ok-open_last.ensures.opens in
    let fewer = c.in_ok-open_last.ensures.len in
    let longer = c.in_ok-open_last.ensures.slots_len in
    let room = c.open_last.ensures.capacity in
    let few = kept.few in
    let had = kept.room in
    record {
      behind = behind_more g.A.Audit.entries g.A.Audit.count c.args.set.now c.args.term c.args.left.now.items c.loop-alloc.left.items c.open_last.new.left.items
          c.loop-alloc.slots.items c.open_last.new.slots.items kept.behind one;
      few = omega (arith, fewer, few);
      room = omega (arith, fewer, longer, room, had);
      lanes = front_lanes c.args.set.now.drives c.open_last.new.left.items one.parts c.loop-alloc.left.items one.old_is kept.lanes;
    }
