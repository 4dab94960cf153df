use Rattle.std.proofs.Common.{◌≡◌, ℕ, length, arith, refl}
use Rattle.store_shared.proofs.ShutLemmas.{moves_all, moves_none, moves_one, none_left}
use Rattle.store_shared.proofs.closing.move_each.Goals as goal

pub loop-parts-init : goal.loop-parts-init
loop-parts-init g c = record { moves = moves_none c.args.left.items c.args.home.now.items; room = c.requires.room; counted = refl; capacity = refl }

pub loop-parts-preserved : goal.loop-parts-preserved
loop-parts-preserved g c =
    let kept = c.loop-parts.invariant in
    let room = kept.room in
    let counted = kept.counted in
    let capacity = kept.capacity in
    let fewer = c.in-Some.ensures.len in
    let longer = c.push_reserved.ensures.len in
    let same = c.push_reserved.ensures.capacity in
    record {
      moves = moves_one c.args.left.items c.loop-parts.left.items c.pop.new.self.items c.in-Some.parts c.args.home.now.items c.loop-parts.home.items
          c.push_reserved.new.self.items kept.moves c.in-Some.ensures.items c.push_reserved.ensures.items;
      room = omega (arith, room, fewer, longer, same);
      counted = omega (arith, counted, fewer, longer);
      capacity = omega (arith, capacity, same);
    }

pub returns-clause-items : goal.returns-clause-items
returns-clause-items g c =
    let none : length c.loop-parts.left.items ≡ 0 = (let n = c.in_default.ensures.cases in omega (arith, n.0)) in
    moves_all c.args.left.items c.loop-parts.left.items c.args.home.now.items c.loop-parts.home.items c.loop-parts.invariant.moves
    (none_left c.loop-parts.left.items none)
