use Rattle.std.proofs.Common.{◌≡◌, ◌<◌, ◌+◌, ◌∙◌, None, Some, length, set, subst, sym, arith}
use Rattle.store_shared.specs.SharedPasses.{locks_of}
use Rattle.store_shared.proofs.PartingLemmas.{CutSoFar, cut_more, fits_after}
use Rattle.store_shared.proofs.PlaceLemmas.{place_is, place_lock, place_parts}
use Rattle.store_shared.proofs.shared.SharedDesk.split.Goals as goal

pub cut_one-other-requires-clause-lock : goal.cut_one-other-requires-clause-lock
cut_one-other-requires-clause-lock g c =
    let k = c.loop-k.k in
    let below : k < 64 = omega arith in
    let kept = c.loop-k.invariant.cut in
    let long = kept.long in
    let inside : k < length c.loop-k.passes.items = omega (arith, long, below) in
    place_lock (locks_of c.args.self.now) c.args.pass.passes.items k below c.args.pass.count c.requires.fits.locks c.index_mut.result.now
    (sym (kept.rest k (omega arith)) ∙ place_is c.loop-k.passes.items k None c.index_mut.result.now inside c.index_mut.ensures.value)

pub cut_one-other-requires-clause-parts : goal.cut_one-other-requires-clause-parts
cut_one-other-requires-clause-parts g c =
    let k = c.loop-k.k in
    let below : k < 64 = omega arith in
    let kept = c.loop-k.invariant.cut in
    let long = kept.long in
    let inside : k < length c.loop-k.passes.items = omega (arith, long, below) in
    subst (λ n. 1 < n) (place_parts (locks_of c.args.self.now) c.args.pass.passes.items k below c.args.pass.count c.index_mut.result.now
    (sym (kept.rest k (omega arith)) ∙ place_is c.loop-k.passes.items k None c.index_mut.result.now inside c.index_mut.ensures.value))
    (c.requires.parts k below)

pub loop-k-preserved : goal.loop-k-preserved
loop-k-preserved g c =
    let k = c.loop-k.k in
    let below : k < 64 = omega arith in
    let kept = c.loop-k.invariant.cut in
    let long = kept.long in
    let inside : k < length c.loop-k.passes.items = omega (arith, long, below) in
    let room = c.loop-k.invariant.room in
    let wide = c.push_reserved.ensures.capacity in
    let now = set c.loop-k.passes.items k c.cut_one-other.new.place in
    record {
      cut = subst (CutSoFar (locks_of c.args.self.now) (k + 1) c.args.pass.passes.items now) (sym c.push_reserved.ensures.items)
          (cut_more (locks_of c.args.self.now) k c.args.pass.passes.items c.loop-k.passes.items c.loop-k.others.items
          c.index_mut.result.now c.cut_one-other.new.place (Some c.cut_one-other.result) below kept
          (place_is c.loop-k.passes.items k None c.index_mut.result.now inside c.index_mut.ensures.value)
          c.cut_one-other.ensures.cut c.cut_one-other.ensures.lock c.cut_one-other.ensures.lock_too);
      room = omega (arith, room, wide);
    }

pub returns-clause-fits : goal.returns-clause-fits
returns-clause-fits g c =
    let ended : c.loop-k.k ≡ 64 = omega arith in
    let kept = c.loop-k.invariant.cut in
    let long_too = kept.long_too in (
      fits_after c.args.self.now c.pass_over-first.result c.loop-k.passes.items (c.pass_over-first.ensures.set ∙ c.requires.fits.set)
          c.pass_over-first.ensures.passes kept.long (λ k below. kept.locked k (omega (arith, ended, below))),
      fits_after c.args.self.now c.pass_over-second.result c.loop-k.others.items (c.pass_over-second.ensures.set ∙ c.requires.fits.set)
          c.pass_over-second.ensures.passes (omega (arith, long_too, ended)) (λ k below. kept.locked_too k (omega (arith, ended, below))),
    )
