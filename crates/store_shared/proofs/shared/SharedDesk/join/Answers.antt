use Rattle.std.proofs.Common.{◌≡◌, ◌<◌, ◌∙◌, None, length, refl, subst, sym, arith}
use Rattle.store_shared.specs.SharedPasses.{locks_of}
use Rattle.store_shared.proofs.PartingLemmas.{JoinedSoFar, fits_after, join_ends, joined_more}
use Rattle.store_shared.proofs.PlaceLemmas.{place_is, place_lock}
use Rattle.store_shared.proofs.shared.SharedDesk.join.Goals as goal

pub join_one-requires-clause-lock : goal.join_one-requires-clause-lock
join_one-requires-clause-lock g c =
    let k = c.loop-k.k in
    let below : k < 64 = omega arith in
    let kept = c.loop-k.invariant in
    let long = kept.long in
    let inside : k < length c.loop-k.passes.items = omega (arith, long, below) in
    place_lock (locks_of c.args.self.now) c.args.one.passes.items k below c.args.one.count c.requires.fits.locks c.index_mut.result.now
    (sym (kept.rest k (omega arith)) ∙ place_is c.loop-k.passes.items k None c.index_mut.result.now inside c.index_mut.ensures.value)

pub join_one-requires-clause-lock_too : goal.join_one-requires-clause-lock_too
join_one-requires-clause-lock_too g c =
    let k = c.loop-k.k in
    let below : k < 64 = omega arith in
    let kept = c.loop-k.invariant in
    let long = kept.long_too in
    let inside : k < length c.loop-k.gone.items = omega (arith, long, below) in
    place_lock (locks_of c.args.self.now) c.args.other.passes.items k below c.args.other.count c.requires.fits_too.locks c.index_mut-in-loop-k.result.now
    (sym (kept.rest_too k (omega arith)) ∙ place_is c.loop-k.gone.items k None c.index_mut-in-loop-k.result.now inside c.index_mut-in-loop-k.ensures.value)

pub loop-k-preserved : goal.loop-k-preserved
loop-k-preserved g c =
    let k = c.loop-k.k in
    let below : k < 64 = omega arith in
    let kept = c.loop-k.invariant in
    let long = kept.long in
    let long_too = kept.long_too in
    let inside : k < length c.loop-k.passes.items = omega (arith, long, below) in
    let inside_too : k < length c.loop-k.gone.items = omega (arith, long_too, below) in
    joined_more (locks_of c.args.self.now) k c.args.one.passes.items c.args.other.passes.items c.loop-k.passes.items c.loop-k.gone.items
    c.index_mut.result.now c.index_mut-in-loop-k.result.now c.join_one.new.place c.join_one.new.gone below kept
    (place_is c.loop-k.passes.items k None c.index_mut.result.now inside c.index_mut.ensures.value)
    (place_is c.loop-k.gone.items k None c.index_mut-in-loop-k.result.now inside_too c.index_mut-in-loop-k.ensures.value)
    c.join_one.ensures.joined c.join_one.ensures.lock

pub returns-clause-joined : goal.returns-clause-joined
returns-clause-joined g c =
    let ended : c.loop-k.k ≡ 64 = omega arith in
    join_ends (locks_of c.args.self.now) c.args.one c.args.other c.pass_over.result c.args.other.disks.items c.loop-k.passes.items c.loop-k.gone.items
    (subst (λ n. JoinedSoFar (locks_of c.args.self.now) n c.args.one.passes.items c.args.other.passes.items c.loop-k.passes.items c.loop-k.gone.items) ended
    c.loop-k.invariant) c.pass_over.ensures.set c.pass_over.ensures.passes c.pass_over.ensures.drives refl

pub returns-clause-fits : goal.returns-clause-fits
returns-clause-fits g c =
    let ended : c.loop-k.k ≡ 64 = omega arith in
    let kept = c.loop-k.invariant in
    fits_after c.args.self.now c.pass_over.result c.loop-k.passes.items (c.pass_over.ensures.set ∙ c.requires.fits.set) c.pass_over.ensures.passes kept.long
    (λ k below. kept.locked k (omega (arith, ended, below)))
