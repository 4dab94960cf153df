use Rattle.std.proofs.Common.{◌≡◌, ◌<◌, ◌∙◌, None, Some, length, set, subst, subst₂, sym, arith}
use Rattle.std.proofs.lemmas.List.{length-map}
use Rattle.drive_base.specs.View.{views}
use Rattle.op_steps.specs.Going.{OneStep, RanSoOver}
use Rattle.op_steps.specs.Store.{store_of}
use Rattle.store_shared.specs.Among.{passes_seen, seen_in}
use Rattle.store_shared.specs.AmongSteps.{RanAmong}
use Rattle.store_shared.specs.SharedPasses.{AreOfLocks, locks_of, passes_hold}
use Rattle.store_shared.proofs.AmongLemmas.{bar_stays, place_holds, place_seen, place_set}
use Rattle.store_shared.proofs.PlaceLemmas.{holds_long, place_is, place_lock, place_there}
use Rattle.store_shared.proofs.shared_desk.SharedDeskTurns.turn.Goals as goal

pub returns-then-is_err-clause-steps : goal.returns-then-is_err-clause-steps
returns-then-is_err-clause-steps g c = λ feed teller.
    let passes = c.args.passes.now.items in
    let long = length-map passes seen_in in
    let count = c.requires.fits.count in
    let below = c.requires.index in
    bar_stays g.D.Drive g.A.Audit.entries g.A.Audit.count g.T.Teller.takes g.T.Teller.breaks (g.O.Op.set c.args.op.now) (g.O.Op.stands c.args.op.now)
    (g.O.Op.stands c.barred.new.self) (g.O.Op.step c.args.op.now) c.args.index (views g.D.Drive c.args.disks.now) c.args.stubs.now.items c.reserve.new.self.items
    c.requires.next c.barred.ensures.barred c.reserve.ensures.items (passes_seen passes) feed teller (omega (arith, long, count, below))

pub unreachable-requires : goal.unreachable-requires
unreachable-requires g c =
    let passes = c.args.passes.now.items in
    let count = c.requires.fits.count in
    let below = c.requires.index in
    let inside : c.args.index < length passes = omega (arith, count, below) in
    place_there (locks_of c.args.self.now) passes c.args.index below c.args.self.now.count count c.requires.fits.locks
    (place_is passes c.args.index None c.index_mut-place.result.now inside c.index_mut-place.ensures.value ∙ (sym c.take.ensures.value ∙ c.in_default.is))

pub turn_by-requires-clause-own : goal.turn_by-requires-clause-own
turn_by-requires-clause-own g c =
    let passes = c.args.passes.now.items in
    let count = c.requires.fits.count in
    let below = c.requires.index in
    let inside : c.args.index < length passes = omega (arith, count, below) in
    place_lock (locks_of c.args.self.now) passes c.args.index below count c.requires.fits.locks _
    (place_is passes c.args.index None c.index_mut-place.result.now inside c.index_mut-place.ensures.value ∙ (sym c.take.ensures.value ∙ c.in-Some.is))

pub returns-clause-holds : goal.returns-clause-holds
returns-clause-holds g c =
    let passes = c.args.passes.now.items in
    let count = c.requires.fits.count in
    let below = c.requires.index in
    let inside : c.args.index < length passes = omega (arith, count, below) in
    place_holds passes c.args.index c.in-Some.own c.turn_by.result inside
    (place_is passes c.args.index None c.index_mut-place.result.now inside c.index_mut-place.ensures.value ∙ (sym c.take.ensures.value ∙ c.in-Some.is))
    c.turn_by.ensures.holds

pub returns-clause-fits : goal.returns-clause-fits
returns-clause-fits g c =
    let passes = c.args.passes.now.items in
    let count = c.requires.fits.count in
    let below = c.requires.index in
    let inside : c.args.index < length passes = omega (arith, count, below) in
    let back = set passes c.args.index (Some c.turn_by.result) in
    let held : passes_hold back ≡ passes_hold passes =
    place_holds passes c.args.index c.in-Some.own c.turn_by.result inside
    (place_is passes c.args.index None c.index_mut-place.result.now inside c.index_mut-place.ensures.value ∙ (sym c.take.ensures.value ∙ c.in-Some.is))
    c.turn_by.ensures.holds in
    record {
      set_is = c.requires.fits.set_is;
      count = holds_long back passes held ∙ count;
      locks = subst (AreOfLocks (locks_of c.args.self.now)) (sym held) c.requires.fits.locks;
    }

pub returns-clause-steps : goal.returns-clause-steps
returns-clause-steps g c = λ feed teller.
    let passes = c.args.passes.now.items in
    let count = c.requires.fits.count in
    let below = c.requires.index in
    let inside : c.args.index < length passes = omega (arith, count, below) in
    let there = place_is passes c.args.index None c.index_mut-place.result.now inside c.index_mut-place.ensures.value ∙ (sym c.take.ensures.value ∙ c.in-Some.is) in
    subst₂ (λ p s. RanSoOver (OneStep (g.O.Op.step c.args.op.now) (RanAmong g.D.Drive g.A.Audit.entries g.A.Audit.count g.T.Teller.takes g.T.Teller.breaks
    (g.O.Op.set c.args.op.now)))
    (g.O.Op.stands c.args.op.now) (g.O.Op.stands c.turn_by.new.op)
    (λ claim. store_of (passes_seen passes) (views g.D.Drive c.args.disks.now) claim feed teller)
    (λ claim. store_of p (views g.D.Drive c.turn_by.new.disks) claim feed teller) s c.turn_by.new.stubs.items)
    (sym (place_set passes c.args.index c.turn_by.result)) c.reserve.ensures.items
    (c.turn_by.ensures.steps (passes_seen passes) feed teller (place_seen passes c.args.index c.in-Some.own inside there))
