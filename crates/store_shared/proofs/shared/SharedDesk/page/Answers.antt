use Rattle.std.proofs.Common.{◌<◌, ◌∙◌, None, ap, length, sym, arith}
use Rattle.store_shared.specs.Among.{pass_seen}
use Rattle.store_shared.specs.SharedPasses.{locks_of}
use Rattle.store_shared.proofs.AmongLemmas.{place_holds, place_seen, place_set}
use Rattle.store_shared.proofs.PlaceLemmas.{place_is, place_lock, place_there}
use Rattle.store_shared.proofs.shared.SharedDesk.page.Goals as goal

pub unreachable-requires : goal.unreachable-requires
unreachable-requires g c =
    let passes = c.args.pass.now.passes.items in
    let count = c.args.pass.now.count in
    let below = c.requires.slot in
    let inside : c.args.slot < length passes = omega (arith, count, below) in
    place_there (locks_of c.args.self.now) passes c.args.slot below c.args.self.now.count count c.requires.fits.locks
    (place_is passes c.args.slot None c.index_mut-place.result.now inside c.index_mut-place.ensures.value ∙ (sym c.take.ensures.value ∙ c.in_default.is))

pub page_in_turn-back-requires-clause-own : goal.page_in_turn-back-requires-clause-own
page_in_turn-back-requires-clause-own g c =
    let passes = c.args.pass.now.passes.items in
    let count = c.args.pass.now.count in
    let below = c.requires.slot in
    let inside : c.args.slot < length passes = omega (arith, count, below) in
    place_lock (locks_of c.args.self.now) passes c.args.slot below count c.requires.fits.locks _
    (place_is passes c.args.slot None c.index_mut-place.result.now inside c.index_mut-place.ensures.value ∙ (sym c.take.ensures.value ∙ c.in-Some.is))

pub returns-clause-holds : goal.returns-clause-holds
returns-clause-holds g c =
    let passes = c.args.pass.now.passes.items in
    let count = c.args.pass.now.count in
    let below = c.requires.slot in
    let inside : c.args.slot < length passes = omega (arith, count, below) in
    ap (λ held. record { set = c.args.pass.now.set; passes = held })
    (place_holds passes c.args.slot c.in-Some.own c.page_in_turn-back.result.0 inside
    (place_is passes c.args.slot None c.index_mut-place.result.now inside c.index_mut-place.ensures.value ∙ (sym c.take.ensures.value ∙ c.in-Some.is))
    c.page_in_turn-back.ensures.holds)

pub returns-clause-pages : goal.returns-clause-pages
returns-clause-pages g c =
    let passes = c.args.pass.now.passes.items in
    let count = c.args.pass.now.count in
    let below = c.requires.slot in
    let inside : c.args.slot < length passes = omega (arith, count, below) in
    let there = place_is passes c.args.slot None c.index_mut-place.result.now inside c.index_mut-place.ensures.value
    ∙ (sym c.take.ensures.value ∙ c.in-Some.is) in
    record {
      was = pass_seen c.in-Some.own;
      now = pass_seen c.page_in_turn-back.result.0;
      is = place_seen passes c.args.slot c.in-Some.own inside there;
      pages = c.page_in_turn-back.ensures.pages;
      stays = place_set passes c.args.slot c.page_in_turn-back.result.0;
    }
