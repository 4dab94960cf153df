use Rattle.std.proofs.Common.{◌<◌, ◌≤◌, ◌∙◌, None, ap, length, option_map, slice_index_or, subst, sym, arith}
use Rattle.std.proofs.lemmas.Bool.{false≢true}
use Rattle.std.proofs.lemmas.List.{get_or-map}
use Rattle.store_shared.specs.Parting.{parts_in}
use Rattle.store_shared.specs.SharedPasses.{pass_holds, passes_hold}
use Rattle.store_shared.proofs.PartingLemmas.{each_more}
use Rattle.store_shared.proofs.closing.lacks_any.Goals as goal

pub loop-pass-preserved : goal.loop-pass-preserved
loop-pass-preserved g c =
    let k = c.loop-pass.pass-index in
    let passes = c.args.passes.now in
    let inside : k < length passes = omega arith in
    let item = c.pass-item.result in
    let there = get_or-map (option_map pass_holds) passes k item None inside ∙ ap (option_map pass_holds) (sym c.pass-item.is) in
    each_more (λ k. 65536 ≤ parts_in (slice_index_or (passes_hold passes) k None)) k c.loop-pass.invariant
    (subst (λ p. 65536 ≤ parts_in p) (sym there) (c.if-lacks_some.ensures.has (λ yes. false≢true yes)))
