use Rattle.std.proofs.Common.{rules, ◌≡◌, ◌∙◌, ℕ, ◌<◌, ◌≢◌, List, length, slice_index_or, slice_set, ap, refl, subst, sym, inl, inr, get_or-set_other, arith}
use Rattle.std.specs.Int.{IsBitSet}
use Rattle.std.proofs.lemmas.Bool.{cases_eq}
use Rattle.std.proofs.lemmas.List.{get_or-set_same, length-set}
use Rattle.call_types.specs.Good.{good_count}
use Rattle.call_types.specs.declared.why.FileKind.TheVariants.{Format}
use Rattle.call_types.specs.declared.why.Why.{Why}
use Rattle.call_types.specs.declared.why.Why.TheVariants.{Good, Lacks}
use Rattle.get_read.proofs.SiftLemmas.{count_less}
use Rattle.get_read.proofs.calls.past_out.Goals as goal

pub loop-next-preserved : goal.loop-next-preserved
loop-next-preserved c =
    let inv = c.loop-next.invariant in
    let whys = c.loop-next.whys in
    let next = c.loop-next.next in
    let set_is : c.set.new.self ≡ slice_set whys next (Lacks Format) = c.set.ensures in
    let low : next < length whys = omega (arith, inv.counted) in
    let is_out : IsBitSet c.args.set.now.out next = search rules in
    let other : (k : ℕ) → k ≢ next → slice_index_or c.set.new.self k Good ≡ slice_index_or whys k Good =
    λ k apart. ap (λ (w : List Why). slice_index_or w k Good) set_is ∙ get_or-set_other whys next k (Lacks Format) Good apart in
    let same : slice_index_or c.set.new.self next Good ≡ Lacks Format =
    ap (λ (w : List Why). slice_index_or w next Good) set_is ∙ get_or-set_same whys next (Lacks Format) Good low in
    record {
      least = omega (arith, inv.least);
      most = omega arith;
      counted = ap (length {A = Why}) set_is ∙ length-set whys next (Lacks Format) ∙ inv.counted;
      before = λ k before. other k (omega (arith, inv.least)) ∙ inv.before k before;
      out = λ k past within. elim (cases_eq k next) [
        | inl at ↦ (subst (IsBitSet c.args.set.now.out) (sym at) is_out, ap (λ (j : ℕ). slice_index_or c.set.new.self j Good) at ∙ same)
        | inr apart ↦
            let was = inv.out k past (omega arith) in (was.0, other k apart ∙ was.1)
      ];
      untried = λ k past. other k (omega arith) ∙ inv.untried k (omega arith);
      sum = omega (arith, inv.sum, ap good_count set_is, count_less whys next (Lacks Format) low (inv.untried next (omega arith)) refl);
    }
