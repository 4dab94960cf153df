use Rattle.std.proofs.Common.{ℕ, ◌+◌, ◌<◌, ◌∙◌, length, ap, sym, arith}
use Rattle.std.proofs.lemmas.List.Sums.{count_by_more_no, count_by_more_yes}
use Rattle.call_types.specs.declared.why.Why.TheVariants.{Good}
use Rattle.call_types.specs.Good.{is_good}
use Rattle.call_types.proofs.GoodLemmas.{why_found}
use Rattle.call_types.proofs.why.Whys.good.Goals as goal
use Rattle.call_types.proofs.why.Whys.good.Goals.{then-is_good, else-is_good}

pub loop-k-preserved : goal.loop-k-preserved
loop-k-preserved c =
    let whys = c.args.self.now in
    let k = c.loop-k.k in
    let low : k < length whys = omega arith in
    let at = why_found whys k c.get.result Good low c.get.ensures in
    elim c.if-is_good.branch [
      | then-is_good w ↦ record {
        counted = w.count-is ∙ ap (λ (n : ℕ). n + 1) c.loop-k.invariant.counted
            ∙ sym (count_by_more_yes is_good whys k Good low (ap is_good at ∙ sym c.is_good.ensures ∙ w.if-is_good.true));
        few = omega arith;
      }
      | else-is_good w ↦ record {
        counted = w.count-is ∙ c.loop-k.invariant.counted
            ∙ sym (count_by_more_no is_good whys k Good low (ap is_good at ∙ sym c.is_good.ensures ∙ w.if-is_good.false));
        few = omega arith;
      }
    ]
