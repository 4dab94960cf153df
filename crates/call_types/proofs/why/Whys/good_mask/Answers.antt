use Rattle.std.proofs.Common.{◌+◌, ◌<◌, ◌∙◌, length, subst, sym, arith}
use Rattle.call_types.specs.declared.why.FileKind.TheVariants.{Format}
use Rattle.call_types.specs.declared.why.Why.TheVariants.{Lacks}
use Rattle.call_types.proofs.GoodLemmas.{Served, good_means, mask_all, not_good_means, why_found}
use Rattle.call_types.proofs.MaskLemmas.{MaskSoFar, mask_no, mask_yes}
use Rattle.call_types.proofs.why.Whys.good_mask.Goals as goal
use Rattle.call_types.proofs.why.Whys.good_mask.Goals.{then-is_good, else-is_good}

pub loop-k-preserved : goal.loop-k-preserved
loop-k-preserved c =
    let whys = c.args.self.now in
    let k = c.loop-k.k in
    let low : k < length whys = omega arith in
    let at = why_found whys k c.get.result (Lacks Format) low c.get.ensures in
    elim c.if-is_good.branch [
      | then-is_good w ↦ subst (MaskSoFar (Served whys) (k + 1)) (sym w.mask-is)
          (mask_yes (Served whys) k c.loop-k.mask (omega arith)
          (at ∙ good_means c.get.result (sym c.is_good.ensures ∙ w.if-is_good.true)) c.loop-k.invariant)
      | else-is_good w ↦ subst (MaskSoFar (Served whys) (k + 1)) (sym w.mask-is)
          (mask_no (Served whys) k c.loop-k.mask
          (λ served. not_good_means c.get.result (sym c.is_good.ensures ∙ w.if-is_good.false) (sym at ∙ served)) c.loop-k.invariant)
    ]

pub returns : goal.returns
returns c = mask_all c.args.self.now c.loop-k.k c.loop-k.mask (omega arith) c.loop-k.invariant
