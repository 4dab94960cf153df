use Rattle.std.proofs.Common.{◌≡◌, ◌+◌, ◌<◌, ◌^◌, ◌∙◌, ℕ, length, subst, sym, arith}
use Rattle.std.specs.Prelude.{◌↔◌}
use Rattle.std.specs.Int.{IsBitSet}
use Rattle.call_types.proofs.MaskLemmas.{MaskSoFar, mask_bit, mask_no, mask_yes}
use Rattle.register_core.proofs.FoundLemmas.{IsClean, looked_up}
use Rattle.register_core.proofs.looks.clean_of.Goals as goal
use Rattle.register_core.proofs.looks.clean_of.Goals.{then-is_settled, else-is_settled}

pub loop-k-preserved : goal.loop-k-preserved
loop-k-preserved c =
    let files = c.args.files.now in
    let clean : ℕ → Type 0 = IsClean files c.args.base.now in
    let k = c.loop-k.k in
    let low : k < length files = omega arith in
    let at = looked_up files k c.index-files-k.result low c.index-files-k.is in
    elim c.if-is_settled.branch [
      | then-is_settled w ↦ subst (MaskSoFar clean (k + 1)) (sym w.mask-is)
          (mask_yes clean k c.loop-k.mask (omega arith) (at ∙ c.is_settled.ensures.0 w.if-is_settled.true) c.loop-k.invariant)
      | else-is_settled w ↦ subst (MaskSoFar clean (k + 1)) (sym w.mask-is)
          (mask_no clean k c.loop-k.mask
          (λ is. let yes = c.is_settled.ensures.1 (sym at ∙ is) in let no = w.if-is_settled.false in absurd cc) c.loop-k.invariant)
    ]

pub returns-clause-bits : goal.returns-clause-bits
returns-clause-bits c =
    let clean : ℕ → Type 0 = IsClean c.args.files.now c.args.base.now in
    let all : c.loop-k.k ≡ length c.args.files.now = omega arith in
    subst (λ (m : ℕ). (k : ℕ) → k < length c.args.files.now → IsBitSet m k ↔ clean k) (sym c.from_mask.ensures)
    (mask_bit clean (length c.args.files.now) c.loop-k.mask (subst (λ (n : ℕ). MaskSoFar clean n c.loop-k.mask) all c.loop-k.invariant))

pub returns-clause-none_else : goal.returns-clause-none_else
returns-clause-none_else c =
    let all : c.loop-k.k ≡ length c.args.files.now = omega arith in
    subst (λ (m : ℕ). m < 2 ^ length c.args.files.now) (sym c.from_mask.ensures) (subst (λ (n : ℕ). c.loop-k.mask < 2 ^ n) all c.loop-k.invariant.low)
