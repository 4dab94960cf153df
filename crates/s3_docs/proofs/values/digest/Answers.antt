use Rattle.std.proofs.Common.{◌≡◌, ℕ, ◌<◌, ◌≤◌, ◌∙◌, sym, length, get_or, true, arith, below_more, subst, List, Err}
use Rattle.hex.specs.Hex.{is_hex_digit, decode_sized}
use Rattle.s3_docs.proofs.ValueLemmas.{more_hex, hex_decodes}
use Rattle.s3_docs.proofs.values.digest.Goals as goal

pub loop-i-preserved : goal.loop-i-preserved
loop-i-preserved c =
    let i = c.loop-i.i in
    let text = c.args.text.now in
    let within : i < length text = omega arith in
    let hex : is_hex_digit (get_or text i 0) ≡ true = sym c.is_hex_digit.ensures ∙ c.if-not-is_hex_digit.false in
    record {
      within = omega arith;
      digits = below_more _ _ c.loop-i.invariant.digits hex;
      reads = λ holder quotation. c.loop-i.invariant.reads holder quotation ∙ more_hex holder quotation text i c.loop-i-test.true within hex;
    }

pub returns-in-Err-clause-stops : goal.returns-in-Err-clause-stops
returns-in-Err-clause-stops c =
    let text = c.args.text.now in
    let long : 32 ≤ length text = omega (arith, c.loop-i.invariant.within) in
    let at_end : c.loop-i.i ≡ 32 = omega (arith, c.loop-i.auto.i-end) in
    let digits : (k : ℕ) → k < 32 → is_hex_digit (get_or text k 0) ≡ true = λ k below. c.loop-i.invariant.digits k (omega arith) in
    let wrong = subst (λ (digits : List ℕ). decode_sized digits 16 ≡ Err c.in-Err.field-0) c.split_at.ensures.front (sym c.from_hex.ensures ∙ c.in-Err.is) in
    absurd (hex_decodes text long digits c.in-Err.field-0 wrong)
