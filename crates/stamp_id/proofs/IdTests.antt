-- The test of an id says what it tests.
use Rattle.std.proofs.Common.{◌≡◌, ℕ, Bool, true, false, List, length, refl, arith}
use Rattle.std.specs.Prelude.{◌&&◌}
use Rattle.std.proofs.lemmas.Bool.{eqb-true, ltb-true}
use Rattle.std.proofs.lemmas.Bool.Decides.{nat_tests}
use Rattle.stamp_id.specs.Layout.{AreIdWords, IsId, high_word, low_word}
use Rattle.stamp_id.specs.IdField.{are_id_words, is_id}

-- both tests of an `and`
pub both_true : (a b : Bool) → (a && b) ≡ true → (a ≡ true) × (b ≡ true)
both_true true b e = (refl, e)
both_true false b e = absurd cc

words-yes : (high low : ℕ) → AreIdWords high low → are_id_words high low ≡ true
words-yes high low h = grind (arith, nat_tests)

words-true : (high low : ℕ) → are_id_words high low ≡ true → AreIdWords high low
words-true high low e =
    let a = both_true _ _ e in
    let b = both_true _ _ a.0 in
    let c = both_true _ _ b.0 in
    let d = both_true _ _ c.0 in
    record {
      version = eqb-true _ _ d.0;
      variant = eqb-true _ _ d.1;
      slot = ltb-true _ _ c.1;
      term = ltb-true _ _ b.1;
      seq = ltb-true _ _ a.1;
    }

-- the bytes of an id pass
pub is_id-yes : (bytes : List ℕ) → IsId bytes → is_id bytes ≡ true
unfolding is_id
is_id-yes bytes h = words-yes (high_word bytes) (low_word bytes) h.1

-- bytes that pass have the words of an id
pub is_id-true : (bytes : List ℕ) → is_id bytes ≡ true → AreIdWords (high_word bytes) (low_word bytes)
unfolding is_id
is_id-true bytes e = words-true (high_word bytes) (low_word bytes) e

-- 16 bytes of no id fail
pub is_id-no : (bytes : List ℕ) → length bytes ≡ 16 → (IsId bytes → ⊥) → is_id bytes ≡ false
is_id-no bytes sized h =
    let P : Bool → Type 0 = λ b. is_id bytes ≡ b → is_id bytes ≡ false in
    let split : P (is_id bytes) = elim (is_id bytes) as P [ true ↦ λ e. absurd (h (sized, is_id-true bytes e)) | false ↦ λ e. e ] in
    split refl
