-- Loose names of different terms differ.
use Rattle.std.proofs.Common.{◌≡◌, ◌≢◌, ℕ, suc, zero, ◌<◌, ◌^◌, Bool, true, false, List, ◌∷◌, ◌++◌, drop, take, get_or, Result, Ok, refl, sym, ap, ◌∙◌, arith, lit<, codes}
use Rattle.std.specs.Int.{w64, to_be_bytes, from_be_bytes}
use Rattle.std.specs.Str.{bytes_eq}
use Rattle.std.proofs.lemmas.List.{take_at}
use Rattle.std.proofs.lemmas.Nat.{from_be_bytes-to_be_bytes_8}
use Rattle.std.proofs.lemmas.Slice.Eq.{bytes_eq-Decides}
use Rattle.hex.specs.Hex.{IsBytes, decode_of, encode_lower}
use Rattle.hex.proofs.HexLemmas.{decode_of-encode_lower}
use Rattle.register_core.proofs.LooseLemmas.{length_term}
use Rattle.register_core.specs.Loose.{loose_name}

-- the six bytes of a term
abbrev term_bytes : ℕ → List ℕ
term_bytes term = drop 2 (to_be_bytes w64 term)

-- they are bytes
term_bytes_are_bytes : (n : ℕ) → IsBytes (term_bytes n)
term_bytes_are_bytes n zero = omega arith
term_bytes_are_bytes n (suc zero) = omega arith
term_bytes_are_bytes n (suc (suc zero)) = omega arith
term_bytes_are_bytes n (suc (suc (suc zero))) = omega arith
term_bytes_are_bytes n (suc (suc (suc (suc zero)))) = omega arith
term_bytes_are_bytes n (suc (suc (suc (suc (suc zero))))) = omega arith
term_bytes_are_bytes n (suc (suc (suc (suc (suc (suc i)))))) = lit< tt

-- and the first two of a term's eight bytes are zero
zeros_before : (n : ℕ) → n < 2 ^ 48 → to_be_bytes w64 n ≡ 0 ∷ 0 ∷ term_bytes n
zeros_before n small =
    let first : get_or (to_be_bytes w64 n) 0 0 ≡ 0 = omega arith in
    let second : get_or (to_be_bytes w64 n) 1 0 ≡ 0 = omega arith in
    λ i. first i ∷ second i ∷ term_bytes n

-- a result is one value
one_value : {E : Type 0} (a b : List ℕ) (r : Result (List ℕ) E) → r ≡ Ok a → r ≡ Ok b → a ≡ b
one_value a b r e f = cc

-- the letters of a loose name before its number
term_letters : (term number : ℕ) → take 13 (loose_name term number) ≡ 119 ∷ encode_lower (term_bytes term)
term_letters term number =
    take_at (codes "w" ++ encode_lower (term_bytes term)) (encode_lower (to_be_bytes w64 number)) 13 (ap suc (length_term term))

-- two terms below 2^48 with one loose name are equal
one_term : (t u m n : ℕ) → t < 2 ^ 48 → u < 2 ^ 48 → loose_name t m ≡ loose_name u n → t ≡ u
one_term t u m n small also same =
    let texts : encode_lower (term_bytes t) ≡ encode_lower (term_bytes u) = ap (drop 1) (sym (term_letters t m) ∙ ap (take 13) same ∙ term_letters u n) in
    let bytes : term_bytes t ≡ term_bytes u = one_value (term_bytes t) (term_bytes u) (decode_of (encode_lower (term_bytes t)))
    (decode_of-encode_lower (term_bytes t) (term_bytes_are_bytes t)) (ap decode_of texts ∙ decode_of-encode_lower (term_bytes u) (term_bytes_are_bytes u)) in
    sym (from_be_bytes-to_be_bytes_8 t (omega arith))
    ∙ ap (from_be_bytes w64) (zeros_before t small ∙ ap (λ (xs : List ℕ). 0 ∷ 0 ∷ xs) bytes ∙ sym (zeros_before u also))
    ∙ from_be_bytes-to_be_bytes_8 u (omega arith)

-- a test that decides a fact is false where the fact doesn't hold
false_without : {P : Type 0} (b : Bool) → (b ≡ true → P) → (P → ⊥) → b ≡ false
false_without true means not = absurd (not (means refl))
false_without false means not = refl

-- loose names of different terms differ
pub loose_terms_differ : (t u m n : ℕ) → t < 2 ^ 48 → u < 2 ^ 48 → t ≢ u → bytes_eq (loose_name t m) (loose_name u n) ≡ false
loose_terms_differ t u m n small also differ =
    false_without (bytes_eq (loose_name t m) (loose_name u n)) (bytes_eq-Decides (loose_name t m) (loose_name u n)).0
    (λ same. differ (one_term t u m n small also same))
