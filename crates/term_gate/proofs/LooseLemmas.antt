-- Loose names of formats are text, and their letters.
use Rattle.std.proofs.Common.{◌≡◌, ℕ, ◌+◌, ◌<◌, ◌/◌, ◌%◌, List, ◌∷◌, [], ◌++◌, length, drop, nat_lt, set, refl, ap, ◌∙◌, arith, lit<}
use Rattle.std.specs.Prelude.{IsTrue}
use Rattle.std.specs.Int.{w64, to_be_bytes}
use Rattle.std.specs.Str.{IsAscii, is_utf8}
use Rattle.std.proofs.lemmas.Bool.{ltb-true}
use Rattle.std.proofs.lemmas.Str.{IsAscii-append, IsUtf8-from_ascii, is_utf8-from_IsUtf8}
use Rattle.std.proofs.lemmas.Str.Ascii.{IsAscii-cons, IsAscii-from_all, IsAscii-nil}
use Rattle.std.proofs.lemmas.List.Elements.{All-weaker}
use Rattle.std.proofs.lemmas.List.Sums.{AllPass-from_list_all}
use Rattle.std.proofs.lemmas.List.{set-append_right}
use Rattle.hex.specs.Hex.{encode_lower, lower_digits}
use Rattle.hex.proofs.HexLemmas.{IsAscii-encode_with, length-encode_with}
use Rattle.term_gate.specs.Formats.{loose_format_name}

-- six bytes have twelve digits
pub length_term : (term : ℕ) → length (encode_lower (drop 2 (to_be_bytes w64 term))) ≡ 12
length_term term = length-encode_with lower_digits (drop 2 (to_be_bytes w64 term))

-- the digits are ASCII
IsAscii-lower_digits : IsAscii lower_digits
IsAscii-lower_digits =
    IsAscii-from_all lower_digits (All-weaker (λ b. IsTrue (nat_lt b 128)) (λ b. b < 128) (λ b. ltb-true b 128) lower_digits
    (AllPass-from_list_all (λ (b : ℕ). nat_lt b 128) lower_digits refl))

-- a loose name is text
pub loose_name-IsUtf8 : (term index : ℕ) → index < 100 → IsTrue (is_utf8 (loose_format_name term index))
loose_name-IsUtf8 term index small =
    let hex = encode_lower (drop 2 (to_be_bytes w64 term)) in
    let tens : 48 + index / 10 < 128 = omega (arith, small) in
    let ones : 48 + index % 10 < 128 = omega arith in
    let last : IsAscii ((48 + index / 10) ∷ (48 + index % 10) ∷ []) =
    IsAscii-cons (48 + index / 10) ((48 + index % 10) ∷ []) tens (IsAscii-cons (48 + index % 10) [] ones IsAscii-nil) in
    is_utf8-from_IsUtf8 (loose_format_name term index) (IsUtf8-from_ascii (loose_format_name term index)
    (IsAscii-cons 102 (hex ++ (48 + index / 10) ∷ (48 + index % 10) ∷ []) (lit< tt)
    (IsAscii-append hex ((48 + index / 10) ∷ (48 + index % 10) ∷ []) (IsAscii-encode_with lower_digits
    (drop 2 (to_be_bytes w64 term)) IsAscii-lower_digits) last)))

-- the letters from their parts: the last two are set one after the other
pub written_letters : (term index : ℕ) (a : List ℕ) (x y : ℕ) → a ≡ encode_lower (drop 2 (to_be_bytes w64 term)) → x ≡ 48 + index / 10 → y ≡ 48 + index % 10
    → set (set (102 ∷ (a ++ 102 ∷ 102 ∷ [])) 13 x) 14 y ≡ loose_format_name term index
written_letters term index a x y first tens ones =
    let twelve : length a ≡ 12 = ap (length {A = ℕ}) first ∙ length_term term in
    let one : set (a ++ 102 ∷ 102 ∷ []) 12 x ≡ a ++ x ∷ 102 ∷ [] = set-append_right a (102 ∷ 102 ∷ []) 12 12 x twelve (omega arith) in
    let two : set (a ++ x ∷ 102 ∷ []) 13 y ≡ a ++ x ∷ y ∷ [] = set-append_right a (x ∷ 102 ∷ []) 12 13 y twelve (omega arith) in
    ap (λ (xs : List ℕ). 102 ∷ set xs 13 y) one ∙ ap (λ (xs : List ℕ). 102 ∷ xs) two
    ∙ ap (λ (xs : List ℕ). 102 ∷ (xs ++ x ∷ y ∷ [])) first
    ∙ ap (λ (v : ℕ). 102 ∷ (encode_lower (drop 2 (to_be_bytes w64 term)) ++ v ∷ y ∷ [])) tens
    ∙ ap (λ (v : ℕ). 102 ∷ (encode_lower (drop 2 (to_be_bytes w64 term)) ++ (48 + index / 10) ∷ v ∷ [])) ones
