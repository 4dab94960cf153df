-- Loose names: their text, and that those of one term and different numbers differ.
use Rattle.std.proofs.Common.{◌≡◌, ◌≢◌, ℕ, zero, suc, ◌^◌, ◌<◌, Bool, true, false, List, ◌∷◌, [], ◌++◌, length, drop, take, nat_lt, Result, Ok, refl, sym, ap, ◌∙◌, arith, lit<, codes}
use Rattle.std.specs.Prelude.{IsTrue}
use Rattle.std.specs.Int.{w64, to_be_bytes, from_be_bytes}
use Rattle.std.specs.Str.{IsAscii, bytes_eq, is_utf8}
use Rattle.std.proofs.lemmas.Bool.{ltb-true}
use Rattle.std.proofs.lemmas.Str.{IsAscii-append, IsUtf8-from_ascii, is_utf8-from_IsUtf8}
use Rattle.std.proofs.lemmas.Str.Ascii.{IsAscii-cons, IsAscii-from_all}
use Rattle.std.proofs.lemmas.Nat.{from_be_bytes-to_be_bytes_8}
use Rattle.std.proofs.lemmas.Slice.Eq.{bytes_eq-Decides}
use Rattle.std.proofs.lemmas.List.Elements.{All-weaker}
use Rattle.std.proofs.lemmas.List.Sums.{AllPass-from_list_all}
use Rattle.std.proofs.lemmas.List.{append-nil, drop_all, drop_at, length-append, length-drop, take_all, take_at}
use Rattle.hex.specs.Hex.{encode_lower, lower_digits, decode_of, IsBytes}
use Rattle.hex.proofs.HexLemmas.{IsAscii-encode_with, decode_of-encode_lower, length-encode_with}
use Rattle.register_core.specs.Loose.{loose_name}
use borrow.Rule.Slice.PartMut.{post_of}

-- the letters, from their parts
pub placed : (a b rest : List ℕ) → length a ≡ 12 → length b ≡ 16 → length rest ≡ 16
    → 119 ∷ (take 12 (a ++ rest) ++ (b ++ post_of 13 16 (119 ∷ (a ++ rest)))) ≡ 119 ∷ (a ++ b)
placed a b rest twelve sixteen left =
    let all : List ℕ = 119 ∷ (a ++ rest) in
    let none : post_of 13 16 all ≡ [] = drop_all 16 (drop 13 all) (omega (arith, length-drop 13 all, length-append a rest)) in
    ap (λ (xs : List ℕ). 119 ∷ (xs ++ (b ++ post_of 13 16 all))) (take_at a rest 12 twelve)
    ∙ ap (λ (xs : List ℕ). 119 ∷ (a ++ (b ++ xs))) none
    ∙ ap (λ (xs : List ℕ). 119 ∷ (a ++ xs)) (append-nil b)

-- six bytes have twelve digits
pub length_term : (term : ℕ) → length (encode_lower (drop 2 (to_be_bytes w64 term))) ≡ 12
length_term term = length-encode_with lower_digits (drop 2 (to_be_bytes w64 term))

-- eight bytes have sixteen digits
pub length_number : (number : ℕ) → length (encode_lower (to_be_bytes w64 number)) ≡ 16
length_number number = length-encode_with lower_digits (to_be_bytes w64 number)

-- the room for the second number
pub room_after : (a rest : List ℕ) → length a ≡ 12 → length rest ≡ 16 → length (take 16 (drop 12 (a ++ rest))) ≡ 16
room_after a rest twelve left = ap (λ (xs : List ℕ). length (take 16 xs)) (drop_at a rest 12 twelve) ∙ ap (length {A = ℕ}) (take_all 16 rest (omega arith)) ∙ left

-- the digits are ASCII
IsAscii-lower_digits : IsAscii lower_digits
IsAscii-lower_digits =
    IsAscii-from_all lower_digits (All-weaker (λ b. IsTrue (nat_lt b 128)) (λ b. b < 128) (λ b. ltb-true b 128) lower_digits
    (AllPass-from_list_all (λ (b : ℕ). nat_lt b 128) lower_digits refl))

-- a loose name is text
pub loose_name-IsUtf8 : (term number : ℕ) → IsTrue (is_utf8 (loose_name term number))
loose_name-IsUtf8 term number =
    let digits = IsAscii-lower_digits in
    is_utf8-from_IsUtf8 (loose_name term number) (IsUtf8-from_ascii (loose_name term number)
    (IsAscii-append (codes "w" ++ encode_lower (drop 2 (to_be_bytes w64 term))) (encode_lower (to_be_bytes w64 number))
    (IsAscii-cons 119 (encode_lower (drop 2 (to_be_bytes w64 term))) (lit< tt) (IsAscii-encode_with lower_digits (drop 2 (to_be_bytes w64 term)) digits))
    (IsAscii-encode_with lower_digits (to_be_bytes w64 number) digits)))

-- the eight bytes of a number are bytes
be_bytes_are_bytes : (n : ℕ) → IsBytes (to_be_bytes w64 n)
be_bytes_are_bytes n zero = omega arith
be_bytes_are_bytes n (suc zero) = omega arith
be_bytes_are_bytes n (suc (suc zero)) = omega arith
be_bytes_are_bytes n (suc (suc (suc zero))) = omega arith
be_bytes_are_bytes n (suc (suc (suc (suc zero)))) = omega arith
be_bytes_are_bytes n (suc (suc (suc (suc (suc zero))))) = omega arith
be_bytes_are_bytes n (suc (suc (suc (suc (suc (suc zero)))))) = omega arith
be_bytes_are_bytes n (suc (suc (suc (suc (suc (suc (suc zero))))))) = omega arith
be_bytes_are_bytes n (suc (suc (suc (suc (suc (suc (suc (suc i)))))))) = lit< tt

ok_value : {E : Type 0} (a b : List ℕ) (r : Result (List ℕ) E) → r ≡ Ok a → r ≡ Ok b → a ≡ b
ok_value a b r e f = cc

-- the digits of a loose name's number
number_digits : (term number : ℕ) → drop 13 (loose_name term number) ≡ encode_lower (to_be_bytes w64 number)
number_digits term number =
    drop_at (codes "w" ++ encode_lower (drop 2 (to_be_bytes w64 term))) (encode_lower (to_be_bytes w64 number)) 13 (ap suc (length_term term))

-- two numbers below 2^64 with one loose name are equal
loose_name-injective : (term m n : ℕ) → m < 2 ^ 64 → n < 2 ^ 64 → loose_name term m ≡ loose_name term n → m ≡ n
loose_name-injective term m n fits_m fits_n e =
    let texts : encode_lower (to_be_bytes w64 m) ≡ encode_lower (to_be_bytes w64 n) = sym (number_digits term m) ∙ ap (drop 13) e ∙ number_digits term n in
    let decoded : decode_of (encode_lower (to_be_bytes w64 m)) ≡ decode_of (encode_lower (to_be_bytes w64 n)) = ap decode_of texts in
    let bytes : to_be_bytes w64 m ≡ to_be_bytes w64 n =
    ok_value _ _ (decode_of (encode_lower (to_be_bytes w64 m))) (decode_of-encode_lower _ (be_bytes_are_bytes m)) (decoded ∙ decode_of-encode_lower _ (be_bytes_are_bytes n)) in
    sym (from_be_bytes-to_be_bytes_8 m fits_m) ∙ ap (from_be_bytes w64) bytes ∙ from_be_bytes-to_be_bytes_8 n fits_n

-- a test that decides a fact is false where the fact doesn't hold
false_without : {P : Type 0} (b : Bool) → (b ≡ true → P) → (P → ⊥) → b ≡ false
false_without true means not = absurd (not (means refl))
false_without false means not = refl

-- loose names of one term with different numbers differ
pub loose_names_differ : (term m n : ℕ) → m < 2 ^ 64 → n < 2 ^ 64 → m ≢ n → bytes_eq (loose_name term m) (loose_name term n) ≡ false
loose_names_differ term m n fits_m fits_n differ =
    false_without (bytes_eq (loose_name term m) (loose_name term n)) (bytes_eq-Decides (loose_name term m) (loose_name term n)).0
    (λ e. differ (loose_name-injective term m n fits_m fits_n e))

-- the letters of a loose name, as they are written
pub written_letters : (term number : ℕ) (a b rest : List ℕ) → a ≡ encode_lower (drop 2 (to_be_bytes w64 term)) → b ≡ encode_lower (to_be_bytes w64 number)
    → length rest ≡ 16 → 119 ∷ (take 12 (a ++ rest) ++ (b ++ post_of 13 16 (119 ∷ (a ++ rest)))) ≡ loose_name term number
written_letters term number a b rest first second left =
    placed a b rest (ap (length {A = ℕ}) first ∙ length_term term) (ap (length {A = ℕ}) second ∙ length_number number) left
    ∙ ap (λ (xs : List ℕ). 119 ∷ (xs ++ b)) first
    ∙ ap (λ (xs : List ℕ). 119 ∷ (encode_lower (drop 2 (to_be_bytes w64 term)) ++ xs)) second
