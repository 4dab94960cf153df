-- What is made of bytes with U+FFFD for what is no UTF-8 is UTF-8.
use Rattle.std.proofs.Common.{◌≡◌, ℕ, zero, suc, ◌+◌, ◌<◌, ◌≤◌, Bool, true, false, List, [], ◌∷◌, ◌++◌, length, take, drop, refl, sym, ap, subst, ◌∙◌, arith}
use Rattle.std.specs.Prelude.{◌==◌, nat_lt, cond, slice_index, Option, Some, None}
use Rattle.std.specs.Int.{is_in_range}
use Rattle.std.specs.Option.{unwrap_or}
use Rattle.std.specs.Str.{IsUtf8, is_utf8}
use Rattle.std.specs.Str.Lossy.{utf8_lossy, utf8_valid_len, valid_len_up_to, after_first_chunk, replacement_bytes, utf8_lossy_within, utf8_invalid_len, utf8_error_len, error_len_of_some, error_len_after_one, error_len_after_two, second_byte_min, second_byte_max}
use Rattle.std.proofs.lemmas.Bool.{eqb-true, eq-eqb}
use Rattle.std.proofs.lemmas.List.{length-drop, nil_from_length}
use Rattle.std.proofs.lemmas.Str.{IsUtf8-nil, IsUtf8-append, IsUtf8-from_is_utf8, utf8_valid_len_le}
use Rattle.std.proofs.Math.Seq.{take-length}

no_true : false ≡ true → ⊥
no_true e = absurd cc

either_way : {A : Type 0} (P : A → Type 0) (test : Bool) (x y : A) → P x → P y → P (cond test x y)
either_way P true x y p q = p
either_way P false x y p q = q

valid_front : (bytes : List ℕ) (n : ℕ) → IsUtf8 (take (valid_len_up_to bytes n) bytes)
valid_front bytes zero = IsUtf8-nil
valid_front bytes (suc n) = by_test (is_utf8 (take (suc n) bytes)) (IsUtf8-from_is_utf8 (take (suc n) bytes)) (valid_front bytes n)
  where
    by_test : (test : Bool) → (test ≡ true → IsUtf8 (take (suc n) bytes)) → IsUtf8 (take (valid_len_up_to bytes n) bytes)
        → IsUtf8 (take (cond test (suc n) (valid_len_up_to bytes n)) bytes)
    by_test true holds below = holds refl
    by_test false holds below = below

front_is_utf8 : (bytes : List ℕ) → IsUtf8 (take (utf8_valid_len bytes) bytes)
unfolding utf8_valid_len
front_is_utf8 bytes = valid_front bytes (length bytes)

whole_is_utf8 : (bytes : List ℕ) → utf8_valid_len bytes ≡ length bytes → IsUtf8 bytes
whole_is_utf8 bytes whole = subst IsUtf8 (ap (λ n. take n bytes) whole ∙ take-length bytes) (front_is_utf8 bytes)

replacement_is_utf8 : IsUtf8 replacement_bytes
unfolding lib.Utf8.encode
replacement_is_utf8 = (0xFFFD ∷ [], (refl, refl))

-- an invalid sequence has a byte
some_invalid : (bytes : List ℕ) → 0 < length bytes → 0 < utf8_invalid_len bytes
unfolding utf8_error_len
some_invalid bytes some =
    let P : Option ℕ → Type 0 = λ o. 0 < unwrap_or o (length bytes) in
    let one : P (Some 1) = omega arith in
    let two : P (Some 2) = omega arith in
    let three : P (Some 3) = omega arith in
    let first = slice_index bytes 0 in
    let third = is_in_range 0x80 0xBF (slice_index bytes 2) in
    let after_three = either_way P (nat_lt (length bytes) 4) None (Some 3) some three in
    let after_two : P (error_len_after_two bytes) =
    either_way P (nat_lt (length bytes) 3) None (cond third (cond (nat_lt (length bytes) 4) None (Some 3)) (Some 2)) some
    (either_way P third (cond (nat_lt (length bytes) 4) None (Some 3)) (Some 2) after_three two) in
    let second = is_in_range (second_byte_min first) (second_byte_max first) (slice_index bytes 1) in
    let after_one : P (error_len_after_one bytes) =
    either_way P (nat_lt (length bytes) 2) None (cond second (error_len_after_two bytes) (Some 1)) some
    (either_way P second (error_len_after_two bytes) (Some 1) after_two one) in
    either_way P (length bytes == 0) None (error_len_of_some bytes) some
    (either_way P (is_in_range 0xC2 0xF4 first) (error_len_after_one bytes) (Some 1) after_one one)

rest_is_shorter : (bytes : List ℕ) → (utf8_valid_len bytes ≡ length bytes → ⊥) → length (after_first_chunk bytes) < length bytes
rest_is_shorter bytes faulty =
    let n = utf8_valid_len bytes in
    let within = utf8_valid_len_le bytes in
    let invalid = some_invalid (drop n bytes) (omega (arith, faulty, within, length-drop n bytes)) in
    omega (arith, faulty, within, invalid, length-drop (n + utf8_invalid_len (drop n bytes)) bytes)

lossy_within : (k : ℕ) (bytes : List ℕ) → length bytes ≤ k → IsUtf8 (utf8_lossy_within k bytes)
lossy_within zero bytes short = subst IsUtf8 (sym (nil_from_length bytes (omega (arith, short)))) IsUtf8-nil
lossy_within (suc k) bytes short =
    by_test (utf8_valid_len bytes == length bytes) refl (λ less. lossy_within k (after_first_chunk bytes) (omega (arith, less, short)))
  where
    by_test : (test : Bool) → (utf8_valid_len bytes == length bytes) ≡ test
        → (length (after_first_chunk bytes) < length bytes → IsUtf8 (utf8_lossy_within k (after_first_chunk bytes)))
        → IsUtf8 (cond test bytes (take (utf8_valid_len bytes) bytes ++ (replacement_bytes ++ utf8_lossy_within k (after_first_chunk bytes))))
    by_test true same rest = whole_is_utf8 bytes (eqb-true _ _ same)
    by_test false other rest =
        IsUtf8-append _ _ (front_is_utf8 bytes)
        (IsUtf8-append replacement_bytes _ replacement_is_utf8 (rest (rest_is_shorter bytes (λ e. no_true (sym other ∙ eq-eqb _ _ e)))))

pub lossy_is_utf8 : (bytes : List ℕ) → IsUtf8 (utf8_lossy bytes)
unfolding utf8_lossy
lossy_is_utf8 bytes = lossy_within (length bytes) bytes (omega arith)
