-- The first byte of a value.
use Rattle.std.proofs.Common.{◌≡◌, refl, ℕ, ◌+◌, ◌*◌, ◌-◌, ◌<◌, ◌≤◌, true, false, eqb, List, [], ◌∷◌, length, take, drop, get_or, Result, Err, arith}
use Rattle.std.specs.List.{AllPass}
use Rattle.std.specs.Result.{IsOk}
use Rattle.std.proofs.lemmas.Bool.{ne_eqb}
use Rattle.std.proofs.lemmas.List.{length-take, drop_more, take_more, get_or-take, get_or_default}
use Rattle.hex.specs.Hex.{is_hex_digit, decode_sized}
use Rattle.hex.specs.declared.error.FromHexError.{FromHexError}
use Rattle.hex.proofs.HexLemmas.{IsOk-decode_sized}
use Rattle.s3_docs.specs.Machine.{Holder, Quotation, PartNumber, ETag, Bare, Awaiting, Digits, Hex, behind_hex}
use Rattle.s3_docs.specs.Outcomes.{outcome}
use Rattle.s3_docs.specs.Reads.{NoBlank}

pub awaiting_number : (holder : Holder) (text : List ℕ) → NoBlank text → outcome (Awaiting holder PartNumber) text ≡ outcome (Digits holder 0 0) text
awaiting_number holder [] no_blank = refl
awaiting_number holder (b ∷ text) no_blank =
    let e : 0 + (b - 48) ≡ b - 48 = omega arith in
    rw (no_blank, e) refl

-- one more hex digit
pub more_hex : (holder : Holder) (quotation : Quotation) (text : List ℕ) (i : ℕ) → i < 32 → i < length text
    → is_hex_digit (get_or text i 0) ≡ true
    → outcome (behind_hex holder quotation (take i text)) (drop i text) ≡ outcome (behind_hex holder quotation (take (i + 1) text)) (drop (i + 1) text)
more_hex holder quotation text i below within hex =
    let short : length (take i text) ≡ i = rw length-take (omega arith) in
    let other : eqb (length (take i text)) 32 ≡ false = rw short (ne_eqb i 32 (λ e. omega (arith, e))) in
    rw (drop_more text i 0 within, other, hex, take_more text i 0 within) refl

-- 32 hex digits are the text of 16 bytes
pub hex_decodes : (text : List ℕ) → 32 ≤ length text → ((k : ℕ) → k < 32 → is_hex_digit (get_or text k 0) ≡ true)
    → (fault : FromHexError) → decode_sized (take 32 text) 16 ≡ Err fault → ⊥
hex_decodes text long digits fault wrong =
    let size : length (take 32 text) ≡ 2 * 16 = rw length-take (omega arith) in
    let pass : AllPass is_hex_digit (take 32 text) = λ k d below.
    let small : k < 32 = omega (arith, size) in
    rw (get_or-take 32 text k d small, get_or_default text k d 0 (omega arith)) (digits k small) in
    let ok = (IsOk-decode_sized (take 32 text) 16).1 (size, pass) in
    ok_not_err (decode_sized (take 32 text) 16) fault ok wrong
  where
    ok_not_err : (r : Result (List ℕ) FromHexError) (e : FromHexError) → IsOk r → r ≡ Err e → ⊥
    ok_not_err r e ok wrong = grind arith

-- an ETag without quotes
pub awaiting_hex : (holder : Holder) (text : List ℕ) → NoBlank text → 1 ≤ length text → is_hex_digit (get_or text 0 0) ≡ true
    → outcome (Awaiting holder ETag) text ≡ outcome (Hex holder Bare []) text
awaiting_hex holder [] no_blank some hex = absurd (omega (arith, some))
awaiting_hex holder (b ∷ text) no_blank some hex = rw (no_blank, hex) refl
