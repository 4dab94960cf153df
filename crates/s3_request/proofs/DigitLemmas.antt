-- Digits, and what `parse` makes of them.
use Rattle.std.proofs.Common.{◌≡◌, ℕ, ◌<◌, ◌^◌, List, length, get_or, true, false, sym, ap, ◌∙◌, Bool, refl}
use Rattle.s3_request.specs.Arguments.{number_in}
use Rattle.std.specs.Prelude.{Result, Some, None, cond, nat_lt, ◌&&◌}
use Rattle.std.specs.Int.{IsInRange}
use Rattle.std.specs.Result.{OkIff}
use Rattle.std.specs.Str.{IsUtf8, all_ascii_digits}
use Rattle.std.specs.Str.Parse.{digits_value, ParsesUnsigned}
use Rattle.std.proofs.lemmas.Bool.{false_from_ne_true, lt-ltb, ltb-true, and_from}
use Rattle.std.proofs.lemmas.Fmt.{IsAscii-from_digits}
use Rattle.std.proofs.lemmas.Str.{IsUtf8-from_ascii}
use Rattle.std.proofs.lemmas.Str.Parse.{IsNumeralModel, numerals_by_value, tells_all_ascii_digits, tells_by_index, digit_at, parse_digits}

own : IsNumeralModel (λ ds. all_ascii_digits ds ≡ true) (digits_value 10)
own = numerals_by_value _ tells_all_ascii_digits

by_index : IsNumeralModel (λ ds. (i : ℕ) → i < length ds → IsInRange 48 57 (get_or ds i 0)) (digits_value 10)
by_index = numerals_by_value _ tells_by_index

pub all_digits : (ds : List ℕ) → ((i : ℕ) → i < length ds → IsInRange 48 57 (get_or ds i 0)) → all_ascii_digits ds ≡ true
all_digits ds each = own.from ds (by_index.to ds each)

pub not_digits : (ds : List ℕ) (i : ℕ) → i < length ds → (IsInRange 48 57 (get_or ds i 0) → ⊥) → all_ascii_digits ds ≡ false
not_digits ds i inside never = false_from_ne_true (all_ascii_digits ds) (λ holds. never (digit_at ds i (own.to ds holds) inside))

pub digits_utf8 : (ds : List ℕ) → all_ascii_digits ds ≡ true → IsUtf8 ds
digits_utf8 ds holds = IsUtf8-from_ascii ds (IsAscii-from_digits ds (own.to ds holds))

pub parsed_digits : {E : Type 0} → (ds : List ℕ) (r : Result ℕ E) → ParsesUnsigned 64 10 ds r → all_ascii_digits ds ≡ true
    → OkIff r ((0 < length ds) × (digits_value 10 ds < 2 ^ 64)) (digits_value 10 ds)
parsed_digits ds r parses holds = parse_digits own 64 ds r parses holds

pub number_ok : (ds : List ℕ) (n : ℕ) → ((0 < length ds) × (digits_value 10 ds < 2 ^ 64)) × (n ≡ digits_value 10 ds) → Some n ≡ number_in ds
number_ok ds n is =
    sym (ap (λ b. cond b (Some (digits_value 10 ds)) None)
    (and_from (nat_lt 0 (length ds)) (nat_lt (digits_value 10 ds) (2 ^ 64)) (lt-ltb 0 (length ds) is.0.0) (lt-ltb (digits_value 10 ds) (2 ^ 64) is.0.1))
    ∙ ap Some (sym is.1))

both_true : (a b : Bool) → (a && b) ≡ true → (a ≡ true) × (b ≡ true)
both_true true b holds = (refl, holds)
both_true false b holds = absurd cc

pub number_err : (ds : List ℕ) → (((0 < length ds) × (digits_value 10 ds < 2 ^ 64)) → ⊥) → None ≡ number_in ds
number_err ds never =
    sym (ap (λ b. cond b (Some (digits_value 10 ds)) None)
    (false_from_ne_true (nat_lt 0 (length ds) && nat_lt (digits_value 10 ds) (2 ^ 64))
    (λ holds. let parts = both_true (nat_lt 0 (length ds)) (nat_lt (digits_value 10 ds) (2 ^ 64)) holds in
    never (ltb-true 0 (length ds) parts.0, ltb-true (digits_value 10 ds) (2 ^ 64) parts.1))))
