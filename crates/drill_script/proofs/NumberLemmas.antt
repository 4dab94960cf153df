-- Numbers in decimal digits, without a sign and without a zero at their front.
use Rattle.std.proofs.Common.{◌≡◌, ◌↔◌, ℕ, ◌^◌, ◌<◌, ◌≤◌, Bool, true, false, cond, eqb, ◌==◌, ◌≢◌, ◌⊎◌, eqb-true, List, [], ◌∷◌, drop, length, get_or, Option, Some, None, Result, Ok, Err, inl, inr, refl, sym, ap, subst, ◌∙◌, arith}
use Rattle.std.specs.Fmt.{decimal}
use Rattle.std.specs.Char.{IsNotAsciiDigit}
use Rattle.std.specs.Int.{IsInRange}
use Rattle.std.specs.Str.Parse.{AllDigits, IsNumeral, ParsesUnsigned, digits_value, without_leading_plus}
use Rattle.std.proofs.lemmas.Bool.{cases_lt, ne_eqb}
use Rattle.std.proofs.lemmas.Fmt.{decimal-digits_value, decimal_digit, decimal_is_IsNumeral, first_decimal, parse-decimal}
use Rattle.std.proofs.lemmas.Str.Parse.{numerals_by_value, tells_digits}

-- digits begin with one
front_digit : (ds : List ℕ) → 0 < length ds → AllDigits 10 ds → IsInRange 48 57 (get_or ds 0 0)
front_digit [] some digits = absurd (omega arith)
front_digit (c ∷ cs) some digits = (tells_digits.parts c cs digits).0

-- the digits of a number are some, and the first is one
pub decimal_front : (n : ℕ) → n < 2 ^ 64 → (0 < length (decimal n)) × IsInRange 48 57 (get_or (decimal n) 0 0)
decimal_front n small = let is : IsNumeral 10 (decimal n) = (decimal_is_IsNumeral n small).0 in (is.0, front_digit (decimal n) is.0 is.1)

-- where the first is a zero it is the only one
pub decimal_zero : (n : ℕ) → n < 2 ^ 64 → get_or (decimal n) 0 0 ≡ 48 → length (decimal n) ≤ 1
decimal_zero n small zero = elim (cases_lt 0 n) [
  | inl above ↦ let first = first_decimal n above small in absurd (omega arith)
  | inr below ↦ let none : n ≡ 0 = omega arith in
      subst (λ (m : ℕ). length (decimal m) ≤ 1) (sym none) (let one : length (decimal 0) ≡ 1 = ap length (decimal_digit 0 (omega arith)) in omega arith)
]

-- a text that spells no number
pub no_number : (text : List ℕ) (k : ℕ) → ((n : ℕ) → text ≡ decimal n → n < 2 ^ k → ⊥) → (n : ℕ) → (None ≡ Some n) ↔ ((text ≡ decimal n) × (n < 2 ^ k))
no_number text k none n = ((λ e. absurd cc), (λ h. absurd (none n h.0 h.1)))

-- a text that spells a number
pub one_number : (text : List ℕ) (k m : ℕ) → text ≡ decimal m → m < 2 ^ k → ((n : ℕ) → text ≡ decimal n → n < 2 ^ k → n ≡ m) → (n : ℕ) → (Some m ≡ Some n) ↔ ((text ≡ decimal n) × (n < 2 ^ k))
one_number text k m is small one n = (
  (λ e. let same : m ≡ n = cc in subst (λ (j : ℕ). (text ≡ decimal j) × (j < 2 ^ k)) same (is, small)),
  (λ h. ap Some (sym (one n h.0 h.1))),
)

-- without a digit at its front a text spells no number
pub no_front : (text : List ℕ) → (0 < length text → IsInRange 48 57 (get_or text 0 0) → ⊥) → (n : ℕ) → text ≡ decimal n → n < 2 ^ 64 → ⊥
no_front text none n is small =
    let front = decimal_front n small in
    none (subst (λ (t : List ℕ). 0 < length t) (sym is) front.0) (subst (λ (t : List ℕ). IsInRange 48 57 (get_or t 0 0)) (sym is) front.1)

-- nor does it with a zero before other digits
pub no_zero : (text : List ℕ) → get_or text 0 0 ≡ 48 → 1 < length text → (n : ℕ) → text ≡ decimal n → n < 2 ^ 64 → ⊥
no_zero text zero long n is small =
    let few : length (decimal n) ≤ 1 = decimal_zero n small (sym (ap (λ (t : List ℕ). get_or t 0 0) is) ∙ zero) in
    let same : length text ≡ length (decimal n) = ap length is in
    omega arith

-- a text without a plus is read as it is
unsigned : (text : List ℕ) → IsInRange 48 57 (get_or text 0 0) → without_leading_plus text ≡ text
unsigned [] digit = refl
unsigned (c ∷ cs) digit = let apart : eqb c 43 ≡ false = ne_eqb c 43 (λ e. omega arith) in ap (λ (b : Bool). drop (cond b 1 0) (c ∷ cs)) apart

-- some bytes, where there aren't none
some_bytes : (bytes : List ℕ) → false ≡ (length bytes == 0) → 0 < length bytes
some_bytes [] some = absurd cc
some_bytes (b ∷ bytes) some = omega arith

-- a zero at the front stands alone
lone_zero : (bytes : List ℕ) → ((get_or bytes 0 0 ≡ 48) × (length bytes ≤ 1)) ⊎ (get_or bytes 0 0 ≢ 48) → get_or bytes 0 0 ≡ 48 → length bytes ≤ 1
lone_zero bytes (inl lone) zero = lone.1
lone_zero bytes (inr other) zero = absurd (other zero)

-- What `parse` reads of a text that begins with a digit, but not with a zero before others, is the number that it spells.
pub parsed_number : (bytes text : List ℕ) (m : ℕ) → bytes ≡ text → ParsesUnsigned {E = ℕ} 64 10 text (Ok m) → false ≡ (length bytes == 0) → IsInRange 48 57 (get_or bytes 0 0)
    → ((get_or bytes 0 0 ≡ 48) × (length bytes ≤ 1)) ⊎ (get_or bytes 0 0 ≢ 48) → (n : ℕ) → (Some m ≡ Some n) ↔ ((text ≡ decimal n) × (n < 2 ^ 64))
parsed_number bytes text m same parses some digit lone =
    let front : IsInRange 48 57 (get_or text 0 0) = subst (λ (t : List ℕ). IsInRange 48 57 (get_or t 0 0)) same digit in
    let filled : 0 < length text = subst (λ (t : List ℕ). 0 < length t) same (some_bytes bytes some) in
    let lead : get_or text 0 0 ≡ 48 → length text ≤ 1 = subst (λ (t : List ℕ). get_or t 0 0 ≡ 48 → length t ≤ 1) same (lone_zero bytes lone) in
    let is : (IsNumeral 10 text × (digits_value 10 text < 2 ^ 64)) × (m ≡ digits_value 10 text) =
    subst (λ (t : List ℕ). (IsNumeral 10 t × (digits_value 10 t < 2 ^ 64)) × (m ≡ digits_value 10 t)) (unsigned text front) parses in
    let back : decimal (digits_value 10 text) ≡ text = decimal-digits_value (numerals_by_value (AllDigits 10) tells_digits) text is.0.0.1 filled (λ e. let l : length text ≤ 1 = lead e in omega arith) is.0.1 in
    let spelled : text ≡ decimal m = sym back ∙ ap decimal (sym is.1) in
    let small : m < 2 ^ 64 = omega (arith, is.0.1, is.1) in
    one_number text 64 m spelled small (λ n h low. let ok : ◌≡◌ {A = Result ℕ ℕ} (Ok m) (Ok n) = parse-decimal {E = ℕ} 64 n text (Ok m) low low h parses in cc)

-- what it doesn't read spells none
pub unparsed : (text : List ℕ) → ParsesUnsigned {E = ℕ} 64 10 text (Err 0) → (n : ℕ) → text ≡ decimal n → n < 2 ^ 64 → ⊥
unparsed text parses n is small = let ok : ◌≡◌ {A = Result ℕ ℕ} (Err 0) (Ok n) = parse-decimal {E = ℕ} 64 n text (Err 0) small small is parses in absurd cc

-- no bytes spell no number
pub empty_number : (bytes text : List ℕ) (empty : Bool) → bytes ≡ text → empty ≡ (length bytes == 0) → empty ≡ true → (n : ℕ) → text ≡ decimal n → n < 2 ^ 64 → ⊥
empty_number bytes text empty same is holds = no_front text (λ some digit.
    let none : length bytes ≡ 0 = eqb-true (length bytes) 0 (sym is ∙ holds) in
    let size : length bytes ≡ length text = ap length same in
    omega arith)

-- nor do bytes that begin with no digit
pub other_front : (bytes text : List ℕ) → bytes ≡ text → IsNotAsciiDigit (get_or bytes 0 0) → (n : ℕ) → text ≡ decimal n → n < 2 ^ 64 → ⊥
other_front bytes text same other = no_front text (λ some digit. apart (get_or bytes 0 0) other (subst (λ (t : List ℕ). IsInRange 48 57 (get_or t 0 0)) (sym same) digit))
  where
    apart : (b : ℕ) → IsNotAsciiDigit b → IsInRange 48 57 b → ⊥
    apart b (inl low) digit = omega arith
    apart b (inr high) digit = omega arith

-- ---- numbers below 256

-- what isn't a number isn't one below 256
pub no_byte : (text : List ℕ) → ((n : ℕ) → (None ≡ Some n) ↔ ((text ≡ decimal n) × (n < 2 ^ 64))) → (n : ℕ) → (None ≡ Some n) ↔ ((text ≡ decimal n) × (n < 2 ^ 8))
no_byte text none = no_number text 8 (λ n is low. let bad : ◌≡◌ {A = Option ℕ} None (Some n) = (none n).1 (is, (omega arith)) in absurd cc)

-- nor is one above 255
pub far_byte : (text : List ℕ) (m : ℕ) → ((n : ℕ) → (Some m ≡ Some n) ↔ ((text ≡ decimal n) × (n < 2 ^ 64))) → 255 < m → (n : ℕ) → (None ≡ Some n) ↔ ((text ≡ decimal n) × (n < 2 ^ 8))
far_byte text m one far = no_number text 8 (λ n is low. let same : Some m ≡ Some n = (one n).1 (is, (omega arith)) in let equal : m ≡ n = cc in omega arith)

-- and one below is that number
pub near_byte : (text : List ℕ) (m : ℕ) → ((n : ℕ) → (Some m ≡ Some n) ↔ ((text ≡ decimal n) × (n < 2 ^ 64))) → m ≤ 255 → (n : ℕ) → (Some m ≡ Some n) ↔ ((text ≡ decimal n) × (n < 2 ^ 8))
near_byte text m one near = one_number text 8 m ((one m).0 refl).0 (omega arith) (λ n is low. let same : Some m ≡ Some n = (one n).1 (is, (omega arith)) in cc)
