-- Lines of Content-Length.
use Rattle.std.proofs.Common.{◌≡◌, ℕ, ◌+◌, ◌-◌, ◌*◌, ◌<◌, ◌≤◌, ◌^◌, List, length, take, get_or, refl, sym, ap, ◌∙◌, subst, arith, inl, inr}
use Rattle.std.specs.Prelude.{◌↔◌, IsTrue, Bool, false}
use Rattle.std.specs.Char.{digit_value}
use Rattle.std.specs.Str.Parse.{digits_value}
use Rattle.std.proofs.lemmas.Bool.{cond-true, cond-false, lt-ltb, le-ltb, cases_order}
use Rattle.std.proofs.lemmas.Int.Digits.{digits_value_more}
use Rattle.std.proofs.lemmas.Str.Parse.{digits_value-take-le}
use Rattle.http_wire.proofs.LimitLemmas.{no_iff}
use Rattle.http_wire.specs.Names.{Lines, line, IsNamed, IsFirst, NoneNamed}
use Rattle.http_wire.specs.Framing.{IsDigit, ReadsLength, SaysLength, SaysNoLength, content_length}

digit_is : (b : ℕ) → IsDigit b → digit_value b ≡ b - 48
digit_is b digit = cond-false _ _ _ (le-ltb b 48 digit.0) ∙ cond-true _ _ _ (lt-ltb b 58 (omega (arith, digit.1)))

-- the number that one digit more writes
pub digit_more : (value : List ℕ) (i number : ℕ) → i < length value → IsDigit (get_or value i 0)
    → number ≡ digits_value 10 (take i value)
    → number * 10 + (get_or value i 0 - 48) ≡ digits_value 10 (take (i + 1) value)
digit_more value i number inside digit so_far =
    ap (λ (n : ℕ). n * 10 + (get_or value i 0 - 48)) so_far
    ∙ ap (λ (n : ℕ). digits_value 10 (take i value) * 10 + n) (sym (digit_is (get_or value i 0) digit))
    ∙ sym (digits_value_more 10 value i inside)

-- a front that writes too large a number is in no length
pub too_large : (value : List ℕ) (i number n : ℕ) → i < length value → number ≡ digits_value 10 (take i value)
    → (IsDigit (get_or value i 0) → 2 ^ 64 ≤ number * 10 + (get_or value i 0 - 48)) → ReadsLength value n → ⊥
too_large value i number n inside so_far large reads =
    let digit = reads.digits i inside in
    omega (arith, large digit, digit_more value i number inside digit so_far, digits_value-take-le 10 value (i + 1) (omega arith), reads.number, reads.fits)

-- a line that says no number
pub no_number : (lines : Lines) (i : ℕ) → IsFirst content_length lines i
    → ((n : ℕ) → ReadsLength (line lines i).1 n → ⊥) → SaysNoLength lines
no_number lines i first none n says = none n (says.each i first.inside first.named)

same_number : (value : List ℕ) (m n : ℕ) → ReadsLength value m → ReadsLength value n → m ≡ n
same_number value m n first second = sym first.number ∙ second.number

-- two lines that say different numbers
pub two_numbers : (lines : Lines) (i k m : ℕ) → IsFirst content_length lines i → ReadsLength (line lines i).1 m
    → k < length lines → ((IsNamed content_length (line lines k).0 → ReadsLength (line lines k).1 m) → ⊥) → SaysNoLength lines
two_numbers lines i k m first reads inside other n says =
    let same = same_number (line lines i).1 n m (says.each i first.inside first.named) reads in
    other (λ named. subst (ReadsLength (line lines k).1) same (says.each k inside named))

-- all lines say the number of the first
pub all_say : (lines : Lines) (i m : ℕ) → IsFirst content_length lines i
    → ((k : ℕ) → k < length lines → IsNamed content_length (line lines k).0 → ReadsLength (line lines k).1 m)
    → SaysLength lines m
all_say lines i m first each = record { each = each; missing = λ none. absurd (none i first.inside first.named) }

-- no line says anything
pub none_say : (lines : Lines) → NoneNamed content_length lines → SaysLength lines 0
none_say lines none = record { each = λ k inside named. absurd (none k inside named); missing = λ _. refl }

-- a name has one first line
pub one_first : (name : List ℕ) (lines : Lines) (i k : ℕ) → IsFirst name lines i → IsFirst name lines k → i ≡ k
one_first name lines i k first second =
    elim (cases_order i k) [
      | inl same ↦ same
      | inr (inl below) ↦ absurd (second.first i below first.named)
      | inr (inr above) ↦ absurd (first.first k above second.named)
    ]

-- what the first line of a name meets, some first line meets
pub first_meets : (name : List ℕ) (lines : Lines) (P : List ℕ → Type 0) (i : ℕ) → IsFirst name lines i
    → (k : ℕ) × IsFirst name lines k × P (line lines k).1 → P (line lines i).1
first_meets name lines P i first some =
    subst (λ (k : ℕ). P (line lines k).1) (one_first name lines some.0 i some.1 first) some.2

-- no line, no first line
pub none_first : (name : List ℕ) (lines : Lines) (i : ℕ) → NoneNamed name lines → IsFirst name lines i → ⊥
none_first name lines i none first = none i first.inside first.named

-- the first line of a name meets it exactly where some first line does
pub meets_iff : (name : List ℕ) (lines : Lines) (P : List ℕ → Type 0) (i : ℕ) (r : Bool) → IsFirst name lines i
    → (IsTrue r ↔ P (line lines i).1) → IsTrue r ↔ ((k : ℕ) × IsFirst name lines k × P (line lines k).1)
meets_iff name lines P i r first both =
    (λ yes. (i, first, both.0 yes), λ some. both.1 (first_meets name lines P i first some))

-- without a line of the name, none meets it
pub none_meets : (name : List ℕ) (lines : Lines) (P : List ℕ → Type 0) → NoneNamed name lines
    → IsTrue false ↔ ((k : ℕ) × IsFirst name lines k × P (line lines k).1)
none_meets name lines P none = no_iff (λ some. none_first name lines some.0 none some.1)
