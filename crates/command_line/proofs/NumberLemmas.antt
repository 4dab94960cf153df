-- The number that digits write.
use Rattle.std.proofs.Common.{◌≡◌, ◌↔◌, ℕ, ◌+◌, ◌-◌, ◌*◌, ◌^◌, ◌<◌, ◌≤◌, List, [], ◌∷◌, All, get_or, length, take, drop, Option, Some, None, ◌⊎◌, inl, inr, option_map, refl, sym, ap, subst, ◌∙◌, arith}
use Rattle.std.specs.Borrow.{Bor}
use Rattle.std.proofs.lemmas.Bool.{cases_lt}
use Rattle.std.proofs.lemmas.List.{drop_more, drop_all, take_all}
use Rattle.command_line.specs.Words.{IsDigit, IsNumber, IsNumberIn, number_behind}
use Rattle.command_line.specs.Values.{IsNumberOr}

-- digits behind a number write no less
pub grows : (n : ℕ) (bytes : List ℕ) → n ≤ number_behind n bytes
grows n [] = omega arith
grows n (byte ∷ bytes) = omega (arith, grows (n * 10 + (byte - 48)) bytes)

-- the number up to a place, and one digit more
pub one_more : (bytes : List ℕ) (i n : ℕ) → i < length bytes → number_behind n (drop i bytes) ≡ number_behind (n * 10 + (get_or bytes i 0 - 48)) (drop (i + 1) bytes)
one_more bytes i n low = ap (number_behind n) (drop_more bytes i 0 low)

-- the number at the end
pub at_end : (bytes : List ℕ) (i n : ℕ) → length bytes ≤ i → number_behind n (drop i bytes) ≡ n
at_end bytes i n all = ap (number_behind n) (drop_all i bytes all)

-- a text is no number
pub no_number : (text : List ℕ) → ((n : ℕ) → IsNumber text n → n < 2 ^ 64 → ⊥) → (n : ℕ) → (None ≡ Some n) ↔ (IsNumber text n × (n < 2 ^ 64))
no_number text none n = ((λ e. absurd cc), (λ h. absurd (none n h.0 h.1)))

-- a text is this number
pub one_number : (text : List ℕ) (m : ℕ) → IsNumber text m → m < 2 ^ 64 → (n : ℕ) → (Some m ≡ Some n) ↔ (IsNumber text n × (n < 2 ^ 64))
one_number text m is low n = (
  (λ e. let same : m ≡ n = cc in subst (λ (k : ℕ). IsNumber text k × (k < 2 ^ 64)) same (is, low)),
  (λ h. let same : m ≡ n = is.is ∙ sym (h.0).is in ap Some same),
)

-- a number whose digits up to a place and one more come to too much is too large
pub too_large : (text bytes : List ℕ) (i m : ℕ) → bytes ≡ text → i < length bytes → number_behind m (drop i bytes) ≡ number_behind 0 bytes → 2 ^ 64 ≤ m * 10 + (get_or bytes i 0 - 48)
    → (n : ℕ) → IsNumber text n → n < 2 ^ 64 → ⊥
too_large text bytes i m same low so much n is small =
    let more = grows (m * 10 + (get_or bytes i 0 - 48)) (drop (i + 1) bytes) in
    let step = one_more bytes i m low in
    let all : n ≡ number_behind 0 bytes = is.is ∙ ap (number_behind 0) (sym same) in
    omega arith

-- ---- a number from one to another

-- a number between, or the usual one, lies between
pub within : (least most usual : ℕ) (value : Option (List ℕ)) (n : ℕ) → least ≤ usual → usual ≤ most → IsNumberOr least most usual value n → (least ≤ n) × (n ≤ most)
within least most usual None n low high is = (omega (arith, is), omega (arith, is))
within least most usual (Some text) n low high is = (is.above, is.below)

-- one value is one number at most
pub same_number : (least most usual : ℕ) (value : Option (List ℕ)) (m n : ℕ) → IsNumberOr least most usual value m → IsNumberOr least most usual value n → m ≡ n
same_number least most usual None m n a b = a ∙ sym b
same_number least most usual (Some text) m n a b = (a.number).is ∙ sym (b.number).is

-- what isn't below is at least as large
pub not_below : (a b : ℕ) → (a < b → ⊥) → b ≤ a
not_below a b apart = elim (cases_lt a b) [ inl low ↦ absurd (apart low) | inr high ↦ high ]

-- all of a text was read
pub all_read : (text bytes : List ℕ) (i m : ℕ) → bytes ≡ text → length bytes ≤ i → All IsDigit (take i bytes) → number_behind m (drop i bytes) ≡ number_behind 0 bytes → 1 ≤ length text → length text ≤ 20 → m < 2 ^ 64
    → (n : ℕ) → (Some m ≡ Some n) ↔ (IsNumber text n × (n < 2 ^ 64))
all_read text bytes i m same end digits is some few small =
    let digits_all : All IsDigit bytes = subst (λ (xs : List ℕ). All IsDigit xs) (take_all i bytes end) digits in
    one_number text m (record {
      some = some;
      few = few;
      digits = subst (λ (xs : List ℕ). All IsDigit xs) same digits_all;
      is = sym (at_end bytes i m end) ∙ (is ∙ ap (number_behind 0) same);
    }) small

-- ---- a text that is a number from one to another

-- a text that is no number is none between
pub none_between : (least most usual : ℕ) (value : Option (Bor (List ℕ))) (text : Bor (List ℕ)) → value ≡ Some text → most < 2 ^ 64 → ((n : ℕ) → (None ≡ Some n) ↔ (IsNumber text.now n × (n < 2 ^ 64)))
    → (n : ℕ) → (None ≡ Some n) ↔ IsNumberOr least most usual (option_map (λ (t : Bor (List ℕ)). t.now) value) n
none_between least most usual value text is small none n = rw is ((λ e. absurd cc), (λ h. (none n).1 (h.number, (let low = h.below in omega arith))))

-- nor is a number outside
pub outside : (least most usual m : ℕ) (value : Option (Bor (List ℕ))) (text : Bor (List ℕ)) → value ≡ Some text → ((n : ℕ) → (Some m ≡ Some n) ↔ (IsNumber text.now n × (n < 2 ^ 64))) → (m < least) ⊎ (most < m)
    → (n : ℕ) → (None ≡ Some n) ↔ IsNumberOr least most usual (option_map (λ (t : Bor (List ℕ)). t.now) value) n
outside least most usual m value text is number bad n = rw is ((λ e. absurd cc), (λ h. absurd (far h bad)))
  where
    far : IsNumberIn least most text.now n → (m < least) ⊎ (most < m) → ⊥
    far h (inl low) = let same : m ≡ n = ((number m).0 refl).0.is ∙ sym (h.number).is in let above = h.above in omega arith
    far h (inr high) = let same : m ≡ n = ((number m).0 refl).0.is ∙ sym (h.number).is in let below = h.below in omega arith

-- and one inside is the number
pub inside : (least most usual m : ℕ) (value : Option (Bor (List ℕ))) (text : Bor (List ℕ)) → value ≡ Some text → ((n : ℕ) → (Some m ≡ Some n) ↔ (IsNumber text.now n × (n < 2 ^ 64))) → least ≤ m → m ≤ most
    → (n : ℕ) → (Some m ≡ Some n) ↔ IsNumberOr least most usual (option_map (λ (t : Bor (List ℕ)). t.now) value) n
inside least most usual m value text is number low high n = rw is (to, from)
  where
    to : Some m ≡ Some n → IsNumberIn least most text.now n
    to e = let same : m ≡ n = cc in subst (λ (k : ℕ). IsNumberIn least most text.now k) same (record { number = ((number m).0 refl).0; above = low; below = high })

    from : IsNumberIn least most text.now n → Some m ≡ Some n
    from h = ap Some (((number m).0 refl).0.is ∙ sym (h.number).is)
