-- Which drives are in a set, and how many.
use Rattle.std.proofs.Common.{◌≡◌, ◌≢◌, ◌⊎◌, ◌↔◌, ◌≤◌, ◌<◌, ◌+◌, ℕ, zero, suc, Bool, cond, [], ◌∷◌, ◌++◌, refl, ap, ◌∙◌, inl, inr, arith, nat_lt, bit_and, bit_or}
use Rattle.std.specs.Prelude.{◌^◌, count_by}
use Rattle.std.specs.Int.{IsBitSet, bit_at}
use Rattle.std.proofs.lemmas.Bool.Decides.{nat_tests}
use Rattle.std.specs.List.{range_with_len}
use Rattle.std.proofs.lemmas.Nat.{bit_set_by_shift}
use Rattle.std.proofs.lemmas.Nat.Bits.{bit_at_or, bit_at-lt, shr_and_one}
use Rattle.std.proofs.lemmas.List.Sums.{sum_by-append, sum_by-cons}
use Rattle.drive_base.specs.DriveSet.{is_in, count_in, HasAlso, AreInEither, LargeSetsMeet, SmallerSetsCountLess, OneMoreCountsOne, OthersAreTheRest}

-- a bit is set where it is 1
bit_is_set : (n k : ℕ) → (bit_at n k ≡ 1) ↔ IsBitSet n k
bit_is_set n k = let e = shr_and_one n k in let s = bit_set_by_shift n k in (λ h. s.0 (e ∙ h), λ set. omega (arith, s.1 set, e))

-- the bits of two masks together
pub either_bits : (one other : ℕ) → AreInEither one other (bit_or one other)
either_bits one other k =
    let at = bit_at_or one other k in
    let few = bit_at-lt one k in
    let few_other = bit_at-lt other k in
    let a = bit_is_set one k in
    let b = bit_is_set other k in
    let c = bit_is_set (bit_or one other) k in
    (λ set. grind (arith, c.1 set, a.0, b.0), λ set. elim set [ inl h ↦ c.0 (grind (arith, a.1 h)) | inr h ↦ c.0 (grind (arith, b.1 h)) ])

-- one number more at the end
range_more : (a n : ℕ) → range_with_len a (suc n) ≡ range_with_len a n ++ (a + n) ∷ []
range_more a zero = let e : a ≡ a + 0 = omega arith in ap (λ x. x ∷ []) e
range_more a (suc n) = let e : a + 1 + n ≡ a + suc n = omega arith in ap (λ xs. a ∷ xs) (range_more (a + 1) n ∙ ap (λ x. range_with_len (a + 1) n ++ x ∷ []) e)

-- what a test adds to a count
abbrev one_if : Bool → ℕ
one_if b = cond b 1 0

-- a number counts 1 where it isn't 0
counts : (v : ℕ) → ((one_if (nat_lt 0 v) ≡ 1) × (v ≢ 0)) ⊎ ((one_if (nat_lt 0 v) ≡ 0) × (v ≡ 0))
counts zero = inr (refl, refl)
counts (suc v) = inl (grind (arith, nat_tests), λ e. absurd (omega (arith, e)))

-- one drive more in the count
more_drives : (mask n : ℕ) → count_in mask (suc n) ≡ count_in mask n + one_if (is_in mask n)
more_drives mask n =
    let none : 0 + n ≡ n = omega arith in
    let all : count_in mask (suc n) ≡ count_by (is_in mask) (range_with_len 0 n ++ (0 + n) ∷ []) = ap (count_by (is_in mask)) (range_more 0 n) in
    let split : count_by (is_in mask) (range_with_len 0 n ++ (0 + n) ∷ []) ≡ count_in mask n + count_by (is_in mask) ((0 + n) ∷ []) =
    sum_by-append (λ k. one_if (is_in mask k)) (range_with_len 0 n) ((0 + n) ∷ []) in
    let last : count_by (is_in mask) ((0 + n) ∷ []) ≡ count_by (is_in mask) (n ∷ []) = ap (λ k. count_by (is_in mask) (k ∷ [])) none in
    let one : count_by (is_in mask) (n ∷ []) ≡ one_if (is_in mask n) = omega (arith, sum_by-cons (λ k. one_if (is_in mask k)) n []) in
    omega arith

-- the next drive is in the set and counts, or is not and does not
pub next_counts : (mask n : ℕ) → ((count_in mask (suc n) ≡ count_in mask n + 1) × IsBitSet mask n) ⊎ ((count_in mask (suc n) ≡ count_in mask n) × (IsBitSet mask n → ⊥))
next_counts mask n =
    let more = more_drives mask n in
    elim (counts (bit_and mask (2 ^ n))) [
      | inl yes_here ↦ let one = yes_here.0 in inl (omega arith, yes_here.1)
      | inr none ↦ let nothing = none.0 in inr (omega arith, λ set. set none.1)
    ]

-- the same, where it is known which
pub next_in : (mask n m : ℕ) → m ≡ n + 1 → IsBitSet mask n → count_in mask m ≡ count_in mask n + 1
next_in mask n m e set = elim (next_counts mask n) [ inl a ↦ let f : m ≡ suc n = omega arith in ap (count_in mask) f ∙ a.0 | inr b ↦ absurd (b.1 set) ]

pub next_not_in : (mask n m : ℕ) → m ≡ n + 1 → (IsBitSet mask n → ⊥) → count_in mask m ≡ count_in mask n
next_not_in mask n m e unset = elim (next_counts mask n) [ inl a ↦ absurd (unset a.1) | inr b ↦ let f : m ≡ suc n = omega arith in ap (count_in mask) f ∙ b.0 ]

-- two sets of more drives together than there are meet
pub large_sets_meet : LargeSetsMeet
large_sets_meet zero one other large = absurd (omega arith)
large_sets_meet (suc n) one other large =
    elim (next_counts one n) [
      | inl a ↦ elim (next_counts other n) [
        | inl b ↦ (n, omega arith, a.1, b.1)
        | inr b ↦ let ea = a.0 in let eb = b.0 in let found = large_sets_meet n one other (omega arith) in (found.0, omega (arith, found.1), found.2, found.3)
      ]
      | inr a ↦ let ea = a.0 in elim (next_counts other n) [
        | inl b ↦ let eb = b.0 in let found = large_sets_meet n one other (omega arith) in (found.0, omega (arith, found.1), found.2, found.3)
        | inr b ↦ let eb = b.0 in let found = large_sets_meet n one other (omega arith) in (found.0, omega (arith, found.1), found.2, found.3)
      ]
    ]

-- a set within another has no more drives
pub smaller_sets_count_less : SmallerSetsCountLess
smaller_sets_count_less zero one other within = omega arith
smaller_sets_count_less (suc n) one other within =
    let rest = smaller_sets_count_less n one other (λ k lt. within k (omega arith)) in
    elim (next_counts one n) [
      | inl a ↦ let ea = a.0 in elim (next_counts other n) [
        | inl b ↦ let eb = b.0 in omega arith
        | inr b ↦ absurd (b.1 (within n (omega arith) a.1))
      ]
      | inr a ↦ let ea = a.0 in elim (next_counts other n) [
        | inl b ↦ let eb = b.0 in omega arith
        | inr b ↦ let eb = b.0 in omega arith
      ]
    ]

-- sets that have the same of the drives count as many
same_counts : (n one other : ℕ) → ((k : ℕ) → k < n → IsBitSet one k ↔ IsBitSet other k) → count_in one n ≡ count_in other n
same_counts n one other same =
    let up = smaller_sets_count_less n one other (λ k lt. (same k lt).0) in
    let down = smaller_sets_count_less n other one (λ k lt. (same k lt).1) in
    omega arith

-- a drive but this one is in the new set as in the old
but_one : (old index new k : ℕ) → HasAlso old index new → k ≢ index → IsBitSet old k ↔ IsBitSet new k
but_one old index new k has other = (λ h. (has k).1 (inl h), λ h. elim ((has k).0 h) [ inl was ↦ was | inr is ↦ absurd (other is) ])

-- below a bound, or at it
le_cases : (i n : ℕ) → i ≤ n → (i ≡ n) ⊎ (i < n)
le_cases i n le = grind arith

-- one drive more counts one
pub one_more_counts_one : OneMoreCountsOne
one_more_counts_one zero old index new within fresh has = absurd (omega arith)
one_more_counts_one (suc n) old index new within fresh has =
    elim (le_cases index n (omega arith)) [
      | inl e ↦
          let below = same_counts n old new (λ k lt. but_one old index new k has (λ h. absurd (omega (arith, h)))) in
          elim (next_counts new n) [
            | inl a ↦ let ea = a.0 in elim (next_counts old n) [ inl b ↦ absurd (fresh (rw e b.1)) | inr b ↦ let eb = b.0 in omega arith ]
            | inr a ↦ absurd (a.1 ((has n).1 (inr (omega arith))))
          ]
      | inr lt ↦
          let rest = one_more_counts_one n old index new lt fresh has in
          let same = but_one old index new n has (λ h. absurd (omega (arith, h))) in
          elim (next_counts new n) [
            | inl a ↦ let ea = a.0 in elim (next_counts old n) [ inl b ↦ let eb = b.0 in omega arith | inr b ↦ absurd (b.1 (same.1 a.1)) ]
            | inr a ↦ let ea = a.0 in elim (next_counts old n) [ inl b ↦ absurd (a.1 (same.0 b.1)) | inr b ↦ let eb = b.0 in omega arith ]
          ]
    ]

-- a set and the others are all drives
pub others_are_the_rest : OthersAreTheRest
others_are_the_rest zero one other rest = omega arith
others_are_the_rest (suc n) one other rest =
    let before = others_are_the_rest n one other (λ k lt. rest k (omega arith)) in
    let here = rest n (omega arith) in
    elim (next_counts one n) [
      | inl a ↦ let ea = a.0 in elim (next_counts other n) [ inl b ↦ absurd (here.0 b.1 a.1) | inr b ↦ let eb = b.0 in omega arith ]
      | inr a ↦ let ea = a.0 in elim (next_counts other n) [ inl b ↦ let eb = b.0 in omega arith | inr b ↦ absurd (b.1 (here.1 a.1)) ]
    ]
