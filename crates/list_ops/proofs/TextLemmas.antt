-- Names: which stand before which, and what they begin with.
use Rattle.std.proofs.Common.{◌≡◌, ◌≢◌, ◌∙◌, ℕ, ◌+◌, ◌<◌, Bool, true, false, List, [], ◌∷◌, ◌++◌, Contains, drop, length, slice_index_or, inl, inr, refl, sym, ap, ap₂, subst, subst₂, arith}
use Rattle.std.proofs.lemmas.Bool.Decides.{Decides-eqb}
use Rattle.std.proofs.lemmas.Cmp.{nat_cmp_total, nat_list_cmp_total, ranked, tied_itself}
use Rattle.std.proofs.lemmas.List.{get_or-append-add, length-append}
use Rattle.std.proofs.lemmas.List.Elements.{Contains-append_cases}
use Rattle.std.proofs.lemmas.List.Sorted.{ranks_by, sorted_far}
use Rattle.std.proofs.lemmas.Map.Text.{is_eq-slice_cmp}
use Rattle.std.proofs.lemmas.Slice.Eq.{bytes_eq-Decides, starts_is}
use Rattle.std.specs.List.Sorted.{IsSorted}
use Rattle.std.specs.Ordering.{is_eq, is_lt, nat_cmp, ordering_reverse, ordering_then}
use Rattle.std.specs.declared.cmp.Ordering.{Ordering}
use Rattle.std.specs.declared.cmp.Ordering.TheVariants.{Less, Equal, Greater}
use Rattle.drive_base.specs.Names.{IsBefore, byte_order}
use Rattle.receipts.specs.Pages.{begins_with, is_before}
use Rattle.receipts.specs.Paging.{IsUpTo}
use Rattle.receipts.proofs.OrderLemmas.{never_itself, before_trans, step}

-- the test of the order, and the order
lt_is : (o : Ordering) → is_lt o ≡ true → o ≡ Less
lt_is Less is = refl
lt_is Equal is = cc
lt_is Greater is = cc

not_lt_is : (o : Ordering) → is_lt o ≡ false → o ≢ Less
not_lt_is Less is = cc
not_lt_is Equal is = λ less. cc
not_lt_is Greater is = λ less. cc

not_lt_of : (o : Ordering) → o ≢ Less → is_lt o ≡ false
not_lt_of Less other = absurd (other refl)
not_lt_of Equal other = refl
not_lt_of Greater other = refl

pub before_is : (a b : List ℕ) → is_before a b ≡ true → IsBefore a b
before_is a b is = lt_is (byte_order a b) is

pub before_of : (a b : List ℕ) → IsBefore a b → is_before a b ≡ true
before_of a b is = ap is_lt is

pub upto_is : (a b : List ℕ) → is_before b a ≡ false → IsUpTo a b
upto_is a b is = not_lt_is (byte_order b a) is

pub upto_of : (a b : List ℕ) → IsUpTo a b → is_before b a ≡ false
upto_of a b is = not_lt_of (byte_order b a) is

-- names of which neither stands before the other are one
same_by : (a b : List ℕ) (o : Ordering) → byte_order a b ≡ o → is_before a b ≡ false → is_before b a ≡ false → a ≡ b
same_by a b Less is first second = absurd (let turned : true ≡ false = sym (before_of a b is) ∙ first in cc)
same_by a b Equal is first second = (bytes_eq-Decides a b).0 (sym (is_eq-slice_cmp a b) ∙ ap is_eq is)
same_by a b Greater is first second =
    absurd (let turned : true ≡ false = sym (before_of b a (nat_list_cmp_total.antisymm b a ∙ ap ordering_reverse is)) ∙ second in cc)

pub same_names : (a b : List ℕ) → is_before a b ≡ false → is_before b a ≡ false → a ≡ b
same_names a b = same_by a b (byte_order a b) refl

-- behind a common front the order is that of what is behind it
pub front_order : (front a b : List ℕ) → byte_order (front ++ a) (front ++ b) ≡ byte_order a b
front_order [] a b = refl
front_order (x ∷ front) a b = ap (λ o. ordering_then o (byte_order (front ++ a) (front ++ b))) (tied_itself nat_cmp_total x) ∙ front_order front a b

-- what a text begins with
pub begins_is : (front text : List ℕ) → begins_with front text ≡ true → text ≡ front ++ drop (length front) text
begins_is front text = (starts_is Decides-eqb text front (begins_with front text) refl).0

pub begins_of : (front rest : List ℕ) → begins_with front (front ++ rest) ≡ true
begins_of front rest = (starts_is Decides-eqb (front ++ rest) front (begins_with front (front ++ rest)) refl).1 rest refl

-- a text between two that begin with the same begins with it too
same_head : (a b : ℕ) (xs ys : List ℕ) → a ≡ b → IsBefore (b ∷ xs) (a ∷ ys) → IsBefore xs ys
same_head a b xs ys same before =
    sym (ap (λ o. ordering_then o (byte_order xs ys)) (subst (λ x. nat_cmp b x ≡ Equal) (sym same) (tied_itself nat_cmp_total b))) ∙ before

pub between : (front x y text : List ℕ) → IsUpTo (front ++ x) text → IsBefore text (front ++ y) → (rest : List ℕ) × (text ≡ front ++ rest)
between [] x y text upto before = (text, refl)
between (a ∷ front) x y [] upto before = absurd (upto refl)
between (a ∷ front) x y (b ∷ text) upto before = elim (step a b (front ++ x) (front ++ y) text upto) [
  | inl less ↦ absurd (never_itself (b ∷ text) (before_trans (b ∷ text) (a ∷ (front ++ y)) (b ∷ text) before less))
  | inr same ↦ (
      let found = between front x y text same.1 (same_head a b text (front ++ y) same.0 before) in
      (found.0, ap₂ (λ n l. n ∷ l) (sym same.0) found.1)
      )
]

-- what stands before a text with a zero behind it isn't behind the text
zero_by : (x : ℕ) (a : List ℕ) (o : Ordering) → nat_cmp x 0 ≡ o → IsBefore (x ∷ a) (0 ∷ []) → ⊥
zero_by x a Less is before = let below : x < 0 = ranked x 0 Less (sym is) in omega (arith, below)
zero_by x [] Equal is before = let turned : Equal ≡ Less = sym (ap (λ o. ordering_then o (byte_order [] [])) is) ∙ before in cc
zero_by x (b ∷ a) Equal is before = let turned : Greater ≡ Less = sym (ap (λ o. ordering_then o (byte_order (b ∷ a) [])) is) ∙ before in cc
zero_by x a Greater is before = let turned : Greater ≡ Less = sym (ap (λ o. ordering_then o (byte_order a [])) is) ∙ before in cc

turned_by : (x y : ℕ) (o : Ordering) → nat_cmp x y ≡ o → nat_cmp y x ≡ ordering_reverse o
turned_by x y o is = nat_cmp_total.antisymm y x ∙ ap ordering_reverse is

heads_by : (x y : ℕ) (a b : List ℕ) (behind : IsBefore a (b ++ 0 ∷ []) → IsUpTo a b) (o : Ordering) → nat_cmp x y ≡ o
    → IsBefore (x ∷ a) (y ∷ (b ++ 0 ∷ [])) → IsUpTo (x ∷ a) (y ∷ b)
heads_by x y a b behind Less is before = λ less.
    let turned : Greater ≡ Less = sym (ap (λ o. ordering_then o (byte_order b a)) (turned_by x y Less is)) ∙ less in cc
heads_by x y a b behind Equal is before = λ less. behind (sym (ap (λ o. ordering_then o (byte_order a (b ++ 0 ∷ []))) is) ∙ before)
    (sym (ap (λ o. ordering_then o (byte_order b a)) (turned_by x y Equal is)) ∙ less)
heads_by x y a b behind Greater is before =
    let turned : Greater ≡ Less = sym (ap (λ o. ordering_then o (byte_order a (b ++ 0 ∷ []))) is) ∙ before in cc

pub behind_zero : (a b : List ℕ) → IsBefore a (b ++ 0 ∷ []) → IsUpTo a b
behind_zero [] [] before = λ less. cc
behind_zero [] (y ∷ b) before = λ less. cc
behind_zero (x ∷ a) [] before = absurd (zero_by x a (nat_cmp x 0) refl before)
behind_zero (x ∷ a) (y ∷ b) before = heads_by x y a b (behind_zero a b) (nat_cmp x y) refl before

-- names that are sorted
abbrev is_lower : List (List ℕ) → ℕ → ℕ → List ℕ → Bool
is_lower names i j d = is_before (slice_index_or names i d) (slice_index_or names j d)

pub sorted_rest : (front names : List (List ℕ)) → IsSorted byte_order (front ++ names) → IsSorted byte_order names
sorted_rest front names sorted = λ k d low inside.
    let at = length front + k in
    let next : at + 1 ≡ length front + (k + 1) = omega arith in
    let within : at + 1 < length (front ++ names) = subst (λ n. at + 1 < n) (sym (length-append front names)) (omega (arith, inside)) in
    let apart : is_lower (front ++ names) (length front + (k + 1)) at d ≡ false =
    subst (λ i. is_lower (front ++ names) i at d ≡ false) next (sorted at d (omega arith) within) in
    subst₂ (λ a b. is_before a b ≡ false) (get_or-append-add front names (k + 1) d) (get_or-append-add front names k d) apart

pub sorted_tail : (name : List ℕ) (names : List (List ℕ)) → IsSorted byte_order (name ∷ names) → IsSorted byte_order names
sorted_tail name names = sorted_rest (name ∷ []) names

pub sorted_first : (name : List ℕ) (names : List (List ℕ)) (other : List ℕ) → IsSorted byte_order (name ∷ names) → Contains (name ∷ names) other
    → is_before other name ≡ false
sorted_first name names other sorted there = subst (λ n. is_before n name ≡ false) there.2
    (sorted_far (λ x y. is_lt (byte_order x y)) (ranks_by nat_list_cmp_total (λ n. n)) (name ∷ names) sorted 0 there.0 other (omega arith) there.1)

-- a name of a sorted list that stands before another of it stands in front of that one
pub in_front : (front : List (List ℕ)) (name : List ℕ) (names : List (List ℕ)) (other : List ℕ) → IsSorted byte_order (front ++ name ∷ names)
    → Contains (front ++ name ∷ names) other → is_before other name ≡ true → Contains front other
in_front front name names other sorted there before = elim (Contains-append_cases front (name ∷ names) other there) [
  | inl first ↦ first
  | inr behind ↦ (
      let turned : true ≡ false = sym before ∙ sorted_first name names other (sorted_rest front (name ∷ names) sorted) behind in
      cc
      )
]
