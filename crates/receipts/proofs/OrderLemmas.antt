-- The order of names.
use Rattle.std.proofs.Common.{◌≡◌, ◌≢◌, ◌⊎◌, ◌∙◌, ℕ, ◌-◌, ◌<◌, List, ◌∷◌, length, slice_index_or, inl, inr, refl, sym, ap, subst, arith}
use Rattle.std.proofs.lemmas.Cmp.{nat_cmp_total, nat_list_cmp_total, ranked}
use Rattle.std.proofs.lemmas.Map.Keys.{Less-from_sorted}
use Rattle.std.proofs.lemmas.Map.Text.{is_eq-slice_cmp}
use Rattle.std.proofs.lemmas.Slice.Eq.{bytes_eq-Decides}
use Rattle.std.specs.List.Sorted.{IsStrictlySortedBy}
use Rattle.std.specs.Ordering.{is_eq, nat_cmp, ordering_reverse, ordering_then}
use Rattle.std.specs.declared.cmp.Ordering.{Ordering}
use Rattle.std.specs.declared.cmp.Ordering.TheVariants.{Less, Equal, Greater}
use Rattle.drive_base.specs.Names.{IsBefore, byte_order}
use Rattle.receipts.specs.Paging.{IsUpTo}

-- no name stands before itself
pub never_itself : (a : List ℕ) → IsBefore a a → ⊥
never_itself a before =
    let turned : Less ≡ Greater = sym before ∙ (nat_list_cmp_total.antisymm a a ∙ ap ordering_reverse before) in cc

pub before_trans : (a b c : List ℕ) → IsBefore a b → IsBefore b c → IsBefore a c
before_trans a b c first second = nat_list_cmp_total.trans a b c first second

-- a name is up to another, or behind it
sides_by : (a b : List ℕ) (o : Ordering) → byte_order b a ≡ o → IsUpTo a b ⊎ IsBefore b a
sides_by a b Less is = inr is
sides_by a b Equal is = inl (λ less. let turned : Less ≡ Equal = sym less ∙ is in cc)
sides_by a b Greater is = inl (λ less. let turned : Less ≡ Greater = sym less ∙ is in cc)

pub sides : (a b : List ℕ) → IsUpTo a b ⊎ IsBefore b a
sides a b = sides_by a b (byte_order b a) refl

-- what is up to a name that stands before another stands before that
upto_before_by : (a b c : List ℕ) (o : Ordering) → byte_order a b ≡ o → IsUpTo a b → IsBefore b c → IsBefore a c
upto_before_by a b c Less is upto before = before_trans a b c is before
upto_before_by a b c Equal is upto before = nat_list_cmp_total.congr a b c is ∙ before
upto_before_by a b c Greater is upto before = absurd (upto (nat_list_cmp_total.antisymm b a ∙ ap ordering_reverse is))

pub upto_before : (a b c : List ℕ) → IsUpTo a b → IsBefore b c → IsBefore a c
upto_before a b c = upto_before_by a b c (byte_order a b) refl

pub before_is_upto : (a b : List ℕ) → IsBefore a b → IsUpTo a b
before_is_upto a b before less = never_itself a (before_trans a b a before less)

pub upto_itself : (a : List ℕ) → IsUpTo a a
upto_itself a less = never_itself a less

pub upto_trans : (a b c : List ℕ) → IsUpTo a b → IsUpTo b c → IsUpTo a c
upto_trans a b c first second less = first (upto_before b c a second less)

-- names that are as far as each other are one
is_same : (a b : List ℕ) → byte_order a b ≡ Equal → a ≡ b
is_same a b is = (bytes_eq-Decides a b).0 (sym (is_eq-slice_cmp a b) ∙ ap is_eq is)

-- another name that doesn't stand before one stands behind it
behind_other_by : (a b : List ℕ) (o : Ordering) → byte_order a b ≡ o → byte_order b a ≢ Less → b ≢ a → IsBefore a b
behind_other_by a b Less is not_before other = is
behind_other_by a b Equal is not_before other = absurd (other (sym (is_same a b is)))
behind_other_by a b Greater is not_before other = absurd (not_before (nat_list_cmp_total.antisymm b a ∙ ap ordering_reverse is))

pub behind_other : (a b : List ℕ) → byte_order b a ≢ Less → b ≢ a → IsBefore a b
behind_other a b = behind_other_by a b (byte_order a b) refl

-- each of names that rise is up to the last one
pub upto_last : (names : List (List ℕ)) (k : ℕ) (d : List ℕ) → IsStrictlySortedBy byte_order names → k < length names
    → IsUpTo (slice_index_or names k d) (slice_index_or names (length names - 1) d)
upto_last names k d rising inside = elim (last_or_less k (length names) inside) [
  | inl last ↦ subst (λ i. IsUpTo (slice_index_or names i d) (slice_index_or names (length names - 1) d)) (sym last)
      (upto_itself (slice_index_or names (length names - 1) d))
  | inr less ↦ before_is_upto (slice_index_or names k d) (slice_index_or names (length names - 1) d)
      (Less-from_sorted byte_order names k (length names - 1) d rising less (omega (arith, inside)))
]
  where
    last_or_less : (k n : ℕ) → k < n → (k ≡ n - 1) ⊎ (k < n - 1)
    last_or_less k n inside = grind (arith, inside)

-- a name at or behind one that begins with a byte: it begins with the same byte, or stands behind all that begin with it
step_by : (x a : ℕ) (xs ys rest : List ℕ) (o : Ordering) → nat_cmp x a ≡ o → IsUpTo (x ∷ xs) (a ∷ rest)
    → IsBefore (x ∷ ys) (a ∷ rest) ⊎ ((x ≡ a) × IsUpTo xs rest)
step_by x a xs ys rest Less is upto = inl (ap (λ o. ordering_then o (byte_order ys rest)) is)
step_by x a xs ys rest Equal is upto = inr (
  ranked x a Equal (sym is),
  λ less. upto (ap (λ o. ordering_then o (byte_order rest xs)) (nat_cmp_total.antisymm a x ∙ ap ordering_reverse is) ∙ less),
)
step_by x a xs ys rest Greater is upto =
    absurd (upto (ap (λ o. ordering_then o (byte_order rest xs)) (nat_cmp_total.antisymm a x ∙ ap ordering_reverse is)))

pub step : (x a : ℕ) (xs ys rest : List ℕ) → IsUpTo (x ∷ xs) (a ∷ rest) → IsBefore (x ∷ ys) (a ∷ rest) ⊎ ((x ≡ a) × IsUpTo xs rest)
step x a xs ys rest = step_by x a xs ys rest (nat_cmp x a) refl
