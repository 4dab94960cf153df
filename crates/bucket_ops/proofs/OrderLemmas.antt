-- The order of the names of buckets' registers.
use Rattle.std.proofs.Common.{◌≡◌, ◌≢◌, ℕ, List, [], ◌∷◌, codes, inl, inr, refl, subst, subst₂}
use Rattle.drive_base.specs.Names.{IsBefore}
use Rattle.receipts.specs.Paging.{IsUpTo}
use Rattle.receipts.specs.Registers.{bucket_register}
use Rattle.receipts.proofs.OrderLemmas.{step}

-- a name at or behind the begin of the names of buckets' registers, which is none of them, stands behind them all
behind_slash : (a : ℕ) (rest bucket : List ℕ) → 98 ≡ a → IsUpTo (47 ∷ []) rest → ((other : List ℕ) → a ∷ rest ≢ bucket_register other)
    → IsBefore (bucket_register bucket) (a ∷ rest)
behind_slash a [] bucket is upto none = absurd (upto refl)
behind_slash a (b ∷ rest) bucket is upto none = elim (step 47 b [] bucket rest upto) [
  | inl before ↦ subst (λ x. IsBefore (bucket_register bucket) (x ∷ b ∷ rest)) is before
  | inr same ↦ absurd (none rest (subst₂ (λ x y. x ∷ y ∷ rest ≡ bucket_register rest) is same.0 refl))
]

pub behind_begin : (name bucket : List ℕ) → IsUpTo (codes "b/") name → ((other : List ℕ) → name ≢ bucket_register other)
    → IsBefore (bucket_register bucket) name
behind_begin [] bucket upto none = absurd (upto refl)
behind_begin (a ∷ rest) bucket upto none = elim (step 98 a (47 ∷ []) (47 ∷ bucket) rest upto) [
  | inl before ↦ before
  | inr same ↦ behind_slash a rest bucket same.0 same.1 none
]
