-- Which lanes back a change under a ballot, as facts in place of tests.
use Rattle.std.proofs.Common.{◌≡◌, ◌⊎◌, ◌≤◌, ℕ, true, Option, None, Some, ap, ◌∙◌, inl, inr, refl}
use Rattle.std.proofs.lemmas.Bool.{eqb-true, eq-eqb, leb-true, le-leb, or_cases, or_left, or_right, and_parts, and_from, false≢true}
use Rattle.vote_core.specs.Lane.{Lane, Next, HasNext, has_base_of, is_next_of, backs}

-- what is on its way and backs
next_backs : (c ballot : ℕ) (n : Option Next) → is_next_of c ballot n ≡ true → (next : Next) × (n ≡ Some next) × (next.change ≡ c) × (ballot ≤ next.ballot)
next_backs c ballot None h = absurd (false≢true h)
next_backs c ballot (Some next) h = let parts = and_parts _ _ h in (next, refl, eqb-true _ _ parts.0, leb-true _ _ parts.1)

-- a lane backs by its base or by its next
pub backs_cases : (c ballot : ℕ) (lane : Lane) → backs c ballot lane ≡ true
    → (lane.base.change ≡ c) ⊎ ((next : Next) × HasNext lane next × (next.change ≡ c) × (ballot ≤ next.ballot))
backs_cases c ballot lane h = elim (or_cases _ _ h) [
  | inl base ↦ inl (eqb-true _ _ base)
  | inr next ↦ inr (next_backs c ballot lane.next next)
]

-- a base that carries the change backs it under every ballot
pub backs_by_base : (c ballot : ℕ) (lane : Lane) → lane.base.change ≡ c → backs c ballot lane ≡ true
backs_by_base c ballot lane h = or_left _ _ (eq-eqb _ _ h)

-- a next that carries the change backs it under every ballot that is not above its own
pub backs_by_next : (c ballot : ℕ) (lane : Lane) (next : Next) → HasNext lane next → next.change ≡ c → ballot ≤ next.ballot → backs c ballot lane ≡ true
backs_by_next c ballot lane next is same up = or_right _ _ (ap (is_next_of c ballot) is ∙ and_from _ _ (eq-eqb _ _ same) (le-leb _ _ up))

-- a base carries the change, as a test
pub has_base : (c : ℕ) (lane : Lane) → lane.base.change ≡ c → has_base_of c lane ≡ true
has_base c lane h = eq-eqb _ _ h

-- and back
pub has_base_is : (c : ℕ) (lane : Lane) → has_base_of c lane ≡ true → lane.base.change ≡ c
has_base_is c lane h = eqb-true _ _ h
