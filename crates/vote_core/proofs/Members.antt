-- Members of lists that stand in a relation place by place.
use Rattle.std.proofs.Common.{◌≡◌, ◌⊎◌, ◌<◌, ℕ, suc, zero, List, ◌∷◌, length, get_or, Contains, subst, refl, ◌∙◌, inl, inr, arith}
use Rattle.std.specs.List.{AllZip}
use Rattle.std.proofs.lemmas.List.{get_or_default}
use Rattle.std.proofs.lemmas.List.Elements.{length_all_zip, AllZip-get_or, Contains-get_or}
use Rattle.vote_core.specs.Lane.{Lane, lane_at, blank_lane}

-- the element at a place is a member
pub member_at : (lanes : List Lane) (k : ℕ) → k < length lanes → Contains lanes (lane_at lanes k)
member_at lanes k h = Contains-get_or lanes k blank_lane h

-- what a place of a member is
pub place_of : (lanes : List Lane) (a : Lane) → Contains lanes a → (k : ℕ) × (k < length lanes) × (lane_at lanes k ≡ a)
place_of lanes a h = (h.0, h.1, get_or_default lanes h.0 blank_lane a h.1 ∙ h.2)

-- a member of the second list is related to one of the first
pub member_before : (R : Lane → Lane → Type 0) (xs ys : List Lane) (y : Lane) → AllZip R xs ys → Contains ys y → (x : Lane) × Contains xs x × R x y
member_before R xs ys y zip h =
    let same = length_all_zip R xs ys zip in
    let place = place_of ys y h in
    let inside : place.0 < length xs = omega arith in (
      lane_at xs place.0,
      member_at xs place.0 inside,
      subst (λ z. R (lane_at xs place.0) z) place.2 (AllZip-get_or R xs ys place.0 blank_lane blank_lane zip inside),
    )

-- a member of the first list is related to one of the second
pub member_after : (R : Lane → Lane → Type 0) (xs ys : List Lane) (x : Lane) → AllZip R xs ys → Contains xs x → (y : Lane) × Contains ys y × R x y
member_after R xs ys x zip h =
    let same = length_all_zip R xs ys zip in
    let place = place_of xs x h in
    let inside : place.0 < length ys = omega arith in (
      lane_at ys place.0,
      member_at ys place.0 inside,
      subst (λ z. R z (lane_at ys place.0)) place.2 (AllZip-get_or R xs ys place.0 blank_lane blank_lane zip place.1),
    )

-- the first element and those of the rest are members, and there are no others
pub member_head : (x : Lane) (xs : List Lane) → Contains (x ∷ xs) x
member_head x xs = (zero, omega arith, refl)

-- a member of the rest is one of the list
pub member_tail : (x : Lane) (xs : List Lane) (a : Lane) → Contains xs a → Contains (x ∷ xs) a
member_tail x xs a h = (suc h.0, omega (arith, h.1), h.2)

-- the element at a place of a list
at_place : (x : Lane) (xs : List Lane) (a : Lane) (k : ℕ) → k < length (x ∷ xs) → get_or (x ∷ xs) k a ≡ a → (x ≡ a) ⊎ Contains xs a
at_place x xs a zero inside same = inl same
at_place x xs a (suc k) inside same = inr (k, omega arith, same)

-- a member is the first element or a member of the rest
pub member_cases : (x : Lane) (xs : List Lane) (a : Lane) → Contains (x ∷ xs) a → (x ≡ a) ⊎ Contains xs a
member_cases x xs a h = at_place x xs a h.0 h.1 h.2
