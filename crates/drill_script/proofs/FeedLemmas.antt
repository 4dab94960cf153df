-- Texts that have no LF, and what stands before the first one.
use Rattle.std.proofs.Common.{◌≡◌, ◌==◌, ℕ, ◌+◌, ◌≤◌, Bool, List, [], ◌∷◌, ◌++◌, All, length, cond, ne_eqb, refl, ap, arith}
use Rattle.std.proofs.lemmas.List.Elements.{All-head, All-tail}
use Rattle.std.proofs.lemmas.List.Sums.{sum_by-append, sum_by-cons}
use Rattle.drill_script.specs.Scripts.{IsNoFeed, feeds}

-- two texts without an LF, each with one behind it, begin alike only where they are the same
pub same_front : (a b x y : List ℕ) → All IsNoFeed a → All IsNoFeed b → a ++ 10 ∷ x ≡ b ++ 10 ∷ y → (a ≡ b) × (x ≡ y)
same_front [] [] x y h k e = let same : x ≡ y = cc in (refl, same)
same_front [] (d ∷ b) x y h k e = let same : d ≡ 10 = cc in absurd (All-head IsNoFeed d b k same)
same_front (c ∷ a) [] x y h k e = let same : c ≡ 10 = cc in absurd (All-head IsNoFeed c a h same)
same_front (c ∷ a) (d ∷ b) x y h k e =
    let heads : c ≡ d = cc in
    let tails : a ++ 10 ∷ x ≡ b ++ 10 ∷ y = cc in
    let rest : (a ≡ b) × (x ≡ y) = same_front a b x y (All-tail IsNoFeed c a h) (All-tail IsNoFeed d b k) tails in
    let fronts : a ≡ b = rest.0 in
    let whole : c ∷ a ≡ d ∷ b = cc in
    (whole, rest.1)

-- the first LF stands behind each text without one
pub reaches : (a b x y : List ℕ) → All IsNoFeed a → a ++ x ≡ b ++ 10 ∷ y → length a ≤ length b
reaches [] b x y h e = omega arith
reaches (c ∷ a) [] x y h e = let same : c ≡ 10 = cc in absurd (All-head IsNoFeed c a h same)
reaches (c ∷ a) (d ∷ b) x y h e = let tails : a ++ x ≡ b ++ 10 ∷ y = cc in let less = reaches a b x y (All-tail IsNoFeed c a h) tails in omega arith

-- and there is none in such a text
pub never : (a b y : List ℕ) → All IsNoFeed a → a ≡ b ++ 10 ∷ y → ⊥
never [] [] y h e = cc
never [] (d ∷ b) y h e = cc
never (c ∷ a) [] y h e = let same : c ≡ 10 = cc in All-head IsNoFeed c a h same
never (c ∷ a) (d ∷ b) y h e = let tails : a ≡ b ++ 10 ∷ y = cc in never a b y (All-tail IsNoFeed c a h) tails

-- ---- how many there are

-- none, where there is none
pub no_feeds : (bytes : List ℕ) → All IsNoFeed bytes → feeds bytes ≡ 0
no_feeds [] none = refl
no_feeds (b ∷ bytes) none =
    let head : cond {A = ℕ} (b == 10) 1 0 ≡ 0 = ap (λ (t : Bool). cond {A = ℕ} t 1 0) (ne_eqb b 10 (All-head IsNoFeed b bytes none)) in
    let more : feeds (b ∷ bytes) ≡ cond {A = ℕ} (b == 10) 1 0 + feeds bytes = sum_by-cons (λ (c : ℕ). cond {A = ℕ} (c == 10) 1 0) b bytes in
    let rest : feeds bytes ≡ 0 = no_feeds bytes (All-tail IsNoFeed b bytes none) in
    omega arith

-- of two texts, one behind the other
pub feeds_both : (a b : List ℕ) → feeds (a ++ b) ≡ feeds a + feeds b
feeds_both a b = sum_by-append (λ (c : ℕ). cond {A = ℕ} (c == 10) 1 0) a b
