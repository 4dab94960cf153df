-- Line feeds of a text, and where its 65th line ends.
use Rattle.std.proofs.Common.{◌≡◌, ℕ, ◌+◌, ◌<◌, ◌≤◌, Bool, true, false, cond, eqb, List, [], ◌∷◌, ◌++◌, length, refl, sym, ap, ◌∙◌, subst, arith, append-nil, length-append, inl, inr}
use Rattle.std.specs.Prelude.{◌⊎◌, ◌&&◌, ◌||◌, not, ◌==◌}
use Rattle.std.proofs.lemmas.Bool.{ne_eqb, eqb-true, cond-false}
use Rattle.std.proofs.lemmas.List.Elements.{All-head, All-tail}
use Rattle.httparse.specs.Grammar.{AllPass}
use Rattle.httparse.specs.Pieces.{is_newline}
use Rattle.http_wire.specs.Lines.{feed, line_feeds, from_start, has_begun, line_ends, EndsLine65}

pub line_feeds-append : (a b : List ℕ) → line_feeds (a ++ b) ≡ line_feeds a + line_feeds b
line_feeds-append [] b = omega arith
line_feeds-append (x ∷ a) b = omega (arith, line_feeds-append a b)

pub feed_none : (b : ℕ) → eqb b 10 ≡ false → feed b ≡ 0
feed_none b e = cond-false (b == 10) 1 0 e

-- bytes that pass a test which LF fails have no line feed
pub no_feeds : (test : ℕ → Bool) → test 10 ≡ false → (w : List ℕ) → AllPass test w → line_feeds w ≡ 0
no_feeds test fails [] all = refl
no_feeds test fails (b ∷ w) all =
    let passes = All-head (λ v. test v ≡ true) b w all in
    let other : b ≡ 10 → ⊥ = λ e. let here : test 10 ≡ true = subst (λ (v : ℕ). test v ≡ true) e passes in cc in
    let none : feed b ≡ 0 = feed_none b (ne_eqb b 10 other) in
    omega (arith, none, no_feeds test fails w (All-tail (λ v. test v ≡ true) b w all))

pub from_start-begun : (a b : List ℕ) → has_begun a ≡ true → from_start (a ++ b) ≡ from_start a ++ b
from_start-begun [] b begun = absurd (cc)
from_start-begun (x ∷ a) b begun = go (is_newline x) (from_start-begun a b) begun
  where
    go : (t : Bool) → (has_begun a ≡ true → from_start (a ++ b) ≡ from_start a ++ b) → cond t (has_begun a) true ≡ true
        → cond t (from_start (a ++ b)) (x ∷ (a ++ b)) ≡ cond t (from_start a) (x ∷ a) ++ b
    go true more h = more h
    go false more h = refl

pub from_start-blank : (a b : List ℕ) → has_begun a ≡ false → from_start (a ++ b) ≡ from_start b
from_start-blank [] b blank = refl
from_start-blank (x ∷ a) b blank = go (is_newline x) (from_start-blank a b) blank
  where
    go : (t : Bool) → (has_begun a ≡ false → from_start (a ++ b) ≡ from_start b) → cond t (has_begun a) true ≡ false
        → cond t (from_start (a ++ b)) (x ∷ (a ++ b)) ≡ from_start b
    go true more h = more h
    go false more h = absurd (cc)

pub ends_blank : (a : List ℕ) → has_begun a ≡ false → line_ends a ≡ 0
ends_blank a blank =
    ap line_feeds (sym (ap from_start (append-nil a)) ∙ from_start-blank a [] blank)

pub has_begun_push : (a : List ℕ) (x : ℕ) → has_begun (a ++ x ∷ []) ≡ (has_begun a || not (is_newline x))
has_begun_push [] x = go (is_newline x)
  where
    go : (t : Bool) → cond t false true ≡ (false || not t)
    go true = refl
    go false = refl
has_begun_push (y ∷ a) x = go (is_newline y) (has_begun_push a x)
  where
    go : (t : Bool) → has_begun (a ++ x ∷ []) ≡ (has_begun a || not (is_newline x))
        → cond t (has_begun (a ++ x ∷ [])) true ≡ (cond t (has_begun a) true || not (is_newline x))
    go true more = more
    go false more = refl

-- a line feed alone begins no line
feed_newline : (x : ℕ) → line_ends (x ∷ []) ≡ 0
feed_newline x = go (x == 13) (x == 10) refl
  where
    go : (s t : Bool) → (x == 10) ≡ t → line_feeds (cond (s || t) [] (x ∷ [])) ≡ 0
    go true t e = refl
    go false true e = refl
    go false false e = omega (arith, feed_none x e)

pub line_ends_push : (a : List ℕ) (x : ℕ)
    → line_ends (a ++ x ∷ []) ≡ line_ends a + cond (has_begun a && (x == 10)) 1 0
line_ends_push a x = go (has_begun a) refl
  where
    go : (t : Bool) → has_begun a ≡ t → line_ends (a ++ x ∷ []) ≡ line_ends a + cond (t && (x == 10)) 1 0
    go true begun =
        ap line_feeds (from_start-begun a (x ∷ []) begun)
        ∙ line_feeds-append (from_start a) (x ∷ []) ∙ omega arith
    go false blank =
        ap line_feeds (from_start-blank a (x ∷ []) blank) ∙ feed_newline x ∙ omega (arith, ends_blank a blank)

pub line_ends-append : (a b : List ℕ) → 0 < line_ends a → line_ends (a ++ b) ≡ line_ends a + line_feeds b
line_ends-append a b some = go (has_begun a) refl
  where
    go : (t : Bool) → has_begun a ≡ t → line_ends (a ++ b) ≡ line_ends a + line_feeds b
    go true begun = ap line_feeds (from_start-begun a b begun) ∙ line_feeds-append (from_start a) b
    go false blank = absurd (omega (arith, ends_blank a blank))

-- what ends in a line feed has one in its last part
feeds_at_end : (a : List ℕ) (u : ℕ) (c before : List ℕ) → a ++ u ∷ c ≡ before ++ 10 ∷ [] → 0 < line_feeds (u ∷ c)
feeds_at_end [] u c before e =
    let both : line_feeds (u ∷ c) ≡ line_feeds before + line_feeds (10 ∷ []) = ap line_feeds e ∙ line_feeds-append before (10 ∷ []) in
    let one : line_feeds (10 ∷ []) ≡ 1 = refl in
    omega (arith, both, one)
feeds_at_end (v ∷ a) u c [] e = absurd (omega (arith, ap length e, length-append a (u ∷ c)))
feeds_at_end (v ∷ a) u c (w ∷ before) e = feeds_at_end a u c before (cc)

-- of two fronts of a text, one is a front of the other
front_cases : (a b x y : List ℕ) → a ++ x ≡ b ++ y
    → ((c : List ℕ) × (b ≡ a ++ c)) ⊎ ((c : List ℕ) × (a ≡ b ++ c))
front_cases [] b x y e = inl (b, refl)
front_cases (u ∷ a) [] x y e = inr (u ∷ a, refl)
front_cases (u ∷ a) (v ∷ b) x y e =
    elim (front_cases a b x y (cc)) [ inl p ↦ inl (p.0, cc) | inr p ↦ inr (p.0, cc) ]

longer : (a c : List ℕ) → EndsLine65 a → EndsLine65 (a ++ c) → c ≡ []
longer a [] x y = refl
longer a (u ∷ c) x y =
    absurd (omega (arith, line_ends-append a (u ∷ c) (omega (arith, x.count)), x.count, y.count, feeds_at_end a u c y.before y.text_is))

-- a text has one front that ends its 65th line
pub ends_unique : (a b x y : List ℕ) → a ++ x ≡ b ++ y → EndsLine65 a → EndsLine65 b → a ≡ b
ends_unique a b x y e p q =
    elim (front_cases a b x y e) [
      | inl r ↦
          let none : r.0 ≡ [] = longer a r.0 p (subst EndsLine65 r.1 q) in
          sym (r.1 ∙ ap (λ (c : List ℕ). a ++ c) none ∙ append-nil a)
      | inr r ↦
          let none : r.0 ≡ [] = longer b r.0 q (subst EndsLine65 r.1 p) in
          r.1 ∙ ap (λ (c : List ℕ). b ++ c) none ∙ append-nil b
    ]

pub few_lines : (front rest : List ℕ) → line_ends (front ++ rest) ≤ 64 → EndsLine65 front → ⊥
few_lines front rest few ends =
    omega (arith, line_ends-append front rest (omega (arith, ends.count)), ends.count)

-- what is counted past 64 is the 65th, and was counted at LF
pub counted : (n k : ℕ) (s : Bool) (b : ℕ) → k ≡ cond (s && (b == 10)) 1 0 → n ≤ 64 → 64 < n + k → (b ≡ 10) × (n + k ≡ 65)
counted n k false b e few many = absurd (omega (arith, e))
counted n k true b e few many = go (b == 10) refl e
  where
    go : (t : Bool) → (b == 10) ≡ t → k ≡ cond (true && t) 1 0 → (b ≡ 10) × (n + k ≡ 65)
    go true is e = (eqb-true b 10 is, omega (arith, e))
    go false is e = absurd (omega (arith, e))
