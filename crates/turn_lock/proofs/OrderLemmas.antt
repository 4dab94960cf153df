-- The turns of a history, each with whatever is known of it, put into their order.
use Rattle.std.proofs.Common.{◌≡◌, ◌∙◌, ◌<◌, ◌+◌, ◌-◌, ℕ, zero, suc, List, [], ◌∷◌, ◌++◌, map, All, IsPermutation, refl, sym, ap, subst, arith}
use Rattle.std.proofs.Math.Decide.{ℕ_discrete, dec_le}
use Rattle.std.proofs.Math.Logic.{dite}
use Rattle.std.proofs.lemmas.List.Elements.{All-cons, All-head, All-nil, All-tail}
use Rattle.std.proofs.lemmas.List.Sorted.{All-permutation, IsPermutation-cons, IsPermutation-middle, IsPermutation-refl, IsPermutation-trans}
use Rattle.turn_lock.specs.History.{Arranged, Follow, IsHistory, Leads, tickets}
use Rattle.turn_lock.specs.Tickets.{between, same, times}
use Rattle.turn_lock.specs.declared.view.Turn.{Turn}
use Rattle.turn_lock.proofs.Counts.{between_above, between_below, between_in, same_else, same_eq}

-- a stretch of numbers without its first one
between_step : (n d x : ℕ) → between n (n + suc d) x ≡ same x n + between (suc n) (suc n + d) x
between_step n d x = dite (ℕ_discrete x n)
    (λ e. omega (arith, between_in n (n + suc d) x (omega (arith, e)) (omega (arith, e)), same_eq x n e, between_below (suc n) (suc n + d) x (omega (arith, e))))
    (λ ne. dite (dec_le n x)
    (λ le. dite (dec_le (n + suc d) x)
    (λ far. omega (arith, between_above n (n + suc d) x le far, same_else x n ne, between_above (suc n) (suc n + d) x (omega (arith, le, ne)) (omega (arith, far))))
    (λ near. omega (
      arith,
      between_in n (n + suc d) x le (omega (arith, near)),
      same_else x n ne,
      between_in (suc n) (suc n + d) x (omega (arith, le, ne)) (omega (arith, near)),
    )))
    (λ less. omega (arith, between_below n (n + suc d) x (omega (arith, less)), same_else x n ne, between_below (suc n) (suc n + d) x (omega (arith, less)))))

between_none : (n x : ℕ) → between n (n + 0) x ≡ 0
between_none n x = dite (dec_le n x) (λ le. between_above n (n + 0) x le (omega (arith, le))) (λ less. between_below n (n + 0) x (omega (arith, less)))

module _ {T X : Type 0} (turn_of : X → Turn T) where
  -- a list in which a turn has this ticket, cut there
  pub record CutAt (n : ℕ) (xs : List X) : Type 0 where
    pub front : List X
    pub here : X
    pub behind : List X
    pub is : xs ≡ front ++ here ∷ behind
    pub ticket : (turn_of here).ticket ≡ n

  cut_at : (n : ℕ) (xs : List X) → 0 < times n (tickets (map turn_of xs)) → CutAt n xs
  cut_at n [] some = absurd (omega (arith, some))
  cut_at n (x ∷ xs) some = dite (ℕ_discrete n (turn_of x).ticket)
      (λ e. record { front = []; here = x; behind = xs; is = refl; ticket = sym e })
      (λ ne.
      let later = cut_at n xs (omega (arith, some, same_else n (turn_of x).ticket ne)) in
      record { front = x ∷ later.front; here = later.here; behind = later.behind; is = ap (λ l. x ∷ l) later.is; ticket = later.ticket })

  -- its tickets without that turn's
  without : (y : ℕ) (front : List X) (here : X) (behind : List X)
      → times y (tickets (map turn_of (front ++ here ∷ behind))) ≡ same y (turn_of here).ticket + times y (tickets (map turn_of (front ++ behind)))
  without y [] here behind = refl
  without y (x ∷ front) here behind = omega (arith, without y front here behind)

  -- what leads for turns leads for what has them
  led_each : (P : Turn T → Type 0) (xs : List X) → All P (map turn_of xs) → All (λ x. P (turn_of x)) xs
  led_each P [] all = All-nil (λ x. P (turn_of x))
  led_each P (x ∷ xs) all = All-cons (λ x. P (turn_of x)) x xs (All-head P (turn_of x) (map turn_of xs) all)
      (led_each P xs (All-tail P (turn_of x) (map turn_of xs) all))

  in_order : (at : ℕ → T) (d n : ℕ) (made : List X) → ((y : ℕ) → times y (tickets (map turn_of made)) ≡ between n (n + d) y)
      → All (λ x. Leads at (turn_of x)) made → Arranged turn_of made (at n) (at (n + d))
  in_order at zero n [] once led = record { ordered = []; same = IsPermutation-refl []; follow = ap at (omega arith) }
  in_order at zero n (x ∷ xs) once led =
      let t = (turn_of x).ticket in
      absurd (omega (arith, once t, between_none n t, same_eq t t refl))
  in_order at (suc d) n made once led =
      let one = between_in n (n + suc d) n (omega arith) (omega arith) in
      let cut = cut_at n made (omega (arith, once n, one)) in
      let rest = cut.front ++ cut.behind in
      let t = turn_of cut.here in
      let first : IsPermutation made (cut.here ∷ rest) = subst (λ l. IsPermutation l (cut.here ∷ rest)) (sym cut.is) (IsPermutation-middle cut.front cut.here cut.behind) in
      let led_now = All-permutation (λ x. Leads at (turn_of x)) made (cut.here ∷ rest) first led in
      let here = All-head (λ x. Leads at (turn_of x)) cut.here rest led_now in
      let later = in_order at d (suc n) rest
      (λ y. omega (arith, once y, ap (λ l. times y (tickets (map turn_of l))) cut.is, without y cut.front cut.here cut.behind, between_step n d y, ap (same y) cut.ticket))
      (All-tail (λ x. Leads at (turn_of x)) cut.here rest led_now) in
      let begins : at (suc n) ≡ t.to = ap at (omega (arith, cut.ticket)) ∙ here.1 in
      let ends : at (suc n + d) ≡ at (n + suc d) = ap at (omega arith) in
      record {
        ordered = cut.here ∷ later.ordered;
        same = IsPermutation-trans made (cut.here ∷ rest) (cut.here ∷ later.ordered) first (IsPermutation-cons cut.here rest later.ordered later.same);
        follow = (sym here.0 ∙ ap at cut.ticket, subst (λ a. Follow turn_of a later.ordered (at (n + suc d))) begins (subst (Follow turn_of (at (suc n)) later.ordered) ends later.follow));
      }

  module _ {N : Type 0} (turn : T → ℕ) (name : T → N) where
    -- the turns of a history
    pub history_in_order : (first last : T) (made : List X) → IsHistory turn name first last (map turn_of made) → Arranged turn_of made first last
    history_in_order first last made h =
        let d = turn last - turn first in
        let rises = h.rises in
        let far : turn first + d ≡ turn last = omega (arith, rises) in
        subst (λ b. Arranged turn_of made first b) (ap h.at far ∙ h.ends) (subst (λ a. Arranged turn_of made a (h.at (turn first + d))) h.begins
        (in_order h.at d (turn first) made (λ y. h.once y ∙ ap (λ (b : ℕ). between (turn first) b y) (sym far)) (led_each (Leads h.at) made h.led)))
