-- Each step keeps the rule, on plain data.
use Rattle.std.proofs.Common.{◌≡◌, ℕ, ◌+◌, ◌<◌, ◌≤◌, ◌≢◌, List, [], ◌∷◌, ◌++◌, All, Option, Some, None, IfSome, cond, eqb, set, sym, refl, ap, subst, ◌∙◌, inl, inr, ⊎_elim, arith, eq-eqb, ne_eqb}
use Rattle.std.proofs.Math.Nat.{max-le}
use Rattle.std.proofs.lemmas.List.{map-append}
use Rattle.std.proofs.lemmas.List.Elements.{All-nil, All-push, All-append, All-weaker}
use Rattle.std.proofs.lemmas.Option.{none-some}
use mathlib.Core.Logic.{dite}
use mathlib.Core.Option as maybe
use native.Mathlib.Decide.{ℕ_discrete, dec_le}
use lib.ListN.{get_elem?}
use Rattle.atomic_table.proofs.Lists.{at_set, at_snoc, at_longer, set_else}
use Rattle.turn_lock.specs.History.{tickets, Leads, IsHistory}
use Rattle.turn_lock.specs.Tickets.{same, times, holds, between}
use Rattle.turn_lock.specs.Views.{first, cut, part, joined, gone, looked, drew, lending, rested}
use Rattle.turn_lock.specs.Order.{Fits, IsOut, IsHome, IsOver, InOrder}
use Rattle.turn_lock.specs.declared.view.Turn.{Turn}
use Rattle.turn_lock.specs.declared.view.View.{View}
use Rattle.turn_lock.proofs.Counts.{set_there, total-append, total-set, term_le, terms_le, total_only, same_here, between_above, between_below, between_most, between_none, between_grows, between_falls}

no_ticket : (m : Option ℕ) (t : ℕ) → m ≡ None → m ≡ Some t → ⊥
no_ticket m t none some = none-some t (sym none ∙ some)

-- both are in one option
pub same_some : {A : Type 0} (m : Option A) (x y : A) → m ≡ Some x → m ≡ Some y → x ≡ y
same_some m x y a b = cc

same_head : {A : Type 0} (x y : A) (xs ys : List A) → x ∷ xs ≡ y ∷ ys → x ≡ y
same_head x y xs ys e = cc

module _ {T : Type 0} where
  pub same_turn : (t u : Turn T) → t.ticket ≡ u.ticket → t.from ≡ u.from → t.to ≡ u.to → t ≡ u
  same_turn t u a b c = λ i. record { ticket = a i; from = b i; to = c i }

  -- the one value in the slot
  pub same_slot : (x y : T) (more : List (ℕ × Option T)) → (0, Some x) ∷ [] ≡ (0, Some y) ∷ more → x ≡ y
  same_slot x y more e = same_some (Some x) x y refl (ap (λ (s : ℕ × Option T). s.1) (same_head (0, Some x) (0, Some y) [] more e))

  nothing_lent : (m : Option T) (value : T) → m ≡ None → m ≡ Some value → ⊥
  nothing_lent m value none some = none-some value (sym none ∙ some)

  -- the history with one value more, at this count
  abbrev pub grown : (ℕ → T) → ℕ → T → ℕ → T
  grown at n value k = cond (eqb k n) value (at k)

  grown_here : (at : ℕ → T) (n : ℕ) (value : T) (k : ℕ) → k ≡ n → grown at n value k ≡ value
  grown_here at n value k e = ap (λ b. cond b value (at k)) (eq-eqb k n e)

  grown_else : (at : ℕ → T) (n : ℕ) (value : T) (k : ℕ) → k ≢ n → grown at n value k ≡ at k
  grown_else at n value k ne = ap (λ b. cond b value (at k)) (ne_eqb k n ne)

  -- turns that are over are turns of the longer history
  over_grows : (at : ℕ → T) (serving : ℕ) (value : T) (turns : List (Turn T)) → All (IsOver at serving) turns → All (IsOver (grown at (serving + 1) value) (serving + 1)) turns
  over_grows at serving value = All-weaker (IsOver at serving) (IsOver (grown at (serving + 1) value) (serving + 1)) (λ (t : Turn T) (over : IsOver at serving t). let before = over.0 in (
    omega arith,
    (grown_else at (serving + 1) value t.ticket (λ e. omega arith) ∙ over.1.0, grown_else at (serving + 1) value (t.ticket + 1) (λ e. omega arith) ∙ over.1.1),
  ))

  each_set : (P : View T → Type 0) (vs : List (View T)) (me : ℕ) (w : View T) → P w → ((i : ℕ) (v : View T) → i ≢ me → get_elem? vs i ≡ maybe.some v → P v)
      → (i : ℕ) (v : View T) → get_elem? (set vs me w) i ≡ maybe.some v → P v
  each_set P vs me w mine others i v e = ⊎_elim (λ (t : (i ≡ me) × (w ≡ v)). subst P t.1 mine) (λ (t : (i ≢ me) × (get_elem? vs i ≡ maybe.some v)). others i v t.0 t.1) (at_set vs me i w v e)

  stays_out : (vs : List (View T)) (me : ℕ) (v w : View T) → get_elem? vs me ≡ maybe.some v → ((value : T) → v.lent ≡ Some value → w.lent ≡ Some value) → IsOut vs → IsOut (set vs me w)
  stays_out vs me v w at keeps out = dite (ℕ_discrete out.0 me)
      (λ e. let same_view : out.1 ≡ v = maybe.some-injective out.1 v (sym out.3 ∙ (ap (get_elem? vs) e ∙ at)) in
      (me, w, out.2, set_there vs me v w at, keeps out.2 (ap (λ (u : View T). u.lent) (sym same_view) ∙ out.4)))
      (λ ne. (out.0, out.1, out.2, set_else vs me out.0 w ne ∙ out.3, out.4))

  longer_out : (vs more : List (View T)) → IsOut vs → IsOut (vs ++ more)
  longer_out vs more out = (out.0, out.1, out.2, at_longer vs more out.0 out.1 out.3, out.4)

module _ {T N : Type 0} (turn : T → ℕ) (name : T → N) (of : T) where
  -- a ticket that one pass holds is held by no other
  one_holds : (next serving : ℕ) (home : maybe.Option (Option T)) (vs : List (View T)) → InOrder turn name of next serving home vs → (me other : ℕ) (v u : View T) (t : ℕ)
      → get_elem? vs me ≡ maybe.some v → get_elem? vs other ≡ maybe.some u → v.ticket ≡ Some t → u.ticket ≡ Some t → other ≡ me
  one_holds next serving home vs o me other v u t at there mine theirs = dite (ℕ_discrete other me) (λ e. e)
      (λ ne. let two = terms_le (λ (w : View T). holds t w.ticket) vs me other v u ne at there in
      absurd (omega (arith, o.held t, between_most serving next t, ap (holds t) mine, ap (holds t) theirs, same_here t)))

  -- a ticket that is held is one from the ticket in turn on and below the next
  held_within : (next serving : ℕ) (home : maybe.Option (Option T)) (vs : List (View T)) → InOrder turn name of next serving home vs → (me : ℕ) (v : View T) (t : ℕ)
      → get_elem? vs me ≡ maybe.some v → v.ticket ≡ Some t → (serving ≤ t) × (t < next)
  held_within next serving home vs o me v t at mine =
      let one = term_le (λ (w : View T). holds t w.ticket) vs me v at in
      dite (dec_le serving t)
      (λ h. dite (dec_le next t)
      (λ k. absurd (omega (arith, o.held t, between_above serving next t h k, ap (holds t) mine, same_here t)))
      (λ k. (h, omega arith)))
      (λ h. absurd (omega (arith, o.held t, between_below serving next t (omega arith), ap (holds t) mine, same_here t)))

  pub starts : (value : T) → of ≡ value → InOrder turn name of (turn of) (turn of) (maybe.some (Some value)) (first (turn of) of ∷ [])
  starts value e = record {
    at = λ _. of;
    begins = refl;
    counts = λ n from to. (omega arith, refl);
    begun = omega arith;
    ahead = omega arith;
    whole = refl;
    held = λ x. omega (arith, between_none (turn of) x);
    once = λ x. omega (arith, between_none (turn of) x);
    each = λ i v at. ⊎_elim (λ (t : get_elem? [] i ≡ maybe.some v). absurd (maybe.some-ne-none v (sym t)))
        (λ (t : first (turn of) of ≡ v). subst (Fits of (λ _. of) (turn of) (turn of)) t record {
          seen = omega arith;
          looked = omega arith;
          in_turn = λ value lent. absurd (none-some value lent);
          idle = λ e. absurd (omega arith);
          named = λ _. refl;
          over = All-nil (IsOver (λ _. of) (turn of));
        }) (at_snoc [] (first (turn of) of) v i at);
    place = inl (ap (λ (x : T). maybe.some (Some x)) (sym e));
  }

  module _ (next serving : ℕ) (home : maybe.Option (Option T)) (vs : List (View T)) (o : InOrder turn name of next serving home vs) (me : ℕ) (v : View T) (at : get_elem? vs me ≡ maybe.some v) where
    abbrev mine : Fits of o.at next serving v
    mine = o.each me v at

    pub looks : InOrder turn name of next serving home (set vs me (looked next v))
    looks = let w = looked next v in record {
      at = o.at;
      begins = o.begins;
      counts = o.counts;
      begun = o.begun;
      ahead = o.ahead;
      whole = omega (arith, total-set (λ (u : View T). u.parts) vs me v w at, o.whole);
      held = λ x. omega (arith, total-set (λ (u : View T). holds x u.ticket) vs me v w at, o.held x);
      once = λ x. omega (arith, total-set (λ (u : View T). times x (tickets u.done)) vs me v w at, o.once x);
      each = each_set (Fits of o.at next serving) vs me w record { seen = mine.seen; looked = omega arith; in_turn = mine.in_turn; idle = mine.idle; named = mine.named; over = mine.over } (λ i u _ e. o.each i u e);
      place = ⊎_elim inl (λ (out : IsOut vs). inr (stays_out vs me v w at (λ _ e. e) out)) o.place;
    }

    pub draws : 0 < v.parts → v.ticket ≡ None → InOrder turn name of (next + 1) serving home (set vs me (drew next v))
    draws some_part none = let w = drew next v in let ahead = o.ahead in let begun = o.begun in record {
      at = o.at;
      begins = o.begins;
      counts = o.counts;
      begun = o.begun;
      ahead = omega arith;
      whole = omega (arith, total-set (λ (u : View T). u.parts) vs me v w at, o.whole);
      held = λ x. omega (arith, total-set (λ (u : View T). holds x u.ticket) vs me v w at, ap (holds x) none, o.held x, between_grows serving next x o.ahead);
      once = λ x. omega (arith, total-set (λ (u : View T). times x (tickets u.done)) vs me v w at, o.once x);
      each = each_set (Fits of o.at (next + 1) serving) vs me w
          record { seen = mine.seen; looked = (let l = mine.looked in omega arith); in_turn = λ value lent. absurd (no_ticket v.ticket serving none (mine.in_turn value lent).0); idle = λ e. absurd (omega arith); named = mine.named; over = mine.over }
          (λ i u _ e. let f = o.each i u e in record { seen = f.seen; looked = (let l = f.looked in omega arith); in_turn = f.in_turn; idle = f.idle; named = f.named; over = f.over });
      place = ⊎_elim inl (λ (out : IsOut vs). inr (stays_out vs me v w at (λ _ e. e) out)) o.place;
    }

    pub draw_tells : (v.seen ≤ next) × (times next (tickets v.done) ≡ 0)
    draw_tells = let ahead = o.ahead in let begun = o.begun in let s = mine.seen in
        (omega arith, omega (arith, term_le (λ (u : View T). times next (tickets u.done)) vs me v at, o.once next, between_above (turn of) serving next (omega arith) (omega arith)))

    pub has_home : v.ticket ≡ Some serving → v.lent ≡ None → IsHome o.at serving home
    has_home ticket not_out = ⊎_elim (λ h. h) (λ (out : IsOut vs). let u = out.1 in let f = o.each out.0 u out.3 in
        let e = one_holds next serving home vs o me out.0 v u serving at out.3 ticket (f.in_turn out.2 out.4).0 in
        let same_view : u ≡ v = maybe.some-injective u v (sym out.3 ∙ (ap (get_elem? vs) e ∙ at)) in
        absurd (nothing_lent v.lent out.2 not_out (ap (λ (x : View T). x.lent) (sym same_view) ∙ out.4))) o.place

    -- the value at home has so many turns, and the name that the pass knows
    pub named : v.ticket ≡ Some serving → (turn (o.at serving) ≡ serving) × IfSome v.of (λ (x : T). name (o.at serving) ≡ name x)
    named ticket = let c = o.counts serving o.begun (omega arith) in (
      c.0,
      dite (ℕ_discrete v.parts 0) (λ idle. absurd (no_ticket v.ticket serving (mine.idle idle).0 ticket))
          (λ some. subst (λ (m : Option T). IfSome m (λ (x : T). name (o.at serving) ≡ name x)) (sym (mine.named (omega arith))) c.1),
    )

    pub lends : v.ticket ≡ Some serving → InOrder turn name of next serving maybe.none (set vs me (lending (o.at serving) v))
    lends ticket = let w = lending (o.at serving) v in record {
      at = o.at;
      begins = o.begins;
      counts = o.counts;
      begun = o.begun;
      ahead = o.ahead;
      whole = omega (arith, total-set (λ (u : View T). u.parts) vs me v w at, o.whole);
      held = λ x. omega (arith, total-set (λ (u : View T). holds x u.ticket) vs me v w at, o.held x);
      once = λ x. omega (arith, total-set (λ (u : View T). times x (tickets u.done)) vs me v w at, o.once x);
      each = each_set (Fits of o.at next serving) vs me w
          record { seen = mine.seen; looked = mine.looked; in_turn = λ value lent. (ticket, same_some w.lent value (o.at serving) lent refl); idle = mine.idle; named = mine.named; over = mine.over }
          (λ i u _ e. o.each i u e);
      place = inr (me, w, o.at serving, set_there vs me v w at, refl);
    }

    -- the turn that led from the value that is lent to this one
    abbrev pub made : T → Turn T
    made value = record { ticket = serving; from = o.at serving; to = value }

    pub advances : (value : T) → v.ticket ≡ Some serving → turn value ≡ serving + 1 → name value ≡ name of
        → InOrder turn name of next (serving + 1) (maybe.some (Some value)) (set vs me (rested (serving + 1) (made value) v))
    advances value ticket turns named =
        let w = rested (serving + 1) (made value) v in let begun = o.begun in let within = held_within next serving home vs o me v serving at ticket in let below = within.1 in
        let now : ℕ → T = grown o.at (serving + 1) value in
        let here : now (serving + 1) ≡ value = grown_here o.at (serving + 1) value (serving + 1) refl in
        let before : (n : ℕ) → n ≤ serving → now n ≡ o.at n = λ n le. grown_else o.at (serving + 1) value n (λ e. omega arith) in record {
          at = now;
          begins = before (turn of) begun ∙ o.begins;
          counts = λ n from to. dite (dec_le n serving)
              (λ le. (ap turn (before n le) ∙ (o.counts n from le).0, ap name (before n le) ∙ (o.counts n from le).1))
              (λ more. let last : n ≡ serving + 1 = omega arith in (ap turn (ap now last ∙ here) ∙ (turns ∙ sym last), ap name (ap now last ∙ here) ∙ named));
          begun = omega arith;
          ahead = omega arith;
          whole = omega (arith, total-set (λ (u : View T). u.parts) vs me v w at, o.whole);
          held = λ x. omega (arith, total-set (λ (u : View T). holds x u.ticket) vs me v w at, ap (holds x) ticket, o.held x, between_falls serving next x below);
          once = λ x. omega (
            arith,
            total-set (λ (u : View T). times x (tickets u.done)) vs me v w at,
            ap (times x) (map-append (λ (t : Turn T). t.ticket) v.done (made value ∷ [])),
            total-append (same x) (tickets v.done) (serving ∷ []),
            o.once x,
            between_grows (turn of) serving x begun,
          );
          each = each_set (Fits of now next (serving + 1)) vs me w
              record {
                seen = omega arith;
                looked = mine.looked;
                in_turn = λ value lent. absurd (none-some value lent);
                idle = λ e. absurd (no_ticket v.ticket serving (mine.idle e).0 ticket);
                named = mine.named;
                over = All-push (IsOver now (serving + 1)) v.done (made value) (over_grows o.at serving value v.done mine.over) (omega arith, (before serving (omega arith), here));
              }
              (λ i u ne e. let f = o.each i u e in record {
                seen = (let s = f.seen in omega arith);
                looked = f.looked;
                in_turn = λ value lent. absurd (ne (one_holds next serving home vs o me i v u serving at e ticket (f.in_turn value lent).0));
                idle = f.idle;
                named = f.named;
                over = over_grows o.at serving value u.done f.over;
              });
          place = inl (ap (λ (x : T). maybe.some (Some x)) (sym here));
        }

    pub splits : (amount : ℕ) → 0 < amount → amount < v.parts → InOrder turn name of next serving home (set vs me (cut amount v) ++ part amount v ∷ [])
    splits amount some less = let w = cut amount v in let p = part amount v in let l = set vs me w in record {
      at = o.at;
      begins = o.begins;
      counts = o.counts;
      begun = o.begun;
      ahead = o.ahead;
      whole = omega (arith, total-append (λ (u : View T). u.parts) l (p ∷ []), total-set (λ (u : View T). u.parts) vs me v w at, o.whole);
      held = λ x. omega (arith, total-append (λ (u : View T). holds x u.ticket) l (p ∷ []), total-set (λ (u : View T). holds x u.ticket) vs me v w at, o.held x);
      once = λ x. omega (arith, total-append (λ (u : View T). times x (tickets u.done)) l (p ∷ []), total-set (λ (u : View T). times x (tickets u.done)) vs me v w at, o.once x);
      each = λ i u e. ⊎_elim
          (each_set (Fits of o.at next serving) vs me w
          record { seen = mine.seen; looked = mine.looked; in_turn = mine.in_turn; idle = λ e. absurd (omega arith); named = λ _. mine.named (omega arith); over = mine.over } (λ i u _ e. o.each i u e) i u)
          (λ (t : p ≡ u). subst (Fits of o.at next serving) t
          record {
            seen = mine.seen;
            looked = mine.looked;
            in_turn = λ value lent. absurd (none-some value lent);
            idle = λ e. absurd (omega arith);
            named = λ _. mine.named (omega arith);
            over = All-nil (IsOver o.at serving);
          })
          (at_snoc l p u i e);
      place = ⊎_elim inl (λ (out : IsOut vs). inr (longer_out l (p ∷ []) (stays_out vs me v w at (λ _ e. e) out))) o.place;
    }

    pub joins : (other : ℕ) (u : View T) → other ≢ me → get_elem? (set vs me (joined v u)) other ≡ maybe.some u → 0 < v.parts → 0 < u.parts → u.ticket ≡ None → u.lent ≡ None
        → InOrder turn name of next serving home (set (set vs me (joined v u)) other gone)
    joins other u ne there some_part also_part none not_out =
        let w = joined v u in let l = set vs me w in
        let was : get_elem? vs other ≡ maybe.some u = sym (set_else vs me other w ne) ∙ there in
        let theirs = o.each other u was in record {
          at = o.at;
          begins = o.begins;
          counts = o.counts;
          begun = o.begun;
          ahead = o.ahead;
          whole = omega (arith, total-set (λ (x : View T). x.parts) l other u gone there, total-set (λ (x : View T). x.parts) vs me v w at, o.whole);
          held = λ x. omega (arith, total-set (λ (y : View T). holds x y.ticket) l other u gone there, ap (holds x) none, total-set (λ (y : View T). holds x y.ticket) vs me v w at, o.held x);
          once = λ x. omega (
            arith,
            total-set (λ (y : View T). times x (tickets y.done)) l other u gone there,
            total-set (λ (y : View T). times x (tickets y.done)) vs me v w at,
            ap (times x) (map-append (λ (t : Turn T). t.ticket) v.done u.done),
            total-append (same x) (tickets v.done) (tickets u.done),
            o.once x,
          );
          each = each_set (Fits of o.at next serving) l other gone
              record { seen = omega arith; looked = omega arith; in_turn = λ value lent. absurd (none-some value lent); idle = λ _. (refl, refl); named = λ e. absurd (omega arith); over = All-nil (IsOver o.at serving) }
              (λ i x _. each_set (Fits of o.at next serving) vs me w
              record {
                seen = max-le mine.seen theirs.seen;
                looked = max-le mine.looked theirs.looked;
                in_turn = mine.in_turn;
                idle = λ e. absurd (omega arith);
                named = λ _. mine.named some_part;
                over = All-append (IsOver o.at serving) v.done u.done mine.over theirs.over;
              }
              (λ i u _ e. o.each i u e) i x);
          place = ⊎_elim inl (λ (out : IsOut vs). inr (stays_out l other u gone there (λ value lent. absurd (nothing_lent u.lent value not_out lent)) (stays_out vs me v w at (λ _ e. e) out))) o.place;
        }

    pub weighs : v.parts ≤ 65536
    weighs = omega (arith, term_le (λ (u : View T). u.parts) vs me v at, o.whole)

    -- where one pass has all parts and no turn, the value is at home, and its turns are the history
    pub closes : v.parts ≡ 65536 → v.ticket ≡ None → v.lent ≡ None
        → (value : T) × (home ≡ maybe.some (Some value)) × (name value ≡ name of) × (v.seen ≤ turn value) × IsHistory turn name of value v.done × (v.looked ≤ turn value)
    closes all none not_out =
        let others : (i : ℕ) (u : View T) → i ≢ me → get_elem? vs i ≡ maybe.some u → (u.ticket ≡ None) × (u.done ≡ []) = λ i u ne e. (o.each i u e).idle (omega (arith, terms_le (λ (w : View T). w.parts) vs me i v u ne at e, o.whole)) in
        let over : next ≡ serving = dite (dec_le next serving) (λ h. let ahead = o.ahead in omega arith)
        (λ h. absurd (omega (arith, o.held serving, total_only (λ (w : View T). holds serving w.ticket) vs me v at (λ i u ne e. ap (holds serving) (others i u ne e).0), ap (holds serving) none, between_falls serving next serving (omega arith), same_here serving))) in
        let is_home : IsHome o.at serving home = ⊎_elim (λ h. h) (λ (out : IsOut vs). let u = out.1 in let f = o.each out.0 u out.3 in dite (ℕ_discrete out.0 me)
        (λ e. let same_view : u ≡ v = maybe.some-injective u v (sym out.3 ∙ (ap (get_elem? vs) e ∙ at)) in absurd (nothing_lent v.lent out.2 not_out (ap (λ (x : View T). x.lent) (sym same_view) ∙ out.4)))
        (λ ne. absurd (no_ticket u.ticket serving (others out.0 u ne out.3).0 (f.in_turn out.2 out.4).0))) o.place in
        let c = o.counts serving o.begun (omega arith) in
        let turns : turn (o.at serving) ≡ serving = c.0 in
        let seen = mine.seen in let looked = mine.looked in (
          o.at serving,
          is_home,
          c.1,
          omega arith,
          record {
            at = o.at;
            begins = o.begins;
            ends = ap o.at turns;
            rises = let begun = o.begun in omega arith;
            counts = λ n from to. o.counts n from (omega arith);
            once = λ x. sym (total_only (λ (w : View T). times x (tickets w.done)) vs me v at (λ i u ne e. ap (λ (l : List (Turn T)). times x (tickets l)) (others i u ne e).1))
                ∙ (o.once x ∙ ap (λ n. between (turn of) n x) (sym turns));
            led = All-weaker (IsOver o.at serving) (Leads o.at) (λ (t : Turn T) (is : IsOver o.at serving t). is.1) v.done mine.over;
          },
          omega arith,
        )
