-- Each step of a lock's table keeps its rule.
use Rattle.std.proofs.Common.{◌≡◌, ℕ, ◌+◌, ◌<◌, ◌≤◌, ◌≢◌, List, [], ◌∷◌, Option, Some, None, set, get_or, sym, refl, ap, subst, ◌∙◌, arith, eqb}
use mathlib.Core.Logic.{dite}
use mathlib.Core.Option as maybe
use native.Mathlib.Decide.{ℕ_discrete}
use lib.ListN.{get_elem?}
use prog.Atomic.{either}
use Rattle.atomic_table.specs.Table.{State, step, Act, keeps, takes, gives, Valid, carried_after, stepped, opening, rest, Allows, Splits, Joins, Final, Seen}
use Rattle.atomic_table.proofs.Lists.{exchanged, set_again}
use Rattle.turn_lock.specs.History.{tickets, IsHistory}
use Rattle.turn_lock.specs.Tickets.{times}
use Rattle.turn_lock.specs.Views.{first, cut, part, joined, gone, looked, drew, lending, rested}
use Rattle.turn_lock.specs.Steps.{Mine, Looks, Draws, Weighs, Advances, Serves}
use Rattle.turn_lock.specs.Order.{InOrder, Ordered}
use Rattle.turn_lock.specs.declared.view.Turn.{Turn}
use Rattle.turn_lock.specs.declared.view.View.{View}
use Rattle.turn_lock.proofs.Keeps as keep

module _ {T : Type 0} where
  -- what a pass is after the turn's end, where it had taken the one slot and put this value there
  pub ended : (before m n : Mine T) (t : Turn T) (new : ℕ) → m ≡ (before.0, (0, Some t.to) ∷ rest before.1) → before.0.ticket ≡ Some t.ticket → before.0.lent ≡ Some t.from → before.1 ≡ (0, None) ∷ []
      → Advances (step 1 1 new 0 maybe.none) m new n → n ≡ (rested new t before.0, [])
  ended before m n t new em ticket from only then =
      let has = ap (λ (x : Mine T). x.1) em in
      then t (ap (λ (x : Mine T). x.0.ticket) em ∙ ticket) (ap (λ (x : Mine T). x.0.lent) em ∙ from) (has ∙ ap (λ (l : List (ℕ × Option T)). (0, Some t.to) ∷ rest l) (sym has))
      ∙ ap (λ (x : Mine T). (rested new t x.0, rest x.1)) em ∙ ap (λ (l : List (ℕ × Option T)). (rested new t before.0, rest l)) only

module _ {T N : Type 0} (turn : T → ℕ) (name : T → N) (of : T) where
  abbrev Table : Type 0
  Table = State (Option T) (View T)

  abbrev table : ℕ → ℕ → maybe.Option (Option T) → List (View T) → Table
  table next serving home vs = record { words = next ∷ serving ∷ []; homes = home ∷ []; views = vs }

  abbrev Rule : Table → Type 0
  Rule = Ordered turn name of

  -- what holds of a table with these words and this slot holds of one that has them
  spelled : (G : Table → Type 0) (s : Table) (next serving : ℕ) (home : maybe.Option (Option T)) → s.words ≡ next ∷ serving ∷ [] → s.homes ≡ home ∷ [] → G (table next serving home s.views) → G s
  spelled G s next serving home ew eh g =
      subst (λ (ws : List ℕ). G record { words = ws; homes = s.homes; views = s.views }) (sym ew)
      (subst (λ (hs : List (maybe.Option (Option T))). G record { words = next ∷ serving ∷ []; homes = hs; views = s.views }) (sym eh) g)

  -- a step of the seat `id`, which found the word so
  abbrev Goes : ℕ → ℕ → Mine T → (ℕ → ℕ) → (ℕ → Mine T → Type 0) → Table → Type 0
  Goes i id m f then s = (w : View T) × (a : Act (Option T)) × Valid s.homes m.1 a × Rule (stepped s i (f (get_or s.words i 0)) id m.1 w a) × then (get_or s.words i 0) (w, carried_after m.1 a)

  pub looks : (slots id : ℕ) (m : Mine T) → Allows Rule slots id m 0 (λ n. n) (Looks (step slots 0 0 0 maybe.none) m)
  looks slots id m s g wide at _ = let next = g.0 in let o = g.5 in
      spelled (Goes 0 id m (λ n. n) (Looks (step slots 0 0 0 maybe.none) m)) s next g.1 g.2 g.3 g.4
      (looked next m.0, keeps, tt, (next, g.1, g.2, refl, refl, keep.looks turn name of next g.1 g.2 s.views o id m.0 at), (refl, (o.each id m.0 at).looked))

  pub draws : (slots id : ℕ) (m : Mine T) (old new : ℕ) → new ≡ old + 1 → 0 < m.0.parts → m.0.ticket ≡ None
      → Allows Rule slots id m 0 (λ n. either (eqb n old) new n) (Draws (step slots 0 old new maybe.none) m)
  draws slots id m old new e some_part none s g wide at _ = let next = g.0 in let o = g.5 in let tells = keep.draw_tells turn name of next g.1 g.2 s.views o id m.0 at in
      spelled (Goes 0 id m (λ n. either (eqb n old) new n) (Draws (step slots 0 old new maybe.none) m)) s next g.1 g.2 g.3 g.4
      (exchanged next old new (λ (after : ℕ). (w : View T) × (a : Act (Option T)) × Valid (g.2 ∷ []) m.1 a × Rule (stepped (table next g.1 g.2 s.views) 0 after id m.1 w a) × Draws (step slots 0 old new maybe.none) m next (w, carried_after m.1 a))
      (λ (hit : next ≡ old). let same : next + 1 ≡ new = omega arith in (
        drew old m.0,
        keeps,
        tt,
        (
          new,
          g.1,
          g.2,
          refl,
          refl,
          subst (λ (k : ℕ). InOrder turn name of k g.1 g.2 (set s.views id (drew old m.0))) same
              (subst (λ (k : ℕ). InOrder turn name of (next + 1) g.1 g.2 (set s.views id (drew k m.0))) hit (keep.draws turn name of next g.1 g.2 s.views o id m.0 at some_part none)),
        ),
        ((λ _. (refl, subst (λ (k : ℕ). m.0.seen ≤ k) hit tells.0, subst (λ (k : ℕ). times k (tickets m.0.done) ≡ 0) hit tells.1)), λ ne. absurd (ne hit)),
      ))
      (λ (miss : next ≢ old). (
        m.0,
        keeps,
        tt,
        (next, g.1, g.2, refl, refl, subst (InOrder turn name of next g.1 g.2) (sym (set_again s.views id m.0 at)) o),
        ((λ hit. absurd (miss hit)), λ _. refl),
      )))

  pub serves : (slots id : ℕ) (m : Mine T) (ticket : ℕ) → m.0.ticket ≡ Some ticket → m.0.lent ≡ None → Allows Rule slots id m 1 (λ n. n) (Serves turn name (step slots 1 0 0 maybe.none) m)
  serves slots id m ticket mine not_out s g wide at _ = let next = g.0 in let serving = g.1 in let o = g.5 in
      spelled (Goes 1 id m (λ n. n) (Serves turn name (step slots 1 0 0 maybe.none) m)) s next serving g.2 g.3 g.4
      (dite (ℕ_discrete ticket serving)
      (λ (e : ticket ≡ serving). let is : m.0.ticket ≡ Some serving = mine ∙ ap (λ (t : ℕ). Some t) e in
      let value : T = o.at serving in
      let tells = keep.named turn name of next serving g.2 s.views o id m.0 at is in (
        lending value m.0,
        takes 0 (Some value),
        ap (λ (h : maybe.Option (Option T)). maybe.some h) (keep.has_home turn name of next serving g.2 s.views o id m.0 at is not_out),
        (next, serving, maybe.none, refl, refl, keep.lends turn name of next serving g.2 s.views o id m.0 at is),
        ((λ _. (value, refl, tells.0, tells.1)), λ ne. absurd (ne is)),
      ))
      (λ (ne : ticket ≢ serving). (
        m.0,
        keeps,
        tt,
        (next, serving, g.2, refl, refl, subst (InOrder turn name of next serving g.2) (sym (set_again s.views id m.0 at)) o),
        ((λ is. absurd (ne (keep.same_some m.0.ticket ticket serving mine is))), λ _. refl),
      )))

  -- a turn's end, of a pass that holds the slot with this value
  pub advances : (slots id : ℕ) (m : Mine T) (v : View T) (from value : T) (was : Option T) (had : List (ℕ × Option T)) (ticket new : ℕ) → m ≡ (v, (0, Some value) ∷ rest had) → had ≡ (0, was) ∷ []
      → v.ticket ≡ Some ticket → v.lent ≡ Some from → new ≡ ticket + 1 → turn value ≡ new
      → name value ≡ name of → Allows Rule slots id m 1 (λ _. new) (λ _. Advances (step slots 1 new 0 maybe.none) m new)
  advances slots id m v from value was had ticket new em only mine lent e turns named = subst (λ (x : Mine T). Allows Rule slots id x 1 (λ _. new) (λ _. Advances (step slots 1 new 0 maybe.none) x new))
      (sym (em ∙ ap {B = Mine T} (λ (l : List (ℕ × Option T)). (v, (0, Some value) ∷ rest l)) only))
      (λ s g wide at _. let next = g.0 in let serving = g.1 in let o = g.5 in
      let is = (o.each id v at).in_turn from lent in
      let same : ticket ≡ serving = keep.same_some v.ticket ticket serving mine is.0 in
      let now : serving + 1 ≡ new = omega arith in
      let x : Mine T = (v, (0, Some value) ∷ []) in
      let made : Turn T = keep.made turn name of next serving g.2 s.views o id v at value in
      spelled (Goes 1 id x (λ _. new) (λ _. Advances (step slots 1 new 0 maybe.none) x new)) s next serving g.2 g.3 g.4 (
        rested new made v,
        gives,
        tt,
        (
          next,
          new,
          maybe.some (Some value),
          refl,
          refl,
          subst (λ (k : ℕ). InOrder turn name of next k (maybe.some (Some value)) (set s.views id (rested k made v))) now
              (keep.advances turn name of next serving g.2 s.views o id v at value is.0 (turns ∙ sym now) named),
        ),
        (λ (t : Turn T) its_ticket its_from its_to. ap (λ (u : Turn T). (rested new u v, []))
            (keep.same_turn made t (keep.same_some v.ticket serving t.ticket is.0 its_ticket) (sym is.1 ∙ keep.same_some v.lent from t.from lent its_from) (keep.same_slot value t.to [] its_to))),
      ))

  pub weighs : (slots id : ℕ) (m : Mine T) → Allows Rule slots id m 0 (λ n. n) (Weighs (step slots 0 0 0 maybe.none) m)
  weighs slots id m s g wide at _ = let next = g.0 in let o = g.5 in
      spelled (Goes 0 id m (λ n. n) (Weighs (step slots 0 0 0 maybe.none) m)) s next g.1 g.2 g.3 g.4
      (m.0, keeps, tt, (next, g.1, g.2, refl, refl, subst (InOrder turn name of next g.1 g.2) (sym (set_again s.views id m.0 at)) o), (refl, keep.weighs turn name of next g.1 g.2 s.views o id m.0 at))

  pub splits : (id : ℕ) (v : View T) (amount : ℕ) → 0 < amount → amount < v.parts → Splits Rule id v (cut amount v) (part amount v)
  splits id v amount some less s g at = (g.0, g.1, g.2, g.3, g.4, keep.splits turn name of g.0 g.1 g.2 s.views g.5 id v at amount some less)

  pub joins : (id : ℕ) (v : View T) (other : ℕ) (u : View T) → 0 < v.parts → 0 < u.parts → u.ticket ≡ None → u.lent ≡ None → Joins Rule id v other u (joined v u) gone
  joins id v other u some_part also_part none not_out s g at ne there =
      (g.0, g.1, g.2, g.3, g.4, keep.joins turn name of g.0 g.1 g.2 s.views g.5 id v at other u ne there some_part also_part none not_out)

  pub starts : (turns : ℕ) (slots : List (Option T)) → turns ≡ turn of → slots ≡ Some of ∷ [] → Rule (opening (turns ∷ turns ∷ []) slots (first (turn of) of))
  starts turns slots e l = subst (λ (xs : List (Option T)). Rule (opening (turns ∷ turns ∷ []) xs (first (turn of) of))) (sym l)
      (subst (λ (k : ℕ). Rule (opening (k ∷ k ∷ []) (Some of ∷ []) (first (turn of) of))) (sym e) (turn of, turn of, maybe.some (Some of), refl, refl, keep.starts turn name of of refl))

  -- what is known of a value that a pass with all parts got at the end: its name, that the pass saw no more turns than it had, and that
  -- the turns of the pass are its history
  abbrev pub Closing : View T → T → Type 0
  Closing v value = (name value ≡ name of) × (v.seen ≤ turn value) × IsHistory turn name of value v.done × (v.looked ≤ turn value)

  pub closes : (id : ℕ) (v : View T) (words : List ℕ) (slots : List (Option T)) (taken : Option T) → v.parts ≡ 65536 → v.ticket ≡ None → v.lent ≡ None
      → Final (Seen Rule id v) words slots → get_elem? slots 0 ≡ maybe.some taken → (value : T) × (taken ≡ Some value) × Closing v value
  closes id v words slots taken all none not_out f is = let s = f.0 in let g = f.1.0 in
      let c = keep.closes turn name of g.0 g.1 g.2 s.views g.5 id v f.1.1 all none not_out in
      let there : get_elem? s.homes 0 ≡ maybe.some (maybe.some (Some c.0)) = ap (λ (hs : List (maybe.Option (Option T))). get_elem? hs 0) g.4 ∙ ap (λ (h : maybe.Option (Option T)). maybe.some h) c.1 in
      (c.0, maybe.some-injective taken (Some c.0) (sym is ∙ f.4 0 (Some c.0) there), (c.2, c.3, c.4, c.5))

  -- of this value
  pub closes_with : (v : View T) (taken : Option T) (value : T) → taken ≡ Some value → ((other : T) × (taken ≡ Some other) × Closing v other) → Closing v value
  closes_with v taken value is c = subst (Closing v) (keep.same_some taken c.0 value c.1 is) c.2
