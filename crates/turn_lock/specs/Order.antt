-- The rule of a turn lock: what holds of its two words, its slot and the views of all passes between any two steps.
use Rattle.std.specs.Prelude.{◌≡◌, ℕ, ◌<◌, ◌≤◌, ◌⊎◌, List, [], ◌∷◌, Option, Some, None, All}
use mathlib.Core.Option as maybe
use lib.ListN.{get_elem?}
use Rattle.atomic_table.specs.Table.{State}
use Rattle.turn_lock.specs.History.{tickets, Leads}
use Rattle.turn_lock.specs.Tickets.{total, times, holds, between}
use Rattle.turn_lock.specs.declared.view.Turn.{Turn}
use Rattle.turn_lock.specs.declared.view.View.{View}
use Rattle.turn_lock.specs.declared.lock.TheConstants.{ALL_PARTS}

module _ {T : Type 0} where
  -- a pass has the value
  abbrev pub IsOut : List (View T) → Type 0
  IsOut views = (i : ℕ) × (v : View T) × (value : T) × (get_elem? views i ≡ maybe.some v) × (v.lent ≡ Some value)

  -- the value that so many turns came to is at home
  abbrev pub IsHome : (ℕ → T) → ℕ → maybe.Option (Option T) → Type 0
  IsHome at serving home = home ≡ maybe.some (Some (at serving))

  -- a turn before the one that is served, of this history
  abbrev pub IsOver : (ℕ → T) → ℕ → Turn T → Type 0
  IsOver at serving t = (t.ticket < serving) × Leads at t

  -- what a pass has seen was so, only who is in turn has the value, which so many turns came to, and a pass without a part has done nothing
  pub record Fits (of : T) (at : ℕ → T) (next serving : ℕ) (v : View T) : Type 0 where
    pub seen : v.seen ≤ serving
    pub looked : v.looked ≤ next
    pub in_turn : (value : T) → v.lent ≡ Some value → (v.ticket ≡ Some serving) × (value ≡ at serving)
    pub idle : v.parts ≡ 0 → (v.ticket ≡ None) × (v.done ≡ [])
    pub named : 0 < v.parts → v.of ≡ Some of
    pub over : All (IsOver at serving) v.done

module _ {T N : Type 0} (turn : T → ℕ) (name : T → N) where
  -- `next` is the next ticket and `serving` the one whose turn it is. The tickets from `serving` on are held and the turns of those from the
  -- first value's turns on are over, each with one pass. At each count of turns there was one value, with the lock's name, and the last is
  -- at home, or with the pass in turn
  pub record InOrder (of : T) (next serving : ℕ) (home : maybe.Option (Option T)) (views : List (View T)) : Type 0 where
    pub at : ℕ → T
    pub begins : at (turn of) ≡ of
    pub counts : (n : ℕ) → turn of ≤ n → n ≤ serving → (turn (at n) ≡ n) × (name (at n) ≡ name of)
    pub begun : turn of ≤ serving
    pub ahead : serving ≤ next
    pub whole : total (λ v. v.parts) views ≡ ALL_PARTS
    pub held : (x : ℕ) → total (λ v. holds x v.ticket) views ≡ between serving next x
    pub once : (x : ℕ) → total (λ v. times x (tickets v.done)) views ≡ between (turn of) serving x
    pub each : (i : ℕ) (v : View T) → get_elem? views i ≡ maybe.some v → Fits of at next serving v
    pub place : IsHome at serving home ⊎ IsOut views

  abbrev pub Ordered : T → State (Option T) (View T) → Type 0
  Ordered of s = (next : ℕ) × (serving : ℕ) × (home : maybe.Option (Option T)) × (s.words ≡ next ∷ serving ∷ []) × (s.homes ≡ home ∷ []) × InOrder of next serving home s.views
