-- What turns come to: the history of a value.
use Rattle.std.specs.Prelude.{◌≡◌, ℕ, ◌+◌, ◌<◌, ◌≤◌, List, [], ◌∷◌, map, All, Contains, IsPermutation}
use Rattle.turn_lock.specs.Tickets.{times, between}
use Rattle.turn_lock.specs.declared.view.Turn.{Turn}

module _ {T : Type 0} where
  -- the tickets of turns, in their order
  abbrev pub tickets : List (Turn T) → List ℕ
  tickets turns = map (λ (t : Turn T). t.ticket) turns

  -- the turn led from the value at its ticket to the value at the next count
  abbrev pub Leads : (ℕ → T) → Turn T → Type 0
  Leads at t = (at t.ticket ≡ t.from) × (at (t.ticket + 1) ≡ t.to)

  -- the turn that leads from the value at this count to the next
  abbrev pub turn_at : (ℕ → T) → ℕ → Turn T
  turn_at at n = record { ticket = n; from = at n; to = at (n + 1) }

module _ {T X : Type 0} (turn_of : X → Turn T) where
  -- each of these turns was made over what the one before it left: the first one over this value, and the last one left that
  abbrev pub Follow : T → List X → T → Type 0
  Follow first [] last = first ≡ last
  Follow first (x ∷ xs) last = ((turn_of x).from ≡ first) × Follow (turn_of x).to xs last

  -- turns in an order in which they follow one another from the one value to the other
  pub record Arranged (made : List X) (first last : T) : Type 0 where
    pub ordered : List X
    pub same : IsPermutation made ordered
    pub follow : Follow first ordered last

module _ {T N : Type 0} (turn : T → ℕ) (name : T → N) where
  -- the turns are those that led from the first value to the last: there is one value at each count of turns, and from each count below the
  -- last one's just one turn led to the next
  pub record IsHistory (first last : T) (turns : List (Turn T)) : Type 0 where
    pub at : ℕ → T
    pub begins : at (turn first) ≡ first
    pub ends : at (turn last) ≡ last
    pub rises : turn first ≤ turn last
    pub counts : (n : ℕ) → turn first ≤ n → n ≤ turn last → (turn (at n) ≡ n) × (name (at n) ≡ name first)
    pub once : (n : ℕ) → times n (tickets turns) ≡ between (turn first) (turn last) n
    pub led : All (Leads at) turns

  -- the turns of a history are those that led from the values at the counts from the first value's on and below the last one's, and no others
  abbrev pub HistoryTellsTurns : Type 0
  HistoryTellsTurns = (first last : T) (turns : List (Turn T)) (h : IsHistory first last turns)
      → ((n : ℕ) → turn first ≤ n → n < turn last → Contains turns (turn_at h.at n))
      × ((t : Turn T) → Contains turns t → (turn first ≤ t.ticket) × (t.ticket < turn last) × (t ≡ turn_at h.at t.ticket))
