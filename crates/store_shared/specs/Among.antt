-- What one call works on while others work on the same slots: its passes of their locks, and its own ways to the data drives.
use Rattle.std.specs.Prelude.{◌≡◌, ℕ, ◌+◌, ◌<◌, Bool, true, false, List, [], ◌∷◌, ◌++◌, length, map, slice_index_or, Option, Some, None}
use Rattle.op_steps.specs.Store.{StoreOver}
use Rattle.turn_lock.specs.Passes.{is_spent, seen_by, turns_of}
use Rattle.turn_lock.specs.declared.pass.Pass.{Pass}
use Rattle.turn_lock.specs.declared.view.Turn.{Turn}
use Rattle.store_shared.specs.declared.shared.TurnedSlot.{TurnedSlot}

-- of the pass of one lock: the turns of the slot that it made, each with its ticket and the slot before and after; how many turns of the slot it has seen;
-- and whether the lock had no ticket left for it
pub record PassSeen (D A : Type 0) : Type 0 where
  pub turns : List (Turn (TurnedSlot D A))
  pub seen : ℕ
  pub spent : Bool

module _ {D A : Type 0} where
  abbrev pub pass_seen : Pass (TurnedSlot D A) → PassSeen D A
  pass_seen pass = record { turns = turns_of pass; seen = seen_by pass; spent = is_spent pass }

  -- of one that isn't there, nothing
  abbrev pub seen_in : Option (Pass (TurnedSlot D A)) → PassSeen D A
  seen_in None = record { turns = []; seen = 0; spent = false }
  seen_in (Some pass) = pass_seen pass

  abbrev pub passes_seen : List (Option (Pass (TurnedSlot D A))) → List (PassSeen D A)
  passes_seen passes = map seen_in passes

  -- it made one turn more
  abbrev pub with_turn : PassSeen D A → Turn (TurnedSlot D A) → PassSeen D A
  with_turn was turn = record { turns = was.turns ++ turn ∷ []; seen = turn.ticket + 1; spent = false }

  -- its lock had no ticket left
  abbrev pub refused : PassSeen D A → PassSeen D A
  refused was = record { turns = was.turns; seen = was.seen; spent = true }

  -- the pass of this lock was so
  abbrev pub IsPassAt : List (PassSeen D A) → ℕ → PassSeen D A → Type 0
  IsPassAt passes k was = (k < length passes) × ((d : PassSeen D A) → slice_index_or passes k d ≡ was)

-- what one call has: its passes of the locks of the slots, its ways to the data drives, what it holds of both, and its feed and its teller
abbrev pub Reach : Type 0 → Type 0 → Type 0 → Type 0
Reach D A T = StoreOver (List (PassSeen D A)) T
