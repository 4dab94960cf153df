-- How the locks of a shared desk are made: one after another, the last slot first, so that all can be taken apart again for want of memory.
use Rattle.std.specs.Prelude.{◌≡◌, ℕ, ◌<◌, List, All, length, map, reverse, slice_index_or, Option, None}
use Rattle.slot_core.specs.declared.slot.Slot.{Slot}
use Rattle.turn_lock.specs.declared.lock.TurnLock.{TurnLock}
use Rattle.turn_lock.specs.declared.pass.Pass.{Pass}
use Rattle.store_shared.specs.Parting.{IsFirst, IsFirstAt}
use Rattle.store_shared.specs.Turned.{made_slot}
use Rattle.store_shared.specs.declared.making.Fresh.{Fresh}
use Rattle.store_shared.specs.declared.shared.TurnedSlot.{TurnedSlot}

module _ {D A : Type 0} where
  -- new locks, each with its first pass
  abbrev pub AreFresh : List (Fresh D A) → Type 0
  AreFresh fresh = All (λ (one : Fresh D A). IsFirst one.lock one.pass) fresh

  -- the slots behind them, the last lock first
  abbrev pub unlocked : List (Fresh D A) → List (Slot D A)
  unlocked fresh = reverse (map (λ (one : Fresh D A). made_slot one.lock) fresh)

  -- locks with their first passes, in one order
  pub record AreFirst (locks : List (TurnLock (TurnedSlot D A))) (passes : List (Option (Pass (TurnedSlot D A)))) : Type 0 where
    pub long : length passes ≡ length locks
    pub each : (k : ℕ) (lock : TurnLock (TurnedSlot D A)) → k < length locks → IsFirstAt (slice_index_or locks k lock) (slice_index_or passes k None)
