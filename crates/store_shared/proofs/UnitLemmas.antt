-- A log of steps with some teller is one with a teller of which only the count of faults is seen.
use Rattle.std.proofs.Common.{ℕ, List, [], ◌∷◌, Option, Some, None, ap, refl}
use Rattle.call_types.specs.declared.feed.Cut.{Cut}
use Rattle.call_types.specs.declared.feed.Cut.TheVariants as cut_of
use Rattle.desk_base.specs.Telling.{Effect, Telling}
use Rattle.drive_base.specs.View.{DriveView}
use Rattle.drive_base.specs.declared.plan.SetPlan.{SetPlan}
use Rattle.receipts.specs.Events.{Event, Log, Note, Shown}
use Rattle.receipts.specs.Events.Event.{BarredFrom, Called, Fed, Told, Turned}
use Rattle.receipts.specs.declared.barred.Barred.{Barred}
use Rattle.op_steps.specs.Claims.{Claim}
use Rattle.op_steps.specs.Moves.{TellMoves}
use Rattle.op_steps.specs.Steps.{RanOver, StepOver}
use Rattle.op_steps.specs.Store.{FeedSeen, StoreOver, TellerSeen, any_effect, store_of}
use Rattle.store_shared.specs.Answers.{any_teller}
use Rattle.store_shared.specs.Serving.{OnlyTold}

-- the store with such a teller
abbrev pub unseen : {S T : Type 0} → StoreOver S T → StoreOver S (Unit {0})
unseen store = store_of store.slots store.disks store.claim store.feed (any_teller store.teller.faults)

module _ {T : Type 0} (takes breaks : Effect T) where
  pub tell_any : (telling : Telling) (cut : Option Cut) (old new : TellerSeen T) → TellMoves takes breaks telling cut old new
      → TellMoves any_effect any_effect telling cut (any_teller old.faults) (any_teller new.faults)
  tell_any telling None old new moves = (tt, moves.1)
  tell_any telling (Some cut_of.ReadFault) old new moves = absurd moves
  tell_any telling (Some (cut_of.BodyCut read stated)) old new moves = absurd moves
  tell_any telling (Some cut_of.WriteFault) old new moves = (tt, moves.1)
  tell_any telling (Some (cut_of.ShardCut whys)) old new moves = absurd moves
  tell_any telling (Some cut_of.NoMemory) old new moves = (refl, moves.1)

  module _ {S : Type 0} (turns : (U : Type 0) → ℕ → Option Note → Shown → StoreOver S U → StoreOver S U → Type 0)
      (bars : (U : Type 0) → ℕ → Barred → StoreOver S U → StoreOver S U → Type 0) (set : SetPlan)
      (turn_any : (k : ℕ) (made : Option Note) (shown : Shown) (old new : StoreOver S T) → turns T k made shown old new
      → turns (Unit {0}) k made shown (unseen old) (unseen new))
      (bar_any : (k : ℕ) (why : Barred) (old new : StoreOver S T) → bars T k why old new → bars (Unit {0}) k why (unseen old) (unseen new)) where
    step_any : (event : Event) (old new : StoreOver S T) → StepOver (turns T) (bars T) takes breaks set event old new
        → StepOver (turns (Unit {0})) (bars (Unit {0})) any_effect any_effect set event (unseen old) (unseen new)
    step_any (Turned k made shown) old new step = turn_any k made shown old new step
    step_any (BarredFrom k why) old new step = bar_any k why old new step
    step_any (Called k made) old new step = record { moves = step.moves; leaves = ap unseen step.leaves }
    step_any (Fed bytes cut) old new step = record { moves = step.moves; leaves = ap unseen step.leaves }
    step_any (Told telling cut) old new step =
        record { moves = tell_any telling cut old.teller new.teller step.moves; leaves = ap unseen step.leaves }

    pub ran_any : (log : Log) (old new : StoreOver S T) → RanOver (turns T) (bars T) takes breaks set log old new
        → RanOver (turns (Unit {0})) (bars (Unit {0})) any_effect any_effect set log (unseen old) (unseen new)
    ran_any [] old new ran = ap unseen ran
    ran_any (event ∷ log) old new (mid, step, ran) = (unseen mid, step_any event old mid step, ran_any log mid new ran)

module _ {S : Type 0} (turns : ℕ → Option Note → Shown → StoreOver S (Unit {0}) → StoreOver S (Unit {0}) → Type 0)
    (bars : ℕ → Barred → StoreOver S (Unit {0}) → StoreOver S (Unit {0}) → Type 0) (set : SetPlan)
    (slots : S) (disks : List DriveView) (claim : Claim) (feed : FeedSeen) where
  -- tellings alone leave slots and drives
  pub told_ran : (log : Log) (faults after : ℕ) → OnlyTold log faults after
      → RanOver turns bars any_effect any_effect set log (store_of slots disks claim feed (any_teller faults)) (store_of slots disks claim feed (any_teller after))
  told_ran [] faults after told = ap (λ n. store_of slots disks claim feed (any_teller n)) told
  told_ran (Turned k made shown ∷ log) faults after told = absurd told
  told_ran (BarredFrom k why ∷ log) faults after told = absurd told
  told_ran (Called k made ∷ log) faults after told = absurd told
  told_ran (Fed bytes cut ∷ log) faults after told = absurd told
  told_ran (Told telling cut ∷ log) faults after (mid, moves, told) =
      (store_of slots disks claim feed (any_teller mid), record { moves = moves; leaves = refl }, told_ran log mid after told)
