-- A GetObject that isn't refused or cut for want of manifests or blocks where enough data drives serve.
use Rattle.std.specs.Prelude.{◌≡◌, ◌⊎◌, ℕ, ◌<◌, List, Option}
use Rattle.std.specs.Int.{IsBitSet}
use Rattle.call_types.specs.declared.names.Key.{Key}
use Rattle.call_types.specs.declared.names.Pick.{Pick}
use Rattle.call_types.specs.declared.names.RangeAsk.{RangeAsk}
use Rattle.call_types.specs.declared.refusal.Refusal.TheVariants.{ShardQuorum}
use Rattle.call_types.specs.declared.reply.Reply.TheVariants.{Refused}
use Rattle.call_types.specs.declared.why.Why.{Why}
use Rattle.desk_base.specs.Answering.{Task}
use Rattle.desk_base.specs.Telling.{Effect, Telling}
use Rattle.desk_base.specs.declared.call.Call.TheVariants.{Get}
use Rattle.drive_base.specs.declared.drive.Drive.{Ghosts}
use Rattle.drive_base.specs.declared.plan.SetPlan.{SetPlan}
use Rattle.receipts.specs.Events.{Log}
use Rattle.receipts.specs.Letters.{Wanted}
use Rattle.receipts.specs.Paying.{BodyIsCut, WasOwed}
use Rattle.log_laws.specs.Reads.{EnoughServeReads, ShowsAnother}
use Rattle.log_laws.specs.Requests.{LogComplete}
use Rattle.op_steps.specs.Steps.{Ran}
use Rattle.op_steps.specs.Store.{Store}

-- a call was told letters of data drives: they were the reply that was owed, or they cut a body after some of its bytes
abbrev pub TellsLetters : SetPlan → Task → List Why → Log → Type 0
TellsLetters set task whys log = WasOwed set task (Refused (ShardQuorum whys)) log ⊎ ((tale : List Telling) × BodyIsCut set task whys tale log)

module _ {D T : Type 0} (ghosts : Ghosts D) (takes breaks : Effect T) where
  -- where enough data drives serve in the log of a GetObject, and the log is complete so, it is told letters only where a drive that isn't one of them showed
  -- another manifest
  abbrev pub GetsGoOn : Type 0
  GetsGoOn = (set : SetPlan) (task : Task) (at : Key) (pick : Pick) (ask : RangeAsk) (matches : Option (List ℕ)) (disks : ℕ) (whys : List Why) (log : Log)
      (old new : Store D T) (ran : Ran ghosts takes breaks set log old new) → LogComplete ghosts takes breaks set log old new ran → task.call ≡ Get at pick ask matches
      → EnoughServeReads ghosts takes breaks set disks log old new ran → TellsLetters set task whys log
      → (wanted : Wanted) × ShowsAnother ghosts takes breaks set disks wanted log old new

  -- where all data drives do, it is told none
  abbrev pub GetsLackNothing : Type 0
  GetsLackNothing = (set : SetPlan) (task : Task) (at : Key) (pick : Pick) (ask : RangeAsk) (matches : Option (List ℕ)) (disks : ℕ) (whys : List Why) (log : Log)
      (old new : Store D T) (ran : Ran ghosts takes breaks set log old new) → LogComplete ghosts takes breaks set log old new ran → task.call ≡ Get at pick ask matches
      → EnoughServeReads ghosts takes breaks set disks log old new ran → ((k : ℕ) → k < set.drives → IsBitSet disks k) → TellsLetters set task whys log → ⊥
