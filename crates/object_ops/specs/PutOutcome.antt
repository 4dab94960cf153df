-- What a PutObject does after each of its sections.
use Rattle.std.specs.Prelude.{◌≡◌, ◌⊎◌, ℕ, ◌<◌, ◌≤◌, Option, Some, None, MatchOption, Result, Ok, Err}
use Rattle.call_types.specs.declared.feed.Cut.TheVariants.{NoMemory}
use Rattle.call_types.specs.declared.names.Mode.{Mode}
use Rattle.call_types.specs.declared.refusal.Refusal.{Refusal}
use Rattle.call_types.specs.declared.refusal.Refusal.TheVariants as refusal
use Rattle.call_types.specs.declared.reply.Reply.{Reply}
use Rattle.call_types.specs.declared.reply.Reply.TheVariants as reply
use Rattle.put_stage.specs.StagedBodies.{Concludes, StagesBody}
use Rattle.put_stage.specs.Steps.{MayFinish}
use Rattle.put_stage.specs.declared.stage.Stage.{Stage}
use Rattle.put_stage.specs.declared.answers.Staged.{Staged}
use Rattle.put_stage.specs.declared.answers.StageFault.{StageFault}
use Rattle.put_stage.specs.declared.answers.StageFault.TheVariants as fault
use Rattle.slot_rules.specs.declared.commit.Committed.{Committed}
use Rattle.slot_core.specs.declared.slot.SlotFault.{SlotFault}
use Rattle.slot_core.specs.declared.slot.SlotFault.TheVariants as slot
use Rattle.stamp_id.specs.declared.version.VersionId.{VersionId}
use Rattle.receipts.specs.declared.barred.Barred.{Barred}
use Rattle.receipts.specs.declared.barred.Barred.TheVariants as barred
use Rattle.op_steps.specs.Notes.{refusal_by}
use Rattle.op_steps.specs.declared.looking.Looked.{Looked}
use Rattle.op_steps.specs.declared.looking.Looked.TheVariants as looked
use Rattle.object_ops.specs.PutTarget.{deed_of}
use Rattle.object_ops.specs.declared.put_state.PutState.{PutState}
use Rattle.object_ops.specs.declared.put_state.PutState.TheVariants.{Beginning, Draining, Dropping, Staging, Telling, Told}
use Rattle.object_ops.specs.declared.put_state.Work.{Work}
use Rattle.object_ops.specs.declared.put_outcome.PutEnd.{PutEnd}
use Rattle.object_ops.specs.declared.put_outcome.PutEnd.TheVariants as end
use Rattle.object_ops.specs.declared.put_target.PutTarget.{PutTarget}

-- how far it is once it has a reply: where bytes of the body are left these are taken first
abbrev pub OwesNext : Reply → ℕ → ℕ → PutState → Type 0
OwesNext told read long state = ((read < long) × (state ≡ Draining told)) ⊎ ((long ≤ read) × (state ≡ Telling told))

-- after the look at its bucket
abbrev pub AfterLook : Looked → ℕ → PutState → Type 0
AfterLook (looked.There mode) long state = state ≡ Beginning mode
AfterLook (looked.Refused why) long state = OwesNext (reply.Refused why) 0 long state
AfterLook looked.LacksMemory long state = state ≡ Told (Some NoMemory)

-- where its look or the begin of its put can't be done
abbrev pub BarredAt : Barred → ℕ → ℕ → PutState → Type 0
BarredAt barred.Spent read long state = OwesNext (reply.Refused refusal.SeqSpent) read long state
BarredAt barred.NoMemory read long state = state ≡ Told (Some NoMemory)

-- where the begin of its put is refused: only that its slot's numbers are spent has a reply
abbrev pub RefusedBegin : SlotFault → ℕ → PutState → Type 0
RefusedBegin slot.SeqSpent long state = OwesNext (reply.Refused refusal.SeqSpent) 0 long state
RefusedBegin other long state = state ≡ Told (Some NoMemory)

-- where the end of its put can't be done: without memory the put is given up
abbrev pub BarredEnd : Work → Barred → ℕ → ℕ → PutState → Type 0
BarredEnd work barred.Spent read long state = OwesNext (reply.Refused refusal.SeqSpent) read long state
BarredEnd work barred.NoMemory read long state = state ≡ Dropping work.flight NoMemory

-- where any section can't be done: a put that is given up goes without it
abbrev pub BarredAfter : PutState → Barred → ℕ → ℕ → PutState → Type 0
BarredAfter (Staging work) why read long state = BarredEnd work why read long state
BarredAfter (Dropping flight cut) why read long state = state ≡ Told (Some cut)
BarredAfter other why read long state = BarredAt why read long state

-- the refusal of the call that a stage's is
abbrev pub refusal_of_stage : StageFault → Option Refusal
refusal_of_stage (fault.WriteQuorum whys) = Some (refusal.WriteQuorum whys)
refusal_of_stage (fault.BadDigest stated computed) = Some (refusal.BadDigest stated computed)
refusal_of_stage fault.BodyCut = None
refusal_of_stage fault.ReadFault = None
refusal_of_stage fault.NoMemory = None

-- a stage that is over answers so
pub record Answers (stage : Stage) (result : Result Staged StageFault) : Type 0 where
  pub may : MayFinish stage
  pub concludes : Concludes stage result
  pub body : StagesBody stage result

-- how a put ends whose stage is over: the body is committed, or the put is given up for the stage's refusal. Want of memory says nothing
abbrev pub Ends : PutTarget → Mode → VersionId → Stage → PutEnd → Type 0
Ends target mode id stage (end.Commits deed) = (staged : Staged) × (deed ≡ deed_of target mode id staged) × Answers stage (Ok staged)
Ends target mode id stage (end.GivesUp why) = (fault : StageFault) × (refusal_of_stage fault ≡ Some why) × Answers stage (Err fault)
Ends target mode id stage end.LacksMemory = Unit {0}

-- after its commit: the reply is told, or the refusal, or nothing, for want of memory
abbrev pub AfterCommit : Result Committed SlotFault → PutState → Type 0
AfterCommit (Ok made) state = state ≡ Telling made.done
AfterCommit (Err fault) state = MatchOption (refusal_by fault) (state ≡ Told (Some NoMemory)) (λ why. state ≡ Telling (reply.Refused why))
