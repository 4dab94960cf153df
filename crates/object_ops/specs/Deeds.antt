-- What a call does that commits an act to a key and has no body.
use Rattle.std.specs.Prelude.{◌≡◌, ◌⊎◌, ℕ, ◌+◌, ◌*◌, ◌≤◌, [], length, MatchOption, Option, Some, None, Result, Ok, Err}
use Rattle.call_types.specs.declared.act.Act.{Act}
use Rattle.call_types.specs.declared.feed.Cut.{Cut}
use Rattle.call_types.specs.declared.feed.Cut.TheVariants.{NoMemory}
use Rattle.call_types.specs.declared.names.Key.{Key}
use Rattle.call_types.specs.declared.names.Mode.{Mode}
use Rattle.call_types.specs.declared.refusal.Refusal.{Refusal}
use Rattle.call_types.specs.declared.refusal.Refusal.TheVariants.{SeqSpent}
use Rattle.call_types.specs.declared.reply.Reply.TheVariants.{Refused as RefusedReply}
use Rattle.desk_base.specs.Answering.{Task}
use Rattle.desk_base.specs.Calls.{IsKey, longest_kind}
use Rattle.desk_base.specs.declared.call.Call.{Call}
use Rattle.desk_base.specs.declared.call.Call.TheVariants.{Abort, Create, Delete}
use Rattle.drive_base.specs.declared.plan.SetPlan.{SetPlan}
use Rattle.slot_rules.specs.declared.commit.Commit.TheVariants.{Key as KeyCommit}
use Rattle.slot_rules.specs.declared.commit.Commit.{Commit}
use Rattle.slot_rules.specs.declared.commit.Committed.{Committed}
use Rattle.slot_core.specs.declared.slot.SlotFault.{SlotFault}
use Rattle.receipts.specs.Events.{Log}
use Rattle.receipts.specs.Paying.{Pays}
use Rattle.receipts.specs.Registers.{bucket_slot, key_slot}
use Rattle.receipts.specs.declared.barred.Barred.{Barred}
use Rattle.receipts.specs.declared.barred.Barred.TheVariants as barred
use Rattle.op_steps.specs.Claims.{Claim, no_claim}
use Rattle.op_steps.specs.Notes.{refusal_by}
use Rattle.op_steps.specs.Ready.{IsReady}
use Rattle.op_steps.specs.declared.next.OpNext.{OpNext}
use Rattle.op_steps.specs.declared.next.OpNext.TheVariants as next
use Rattle.op_steps.specs.declared.looking.Looked.{Looked}
use Rattle.op_steps.specs.declared.looking.Looked.TheVariants.{LacksMemory, Refused, There}
use Rattle.object_ops.specs.Clearing.{HasNone, files_left, left_of as left_to_clear, next_of, with_taken, ids_of}
use Rattle.object_ops.specs.KeyDeeds.{act_of}
use Rattle.object_ops.specs.Reading.{HasFound}
use Rattle.object_ops.specs.declared.clearing.Clearing.{Clearing}
use Rattle.object_ops.specs.declared.deed_op.DeedOp.{DeedOp}
use Rattle.object_ops.specs.declared.deed_op.DeedState.{DeedState}
use Rattle.object_ops.specs.declared.deed_op.DeedState.TheVariants.{Committing, Looking, Telling, Told}
use Rattle.object_ops.specs.declared.key_act.KeyAct.{KeyAct}
use Rattle.object_ops.specs.declared.key_act.KeyAct.TheVariants as asks

-- a call that a deed serves, which is lawful
abbrev pub IsDeed : Call → Type 0
IsDeed (Delete at pick) = IsKey at
IsDeed (Create at kind) = IsKey at × (length kind ≤ longest_kind)
IsDeed (Abort at upload) = IsKey at
IsDeed other = ⊥

-- the call that asks it
abbrev pub call_of : Key → KeyAct → Call
call_of at (asks.Delete pick) = Delete at pick
call_of at (asks.Create kind) = Create at kind
call_of at (asks.Abort upload) = Abort at upload

-- what is asked
abbrev pub deed_task : Key → KeyAct → ℕ → Task
deed_task at ask now = record { call = call_of at ask; now = now }

-- an op that has done nothing yet
pub record IsNewDeed (set : SetPlan) (at : Key) (ask : KeyAct) (now : ℕ) (op : DeedOp) : Type 0 where
  pub set_is : op.set ≡ set
  pub at_is : op.at ≡ at
  pub ask_is : op.ask ≡ ask
  pub now_is : op.now ≡ now
  pub state_is : op.state ≡ Looking
  pub none : HasNone op.clearing

-- a step leaves what it was asked, and where
pub record IsSameDeed (old new : DeedOp) : Type 0 where
  pub set : new.set ≡ old.set
  pub at : new.at ≡ old.at
  pub ask : new.ask ≡ old.ask
  pub now : new.now ≡ old.now

-- the deed that does an act, in a bucket of this mode
abbrev pub key_deed : Key → Act → Mode → Commit
key_deed at act mode = KeyCommit at mode act

-- what it is to do after the look at its bucket: to commit the deed in the mode that was shown, to tell why not, or nothing, for want of memory
abbrev pub AfterLook : Key → Act → Looked → DeedState → Type 0
AfterLook at act looked Looking = ⊥
AfterLook at act looked (Committing deed) = (mode : Mode) × (looked ≡ There mode) × (deed.commit ≡ key_deed at act mode)
AfterLook at act looked (Telling reply) = (why : Refusal) × (looked ≡ Refused why) × (reply ≡ RefusedReply why)
AfterLook at act looked (Told cut) = (cut ≡ Some NoMemory) × ((looked ≡ LacksMemory) ⊎ ((mode : Mode) × (looked ≡ There mode)))

-- what it is to do after its commit: to tell the reply, or the refusal, or nothing, for want of memory
abbrev pub AfterCommit : Result Committed SlotFault → DeedState → Type 0
AfterCommit (Ok made) state = state ≡ Telling made.done
AfterCommit (Err fault) state = MatchOption (refusal_by fault) (state ≡ Told (Some NoMemory)) (λ why. state ≡ Telling (RefusedReply why))

-- how far it is where its look or its commit can't be done
abbrev pub barred_state : Barred → DeedState
barred_state barred.Spent = Telling (RefusedReply SeqSpent)
barred_state barred.NoMemory = Told (Some NoMemory)

-- what comes next
abbrev pub step_at : Key → Clearing → DeedState → OpNext
step_at at clearing Looking = next.Section (bucket_slot at.bucket)
step_at at clearing (Committing deed) = next.Section (key_slot at)
step_at at clearing (Telling reply) = next.Tell
step_at at clearing (Told cut) = next_of (key_slot at) clearing

abbrev pub step_of : DeedOp → OpNext
step_of op = step_at op.at op.clearing op.state

-- how much is left. After the commit trash is taken
abbrev pub left_at : SetPlan → Clearing → DeedState → ℕ
left_at set clearing Looking = left_to_clear set clearing + 32 * set.drives + 4
left_at set clearing (Committing deed) = left_to_clear set clearing + 32 * set.drives + 3
left_at set clearing (Telling reply) = left_to_clear set clearing + 1
left_at set clearing (Told cut) = left_to_clear set clearing

abbrev pub left_of : DeedOp → ℕ
left_of op = left_at op.set op.clearing op.state

-- why it was cut
abbrev pub cut_of : DeedState → Option Cut
cut_of Looking = None
cut_of (Committing deed) = None
cut_of (Telling reply) = None
cut_of (Told cut) = cut

-- its log so far
abbrev pub HasDone : SetPlan → Key → Act → Task → DeedState → Log → Type 0
HasDone set at act task Looking log = log ≡ []
HasDone set at act task (Committing deed) log = (mode : Mode) × (deed.commit ≡ key_deed at act mode) × HasFound at.bucket mode log
HasDone set at act task (Telling reply) log = IsReady set task reply log
HasDone set at act task (Told cut) log = Pays set task cut log

-- what it holds, the ids of the files that are left, and its log
pub record StandsAt (set : SetPlan) (at : Key) (ask : KeyAct) (now : ℕ) (clearing : Clearing) (state : DeedState) (claim : Claim) (log : Log) : Type 0 where
  pub holds : claim ≡ with_taken (no_claim (key_slot at)) (ids_of (files_left clearing))
  pub done : HasDone set at (act_of ask) (deed_task at ask now) state log

abbrev pub DeedStands : DeedOp → Claim → Log → Type 0
DeedStands op claim log = StandsAt op.set op.at op.ask op.now op.clearing op.state claim log
