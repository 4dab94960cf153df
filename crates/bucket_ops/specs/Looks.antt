-- What a call that only looks at a bucket does: HeadBucket and GetBucketVersioning.
use Rattle.std.specs.Prelude.{◌≡◌, ◌⊎◌, ℕ, true, false, Bool, List, [], Option, Some, None, Result, Ok, Err}
use Rattle.bucket_book.specs.Content.{IsBucketOf, content_of}
use Rattle.bucket_book.specs.Name.{IsBucketName}
use Rattle.call_types.specs.declared.feed.Cut.{Cut}
use Rattle.call_types.specs.declared.feed.Cut.TheVariants.{NoMemory}
use Rattle.call_types.specs.declared.names.Mode.{Mode}
use Rattle.call_types.specs.declared.refusal.Refusal.{Refusal}
use Rattle.call_types.specs.declared.refusal.Refusal.TheVariants.{NoSuchBucket, SeqSpent}
use Rattle.call_types.specs.declared.reply.Reply.{Reply}
use Rattle.call_types.specs.declared.reply.Reply.TheVariants.{Mode as ModeReply, Plain, Refused}
use Rattle.desk_base.specs.Answering.{Task}
use Rattle.desk_base.specs.declared.call.Call.{Call}
use Rattle.desk_base.specs.declared.call.Call.TheVariants.{HeadBucket, GetVersioning}
use Rattle.drive_base.specs.declared.plan.SetPlan.{SetPlan}
use Rattle.slot_core.specs.declared.slot.SlotFault.{SlotFault}
use Rattle.receipts.specs.declared.barred.Barred.{Barred}
use Rattle.receipts.specs.declared.barred.Barred.TheVariants as barred
use Rattle.receipts.specs.Events.{Log}
use Rattle.receipts.specs.Looks.{IsOfSection}
use Rattle.receipts.specs.Paying.{Pays}
use Rattle.op_steps.specs.Claims.{Claim, no_claim}
use Rattle.op_steps.specs.Notes.{refusal_by}
use Rattle.op_steps.specs.Ready.{IsReady}
use Rattle.op_steps.specs.declared.next.OpNext.{OpNext}
use Rattle.op_steps.specs.declared.next.OpNext.TheVariants as next
use Rattle.bucket_ops.specs.declared.state.State.{State}
use Rattle.bucket_ops.specs.declared.state.State.TheVariants.{Looking, Over, Telling}

-- a call only looks at a bucket
abbrev pub IsLook : Call → Type 0
IsLook (HeadBucket bucket) = IsBucketName bucket
IsLook (GetVersioning bucket) = IsBucketName bucket
IsLook other = ⊥

-- the call that asks for the mode of a bucket, or only whether it is there
abbrev pub look_call : Bool → List ℕ → Call
look_call true bucket = GetVersioning bucket
look_call false bucket = HeadBucket bucket

-- what a bucket of a mode is told to it
abbrev pub look_reply : Bool → Mode → Reply
look_reply true mode = ModeReply mode
look_reply false mode = Plain

-- the reply to a look, by its answer
abbrev pub LookReply : Bool → Result (List ℕ) SlotFault → Reply → Type 0
LookReply asks (Ok content) reply = ((content ≡ content_of None) × (reply ≡ Refused NoSuchBucket))
    ⊎ ((mode : Mode) × IsBucketOf content mode × (reply ≡ look_reply asks mode))
LookReply asks (Err fault) reply = (why : Refusal) × (refusal_by fault ≡ Some why) × IsOfSection why × (reply ≡ Refused why)

-- what an op is to do after its look: to tell the reply, or nothing, for want of memory
abbrev pub AfterLook : Bool → Result (List ℕ) SlotFault → State → Type 0
AfterLook asks answer Looking = ⊥
AfterLook asks answer (Telling reply) = LookReply asks answer reply
AfterLook asks answer (Over cut) = cut ≡ Some NoMemory

-- what comes next, and how much is left
abbrev pub step_of : State → ℕ → OpNext
step_of Looking slot = next.Section slot
step_of (Telling reply) slot = next.Tell
step_of (Over cut) slot = next.Done

abbrev pub left_of : State → ℕ
left_of Looking = 2
left_of (Telling reply) = 1
left_of (Over cut) = 0

-- why it was cut
abbrev pub cut_of : State → Option Cut
cut_of Looking = None
cut_of (Telling reply) = None
cut_of (Over cut) = cut

-- how far it is where the look can't be done
abbrev pub barred_state : Barred → State
barred_state barred.Spent = Telling (Refused SeqSpent)
barred_state barred.NoMemory = Over (Some NoMemory)

-- the log of an op so far, which holds nothing of its slot
abbrev pub HasDone : SetPlan → Task → State → Log → Type 0
HasDone set task Looking log = log ≡ []
HasDone set task (Telling reply) log = IsReady set task reply log
HasDone set task (Over cut) log = Pays set task cut log

pub record StandsSo (set : SetPlan) (task : Task) (slot : ℕ) (state : State) (claim : Claim) (log : Log) : Type 0 where
  pub none : claim ≡ no_claim slot
  pub done : HasDone set task state log
