-- What a call does that changes a bucket: CreateBucket and PutBucketVersioning.
use Rattle.std.specs.Prelude.{◌≡◌, ◌+◌, ◌-◌, ◌≤◌, ℕ, true, false, Bool, List, [], All, MatchOption, Option, Some, None, Result, Ok, Err, vec_len}
use Rattle.bucket_book.specs.Name.{IsBucketName}
use Rattle.call_types.specs.declared.feed.Cut.{Cut}
use Rattle.call_types.specs.declared.feed.Cut.TheVariants.{NoMemory}
use Rattle.call_types.specs.declared.names.Mode.{Mode}
use Rattle.call_types.specs.declared.refusal.Refusal.TheVariants.{MalformedXML, SeqSpent}
use Rattle.call_types.specs.declared.reply.Reply.TheVariants.{Refused}
use Rattle.desk_base.specs.Answering.{Task}
use Rattle.desk_base.specs.Calls.{most_document, stated_length}
use Rattle.desk_base.specs.declared.call.Call.{Call}
use Rattle.desk_base.specs.declared.call.Call.TheVariants.{CreateBucket, PutVersioning}
use Rattle.drive_base.specs.declared.plan.SetPlan.{SetPlan}
use Rattle.s3_docs.specs.Documents.{IsDocument, IsPlace}
use Rattle.s3_docs.specs.Machine.Value.{Versioning}
use Rattle.s3_docs.specs.declared.prologue.Root.TheVariants.{VersioningConfiguration}
use Rattle.slot_rules.specs.declared.commit.Commit.TheVariants.{MakeBucket, SetMode}
use Rattle.slot_rules.specs.declared.commit.Commit.{Commit}
use Rattle.slot_rules.specs.declared.commit.Committed.{Committed}
use Rattle.slot_core.specs.declared.slot.SlotFault.{SlotFault}
use Rattle.receipts.specs.declared.barred.Barred.{Barred}
use Rattle.receipts.specs.declared.barred.Barred.TheVariants as barred
use Rattle.receipts.specs.Events.{IsUntold, Log, body_of, cuts_of, sections_of}
use Rattle.receipts.specs.Paying.{Pays}
use Rattle.op_steps.specs.Claims.{Claim, no_claim}
use Rattle.op_steps.specs.Notes.{refusal_by}
use Rattle.op_steps.specs.Ready.{IsReady}
use Rattle.op_steps.specs.declared.next.OpNext.{OpNext}
use Rattle.op_steps.specs.declared.next.OpNext.TheVariants as next
use Rattle.bucket_ops.specs.declared.change_state.ChangeState.{ChangeState}
use Rattle.bucket_ops.specs.declared.change_state.ChangeState.TheVariants.{Committing, Over, Reading, Telling}
use Rattle.bucket_ops.specs.declared.document.Document.{Document}
use Rattle.bucket_ops.specs.Taking.{taken_of}

-- a call changes a bucket. The document of one that sets its mode isn't longer than is read
abbrev pub IsChange : Call → Type 0
IsChange (CreateBucket bucket) = IsBucketName bucket
IsChange (PutVersioning bucket long) = IsBucketName bucket × (long ≤ most_document)
IsChange other = ⊥

-- the call that makes a bucket, or that sets its mode by a document of this length
abbrev pub change_call : Bool → ℕ → List ℕ → Call
change_call false long bucket = CreateBucket bucket
change_call true long bucket = PutVersioning bucket long

-- the deed of such a call whose body was this: it makes the bucket, or sets the mode that the document says
abbrev pub IsDeedOf : Bool → List ℕ → List ℕ → Commit → Type 0
IsDeedOf false bucket body deed = deed ≡ MakeBucket bucket
IsDeedOf true bucket body deed = (mode : Mode) × IsDocument VersioningConfiguration body (Versioning mode) × (deed ≡ SetMode bucket mode)

-- what an op is to do once it has the whole document: to commit the mode that this says, or to tell where it stops to be one; or nothing, for want of memory
abbrev pub AfterDocument : List ℕ → List ℕ → ChangeState → Type 0
AfterDocument bucket body Reading = ⊥
AfterDocument bucket body (Committing deed) = IsDeedOf true bucket body deed.commit
AfterDocument bucket body (Telling reply) = (place : ℕ) × IsPlace VersioningConfiguration body place × (reply ≡ Refused (MalformedXML place))
AfterDocument bucket body (Over cut) = cut ≡ Some NoMemory

-- what it is to do after its commit: to tell the reply, or the refusal, or nothing, for want of memory
abbrev pub AfterCommit : Result Committed SlotFault → ChangeState → Type 0
AfterCommit (Ok made) state = state ≡ Telling made.done
AfterCommit (Err fault) state = MatchOption (refusal_by fault) (state ≡ Over (Some NoMemory)) (λ why. state ≡ Telling (Refused why))

-- what comes next, how much is left, and how much was taken of the body
abbrev pub step_of : ChangeState → ℕ → OpNext
step_of Reading slot = next.Feed
step_of (Committing deed) slot = next.Section slot
step_of (Telling reply) slot = next.Tell
step_of (Over cut) slot = next.Done

abbrev pub left_of : ChangeState → Document → ℕ
left_of Reading document = vec_len document.bytes - document.taken + 2
left_of (Committing deed) document = 2
left_of (Telling reply) document = 1
left_of (Over cut) document = 0

-- why it was cut
abbrev pub cut_of : ChangeState → Option Cut
cut_of Reading = None
cut_of (Committing deed) = None
cut_of (Telling reply) = None
cut_of (Over cut) = cut

-- how far it is where the commit can't be done
abbrev pub barred_state : Barred → ChangeState
barred_state barred.Spent = Telling (Refused SeqSpent)
barred_state barred.NoMemory = Over (Some NoMemory)

-- no section was done yet, nothing was told or failed, and this was taken of the body
pub record HasTaken (body : List ℕ) (log : Log) : Type 0 where
  pub sections : sections_of log ≡ []
  pub untold : All IsUntold log
  pub uncut : cuts_of log ≡ []
  pub body_is : body_of log ≡ body

-- the task of such a call, which has this document
abbrev pub change_task : Bool → Document → List ℕ → ℕ → Task
change_task sets document bucket now = record { call = change_call sets (vec_len document.bytes) bucket; now = now }

-- the whole body was taken, and the deed is that of the call
pub record MayCommit (sets : Bool) (document : Document) (bucket : List ℕ) (deed : Commit) (log : Log) : Type 0 where
  pub taken : HasTaken (taken_of document) log
  pub whole : document.taken ≡ stated_length (change_call sets (vec_len document.bytes) bucket)
  pub deed_is : IsDeedOf sets bucket (taken_of document) deed

-- the log of an op so far, which holds nothing of its slot
abbrev pub HasChanged : SetPlan → Bool → Document → List ℕ → ℕ → ChangeState → Log → Type 0
HasChanged set sets document bucket now Reading log = HasTaken (taken_of document) log × (sets ≡ true)
HasChanged set sets document bucket now (Committing deed) log = MayCommit sets document bucket deed.commit log
HasChanged set sets document bucket now (Telling reply) log = IsReady set (change_task sets document bucket now) reply log
HasChanged set sets document bucket now (Over cut) log = Pays set (change_task sets document bucket now) cut log

pub record ChangeStands (set : SetPlan) (sets : Bool) (document : Document) (bucket : List ℕ) (now slot : ℕ) (state : ChangeState) (claim : Claim) (log : Log) : Type 0 where
  pub none : claim ≡ no_claim slot
  pub done : HasChanged set sets document bucket now state log
