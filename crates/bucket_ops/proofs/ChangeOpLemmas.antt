-- The steps of a change of a bucket, as an op does them.
use Rattle.std.proofs.Common.{◌≡◌, ◌<◌, ◌∙◌, ℕ, zero, true, false, Bool, List, [], ◌∷◌, ◌++◌, All, Option, None, Result, Ok, Err, append-nil, length, vec_len, inl, inr, refl, sym, ap, subst, arith}
use Rattle.std.proofs.lemmas.List.{length-take-le}
use Rattle.std.proofs.lemmas.List.Elements.{All-append, Contains-append_right}
use Rattle.bucket_book.specs.Laws.{ContentIsInjective}
use Rattle.bucket_book.specs.declared.step.BucketAct.{BucketAct}
use Rattle.bucket_book.specs.declared.step.BucketAct.TheVariants as act
use Rattle.call_types.specs.Refusals.{refusal_of}
use Rattle.call_types.specs.declared.refusal.Refusal.TheVariants as refused
use Rattle.call_types.specs.declared.reply.Reply.{Reply}
use Rattle.call_types.specs.declared.reply.Reply.TheVariants as told
use Rattle.desk_base.specs.Calls.{stated_length}
use Rattle.drive_base.specs.declared.drive.Drive.{Ghosts}
use Rattle.drive_base.specs.Files.{Files}
use Rattle.drive_base.specs.declared.plan.SetPlan.{SetPlan}
use Rattle.register_core.specs.declared.faults.QuorumFault.TheVariants.{NoMemory as NoMemoryQuorum, ReadQuorum, Undecided, WriteQuorum}
use Rattle.s3_docs.specs.Documents.{IsDocument}
use Rattle.s3_docs.specs.Machine.Value.{Versioning}
use Rattle.s3_docs.specs.declared.prologue.Root.TheVariants.{VersioningConfiguration}
use Rattle.slot_rules.specs.Deeds.{call_of, name_of}
use Rattle.slot_rules.specs.Planning.{IsBucketDeed}
use Rattle.slot_rules.specs.declared.commit.Commit.TheVariants.{SetMode}
use Rattle.slot_rules.specs.declared.commit.Commit.{Commit}
use Rattle.slot_rules.specs.declared.commit.Committed.{Committed}
use Rattle.slot_core.specs.CommitCauses.{CommitCause, deed_in}
use Rattle.slot_core.specs.Stubs.{entry_of}
use Rattle.slot_core.specs.Views.{SlotNumbers}
use Rattle.slot_core.specs.declared.slot.SlotFault.{SlotFault}
use Rattle.slot_core.specs.declared.slot.SlotFault.TheVariants.{AuditFailed, Key, NoMemory, NotInFlight, Quorum, SeqSpent}
use Rattle.slot_core.specs.declared.stub.Stub.{Stub}
use Rattle.receipts.specs.Bucketing.{BucketActOwes}
use Rattle.receipts.specs.Events.{Event, IsUntold, Log, body_of, cut_in, cuts_of, section_in, sections_of, taken_in}
use Rattle.receipts.specs.Events.Event.{BarredFrom, Turned}
use Rattle.receipts.specs.Events.Shown.{NoneShown}
use Rattle.receipts.specs.Owes.{OwesCall}
use Rattle.receipts.specs.Paying.{ChangesNothing, DidNoMore}
use Rattle.receipts.specs.Registers.{bucket_register, bucket_slot}
use Rattle.receipts.specs.declared.barred.Barred.TheVariants as barred
use Rattle.receipts.proofs.JoinLemmas.{bodies_join, cuts_join, sections_join}
use Rattle.op_steps.specs.Notes.{noted}
use Rattle.op_steps.specs.Ready.{IsReady}
use Rattle.op_steps.proofs.TellLemmas.{none_pays, none_told, one_untold}
use Rattle.bucket_ops.specs.Changes.{AfterCommit, HasChanged, IsDeedOf, MayCommit, change_call, change_task}
use Rattle.bucket_ops.specs.declared.change_state.ChangeState.{ChangeState}
use Rattle.bucket_ops.specs.declared.change_state.ChangeState.TheVariants.{Telling}
use Rattle.bucket_ops.specs.declared.document.Document.{Document}
use Rattle.bucket_ops.proofs.ChangeLemmas.{Commits, commit_owes, with_turn}

-- what one event more adds to each reading of a log
pub body_with : (log : Log) (event : Event) → body_of (log ++ event ∷ []) ≡ body_of log ++ taken_in event
body_with log event = bodies_join log (event ∷ []) ∙ ap (λ l. body_of log ++ l) (append-nil (taken_in event))

pub cuts_with : (log : Log) (event : Event) → cuts_of log ≡ [] → cuts_of (log ++ event ∷ []) ≡ cut_in event
cuts_with log event none = cuts_join log (event ∷ []) ∙ (ap (λ l. l ++ (cut_in event ++ [])) none ∙ append-nil (cut_in event))

pub sections_with : (log : Log) (event : Event) → sections_of log ≡ [] → sections_of (log ++ event ∷ []) ≡ section_in event
sections_with log event none = sections_join log (event ∷ []) ∙ (ap (λ l. l ++ (section_in event ++ [])) none ∙ append-nil (section_in event))

pub untold_with : (log : Log) (event : Event) → All IsUntold log → IsUntold event → All IsUntold (log ++ event ∷ [])
untold_with log event all is = All-append IsUntold log (event ∷ []) all (one_untold event is)

-- a log without a section changed nothing
pub idle_log : (log : Log) → sections_of log ≡ [] → All ChangesNothing (sections_of log)
idle_log log none = subst (λ sections. All ChangesNothing sections) (sym none) (λ k d l. let below : k < 0 = l in absurd (omega arith))

pub still_nothing : (set : SetPlan) (sets : Bool) (document : Document) (bucket : List ℕ) (now : ℕ) (log : Log) → sections_of log ≡ []
    → DidNoMore set (change_task sets document bucket now) log
still_nothing set sets document bucket now log none =
    inl (idle_log log none)

-- the whole body was taken
whole_after : (sets : Bool) (document : Document) (bucket : List ℕ) (deed : Commit) (before : Log) (event : Event) → MayCommit sets document bucket deed before
    → taken_in event ≡ [] → length (body_of (before ++ event ∷ [])) ≡ stated_length (change_call sets (vec_len document.bytes) bucket)
whole_after sets document bucket deed before event may none =
    ap length (body_with before event ∙ (ap (λ l. body_of before ++ l) none ∙ (append-nil (body_of before) ∙ may.taken.body_is)))
    ∙ (length-take-le document.taken document.bytes.items (let within = document.within in omega (arith, within)) ∙ may.whole)

-- a call is owed what its change is
owes_call : (set : SetPlan) (sets : Bool) (document : Document) (bucket : List ℕ) (now : ℕ) (deed : Commit) (reply : Reply) (before : Log) (event : Event)
    → MayCommit sets document bucket deed before → taken_in event ≡ []
    → ((done : BucketAct) → IsBucketDeed deed done → BucketActOwes bucket (λ change. call_of deed change now) reply (before ++ event ∷ []))
    → OwesCall set (change_call sets (vec_len document.bytes) bucket) now reply (before ++ event ∷ [])
owes_call set false document bucket now deed reply before event may none owes = (
  whole_after false document bucket deed before event may none,
  subst (λ d. BucketActOwes bucket (λ change. call_of d change now) reply (before ++ event ∷ [])) may.deed_is
      (owes act.Make (subst (λ d. IsBucketDeed d act.Make) (sym may.deed_is) refl)),
)
owes_call set true document bucket now deed reply before event may none owes =
    let mode = may.deed_is.0 in
    let is : deed ≡ SetMode bucket mode = may.deed_is.2 in (
      whole_after true document bucket deed before event may none,
      inl (record {
        mode = mode;
        document = subst (λ bytes. IsDocument VersioningConfiguration bytes (Versioning mode))
            (sym (body_with before event ∙ (ap (λ l. body_of before ++ l) none ∙ (append-nil (body_of before) ∙ may.taken.body_is)))) may.deed_is.1;
        owes = subst (λ d. BucketActOwes bucket (λ change. call_of d change now) reply (before ++ event ∷ [])) is
            (owes (act.SetMode mode) (subst (λ d. IsBucketDeed d (act.SetMode mode)) (sym is) refl));
      }),
    )

-- a call is owed that its change could not be committed
pub owes_barred : (set : SetPlan) (sets : Bool) (document : Document) (bucket : List ℕ) (now : ℕ) (deed : Commit) (before : Log)
    → MayCommit sets document bucket deed before
    → OwesCall set (change_call sets (vec_len document.bytes) bucket) now (told.Refused refused.SeqSpent) (before ++ BarredFrom (bucket_slot bucket) barred.Spent ∷ [])
owes_barred set sets document bucket now deed before may =
    owes_call set sets document bucket now deed (told.Refused refused.SeqSpent) before (BarredFrom (bucket_slot bucket) barred.Spent) may refl
    (λ done kind. inr (record {
      sections = sections_with before (BarredFrom (bucket_slot bucket) barred.Spent) may.taken.sections;
      barred = record {
        spent = Contains-append_right before (BarredFrom (bucket_slot bucket) barred.Spent ∷ []) (BarredFrom (bucket_slot bucket) barred.Spent) (zero, omega arith, refl);
        told = refl;
      };
    }))

-- the name of the deed's register
pub deed_named : (sets : Bool) (document : Document) (bucket : List ℕ) (deed : Commit) (body : List ℕ) → IsDeedOf sets bucket body deed → name_of deed ≡ bucket_register bucket
deed_named false document bucket deed body is = ap name_of is
deed_named true document bucket deed body is = ap name_of is.2

-- a commit that found no memory has no section
memory_still : (numbers : SlotNumbers) (stub : Option Stub) (log : Log) → stub ≡ None
    → sections_of log ≡ [] → sections_of (with_turn log numbers.index stub) ≡ []
memory_still numbers stub log none_made none =
    subst (λ s. sections_of (with_turn log numbers.index s) ≡ []) (sym none_made) (sections_with log (Turned numbers.index (noted None) NoneShown) none)

module _ {D : Type 0} (ghosts : Ghosts D) (one : ContentIsInjective) (numbers later : SlotNumbers) (deed : Commit) (stub : Option Stub)
    (old new disks disks_after : List D) (set : SetPlan) (sets : Bool) (document : Document) (bucket : List ℕ) (now : ℕ) (before : Log)
    (may : MayCommit sets document bucket deed before) where
  -- a reply that an answer has may be told
  reply_ready : (answer : Result Committed SlotFault) (reply : Reply) → Commits numbers bucket deed now answer stub
      → CommitCause ghosts numbers later deed None now answer (deed_in (entry_of stub)) old new disks disks_after → AfterCommit answer (Telling reply)
      → IsReady set (change_task sets document bucket now) reply (with_turn before numbers.index stub)
  reply_ready answer reply x cause after = record {
    untold = untold_with before (Turned numbers.index (noted stub) NoneShown) may.taken.untold tt;
    uncut = cuts_with before (Turned numbers.index (noted stub) NoneShown) may.taken.uncut;
    owed = owes_call set sets document bucket now deed reply before (Turned numbers.index (noted stub) NoneShown) may refl
        (λ done kind. commit_owes {D = D} ghosts one numbers later bucket deed done now before stub old new disks disks_after kind may.taken.sections
        answer reply x cause after);
  }

  telling_done : (answer : Result Committed SlotFault) (reply : Reply) (state : ChangeState) → Commits numbers bucket deed now answer stub
      → CommitCause ghosts numbers later deed None now answer (deed_in (entry_of stub)) old new disks disks_after → AfterCommit answer (Telling reply)
      → state ≡ Telling reply → HasChanged set sets document bucket now state (with_turn before numbers.index stub)
  telling_done answer reply state x cause after is =
      subst (λ s. HasChanged set sets document bucket now s (with_turn before numbers.index stub)) (sym is) (reply_ready answer reply x cause after)

  -- what an op has done after its commit
  pub change_done : (answer : Result Committed SlotFault) (state : ChangeState) → Commits numbers bucket deed now answer stub
      → CommitCause ghosts numbers later deed None now answer (deed_in (entry_of stub)) old new disks disks_after → AfterCommit answer state
      → HasChanged set sets document bucket now state (with_turn before numbers.index stub)
  change_done (Ok made) state x cause after = telling_done (Ok made) made.done state x cause refl after
  change_done (Err (Key why)) state x cause after = telling_done (Err (Key why)) (told.Refused (refusal_of why)) state x cause refl after
  change_done (Err (Quorum (ReadQuorum whys))) state x cause after =
      telling_done (Err (Quorum (ReadQuorum whys))) (told.Refused (refused.ReadQuorum whys)) state x cause refl after
  change_done (Err (Quorum (WriteQuorum whys))) state x cause after =
      telling_done (Err (Quorum (WriteQuorum whys))) (told.Refused (refused.WriteQuorum whys)) state x cause refl after
  change_done (Err (Quorum (Undecided k u whys))) state x cause after =
      telling_done (Err (Quorum (Undecided k u whys))) (told.Refused (refused.Undecided k u whys)) state x cause refl after
  change_done (Err (Quorum NoMemoryQuorum)) state x cause after = absurd (cause.0 refl)
  change_done (Err SeqSpent) state x cause after = telling_done (Err SeqSpent) (told.Refused refused.SeqSpent) state x cause refl after
  change_done (Err (AuditFailed b a)) state x cause after =
      telling_done (Err (AuditFailed b a)) (told.Refused (refused.AuditFailed b a)) state x cause refl after
  change_done (Err NoMemory) state x cause after =
      subst (λ s. HasChanged set sets document bucket now s (with_turn before numbers.index stub)) (sym after)
      (none_pays set (change_task sets document bucket now) (with_turn before numbers.index stub)
      (cuts_with before (Turned numbers.index (noted stub) NoneShown) may.taken.uncut)
      (none_told (with_turn before numbers.index stub) (untold_with before (Turned numbers.index (noted stub) NoneShown) may.taken.untold tt))
      (still_nothing set sets document bucket now (with_turn before numbers.index stub) (memory_still numbers stub before x.stub_is may.taken.sections)))
  change_done (Err (NotInFlight id)) state x cause after =
      telling_done (Err (NotInFlight id)) (told.Refused (refused.NotInFlight id)) state x cause refl after
