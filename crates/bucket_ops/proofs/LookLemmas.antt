-- What is owed to a call that looks at a bucket, after its look.
use Rattle.std.proofs.Common.{◌≡◌, ◌<◌, ℕ, zero, true, false, Bool, List, [], ◌∷◌, Option, Some, None, Result, Ok, Err, inl, inr, refl, sym, subst, arith}
use Rattle.bucket_book.specs.Content.{content_of}
use Rattle.call_types.specs.declared.feed.Cut.TheVariants.{NoMemory}
use Rattle.call_types.specs.declared.names.Mode.{Mode}
use Rattle.call_types.specs.declared.refusal.Refusal.TheVariants.{NoSuchBucket, SeqSpent as SeqSpentRefusal}
use Rattle.call_types.specs.declared.reply.Reply.{Reply}
use Rattle.call_types.specs.declared.reply.Reply.TheVariants as reply_of
use Rattle.desk_base.specs.Answering.{Task}
use Rattle.drive_base.specs.declared.plan.SetPlan.{SetPlan}
use Rattle.slot_core.specs.Sections.{SaysKept}
use Rattle.slot_core.specs.Stubs.{Says, StubOfEntry}
use Rattle.slot_core.specs.Views.{SlotNumbers}
use Rattle.slot_core.specs.declared.slot.SlotFault.{SlotFault}
use Rattle.slot_core.specs.declared.stub.Stub.{Stub}
use Rattle.receipts.specs.Bucketing.{BucketIsThere}
use Rattle.receipts.specs.Events.{Shown}
use Rattle.receipts.specs.Events.Event.{BarredFrom, Turned}
use Rattle.receipts.specs.Events.Shown.{ContentShown, NoneShown}
use Rattle.receipts.specs.Looks.{EndsAtLook}
use Rattle.receipts.specs.Owes.{OwesCall}
use Rattle.receipts.specs.Paying.{Pays}
use Rattle.receipts.specs.Registers.{bucket_register, bucket_slot}
use Rattle.receipts.specs.declared.barred.Barred.TheVariants.{Spent, NoMemory as NoRoom}
use Rattle.op_steps.specs.Looking.{shown_by}
use Rattle.op_steps.specs.Notes.{noted}
use Rattle.op_steps.proofs.LookLogLemmas.{fault_says, kept_all, lacks_of, there_of}
use Rattle.op_steps.proofs.TellLemmas.{none_pays, one_untold}
use Rattle.bucket_ops.specs.Looks.{AfterLook, HasDone, LookReply, look_call, look_reply}
use Rattle.bucket_ops.specs.declared.state.State.{State}
use Rattle.bucket_ops.specs.declared.state.State.TheVariants.{Looking, Over, Telling}

-- a call that ended at its look is owed that
ends_owes : (set : SetPlan) (asks : Bool) (bucket : List ℕ) (now : ℕ) (reply : Reply) (k : ℕ) (stub : Option Stub) (shown : Shown)
    → EndsAtLook bucket reply (Turned k (noted stub) shown ∷ []) → OwesCall set (look_call asks bucket) now reply (Turned k (noted stub) shown ∷ [])
ends_owes set true bucket now reply k stub shown ends = (refl, inl ends)
ends_owes set false bucket now reply k stub shown ends = (refl, inl ends)

-- one that finds its bucket is owed its reply
there_owes : (set : SetPlan) (asks : Bool) (bucket : List ℕ) (now : ℕ) (reply : Reply) (mode : Mode) (k : ℕ) (stub : Option Stub) (shown : Shown)
    → BucketIsThere bucket mode (Turned k (noted stub) shown ∷ []) → reply ≡ look_reply asks mode
    → OwesCall set (look_call asks bucket) now reply (Turned k (noted stub) shown ∷ [])
there_owes set true bucket now reply mode k stub shown there told = (refl, inr (mode, there, told))
there_owes set false bucket now reply mode k stub shown there told = (refl, inr (mode, there, told))

-- the reply to a look is owed after it
look_owes : (set : SetPlan) (asks : Bool) (bucket : List ℕ) (now : ℕ) (reply : Reply) (numbers : SlotNumbers) (answer : Result (List ℕ) SlotFault) (stub : Option Stub)
    → numbers.index ≡ bucket_slot bucket → StubOfEntry numbers answer stub → Says stub (SaysKept (bucket_register bucket)) → LookReply asks answer reply
    → OwesCall set (look_call asks bucket) now reply (Turned numbers.index (noted stub) (shown_by answer) ∷ [])
look_owes set asks bucket now reply numbers (Ok content) stub index x says (inl lacks) =
    subst (λ r. OwesCall set (look_call asks bucket) now r (Turned numbers.index (noted stub) (ContentShown content) ∷ [])) (sym lacks.1)
    (subst (λ c. OwesCall set (look_call asks bucket) now (reply_of.Refused NoSuchBucket) (Turned numbers.index (noted stub) (ContentShown c) ∷ [])) (sym lacks.0)
    (ends_owes set asks bucket now (reply_of.Refused NoSuchBucket) numbers.index stub (ContentShown (content_of None))
    (lacks_of bucket NoSuchBucket numbers stub x index says refl)))
look_owes set asks bucket now reply numbers (Ok content) stub index x says (inr there) =
    there_owes set asks bucket now reply there.0 numbers.index stub (ContentShown content) (there_of bucket content there.0 numbers stub x index says there.1) there.2
look_owes set asks bucket now reply numbers (Err fault) stub index x says told =
    subst (λ r. OwesCall set (look_call asks bucket) now r (Turned numbers.index (noted stub) NoneShown ∷ [])) (sym told.3)
    (ends_owes set asks bucket now (reply_of.Refused told.0) numbers.index stub NoneShown
    (fault_says bucket told.0 numbers fault stub x index says told.1 told.2))

-- what an op has done after its look
pub done_after : (set : SetPlan) (asks : Bool) (bucket : List ℕ) (now : ℕ) (numbers : SlotNumbers) (answer : Result (List ℕ) SlotFault) (stub : Option Stub)
    (state : State) → numbers.index ≡ bucket_slot bucket → StubOfEntry numbers answer stub → Says stub (SaysKept (bucket_register bucket))
    → AfterLook asks answer state
    → HasDone set (record { call = look_call asks bucket; now = now }) state (Turned numbers.index (noted stub) (shown_by answer) ∷ [])
done_after set asks bucket now numbers answer stub Looking index x says after = absurd after
done_after set asks bucket now numbers answer stub (Telling reply) index x says after = record {
  untold = one_untold (Turned numbers.index (noted stub) (shown_by answer)) tt;
  uncut = refl;
  owed = look_owes set asks bucket now reply numbers answer stub index x says after;
}
done_after set asks bucket now numbers answer stub (Over cut) index x says after =
    subst (λ c. Pays set (record { call = look_call asks bucket; now = now }) c (Turned numbers.index (noted stub) (shown_by answer) ∷ [])) (sym after)
    (none_pays set (record { call = look_call asks bucket; now = now }) (Turned numbers.index (noted stub) (shown_by answer) ∷ []) refl refl
    (inl (kept_all numbers.index (bucket_register bucket) stub (shown_by answer) says)))

-- what it has done where it could not look
barred_owes : (set : SetPlan) (asks : Bool) (bucket : List ℕ) (now : ℕ) → OwesCall set (look_call asks bucket) now (reply_of.Refused SeqSpentRefusal)
    (BarredFrom (bucket_slot bucket) Spent ∷ [])
barred_owes set true bucket now = (refl, inl (inr (inr (record { sections = refl; barred = record { spent = (zero, omega arith, refl); told = refl } }))))
barred_owes set false bucket now = (refl, inl (inr (inr (record { sections = refl; barred = record { spent = (zero, omega arith, refl); told = refl } }))))

pub spent_done : (set : SetPlan) (asks : Bool) (bucket : List ℕ) (now : ℕ) → HasDone set (record { call = look_call asks bucket; now = now })
    (Telling (reply_of.Refused SeqSpentRefusal)) (BarredFrom (bucket_slot bucket) Spent ∷ [])
spent_done set asks bucket now = record {
  untold = one_untold (BarredFrom (bucket_slot bucket) Spent) tt;
  uncut = refl;
  owed = barred_owes set asks bucket now;
}

pub no_room_done : (set : SetPlan) (task : Task) (k : ℕ) → HasDone set task (Over (Some NoMemory)) (BarredFrom k NoRoom ∷ [])
no_room_done set task k = none_pays set task (BarredFrom k NoRoom ∷ []) refl refl (inl (λ i d l. let below : i < 0 = l in absurd (omega arith)))
