-- That the reply to a change of a bucket is due, by what its commit says.
use Rattle.std.proofs.Common.{◌≡◌, ◌∙◌, ℕ, Bool, List, Option, Some, None, IsSome, Result, inl, refl, sym, subst}
use Rattle.audit_trail.specs.declared.entry.Deed.{Deed}
use Rattle.bucket_book.specs.Laws.{ContentIsInjective}
use Rattle.bucket_book.specs.Step.{Step}
use Rattle.bucket_book.specs.declared.record.BucketRecord.{BucketRecord}
use Rattle.bucket_book.specs.declared.step.BucketAct.{BucketAct}
use Rattle.bucket_book.specs.declared.step.BucketAct.TheVariants as act
use Rattle.call_types.specs.declared.reply.Reply.{Reply}
use Rattle.call_types.specs.declared.why.Why.{Why}
use Rattle.drive_base.specs.declared.drive.Drive.{Ghosts}
use Rattle.drive_base.specs.Files.{Files}
use Rattle.stamp_id.specs.declared.stamp.ChangeId.{ChangeId}
use Rattle.stamp_id.specs.declared.version.VersionId.{VersionId}
use Rattle.slot_history.specs.Contents.{SpellsBucket}
use Rattle.slot_history.specs.Doing.{DoesBucket}
use Rattle.register_core.specs.declared.faults.QuorumFault.{QuorumFault}
use Rattle.slot_history.specs.State.{Registers}
use Rattle.slot_rules.specs.Deeds.{call_of, name_of}
use Rattle.slot_rules.specs.Planning.{DoesOver, IsBucketDeed}
use Rattle.slot_rules.specs.declared.commit.Commit.TheVariants.{Key, Part, MakeBucket, SetMode}
use Rattle.slot_rules.specs.declared.commit.Commit.{Commit}
use Rattle.slot_core.specs.CommitCauses.{FoundSo, WroteSo}
use Rattle.slot_core.specs.Views.{SlotNumbers}
use Rattle.receipts.specs.Dues.{IsDueBucket, IsDueReply}

-- one content under every name
abbrev alone : List ℕ → Registers
alone content name = record { change = 0; content = content }

-- a step of a bucket, from the row that one content spells to that of another
pub record StepsBucket (content new : List ℕ) (done : BucketAct) (now : ℕ) (reply : Reply) : Type 0 where
  pub old_row : Option BucketRecord
  pub new_row : Option BucketRecord
  pub spells_old : SpellsBucket content old_row
  pub spells_new : SpellsBucket new new_row
  pub step : Step old_row done now reply new_row

steps_of : (registers : Registers) (name bucket content new : List ℕ) (done : BucketAct) (now : ℕ) (reply : Reply) → (registers name).content ≡ content
    → DoesBucket registers name bucket done now reply new → StepsBucket content new done now reply
steps_of registers name bucket content new done now reply is x = record {
  old_row = x.old_row;
  new_row = x.new_row;
  spells_old = subst (λ c. SpellsBucket c x.old_row) is x.spells_old;
  spells_new = x.spells_new;
  step = x.step;
}

does_bucket : (deed : Commit) (done : BucketAct) (content new : List ℕ) (change : Option ChangeId) (now : ℕ) (id : VersionId) (reply : Reply) → IsBucketDeed deed done
    → DoesOver (name_of deed) content (call_of deed change now) id reply new → StepsBucket content new done now reply
does_bucket (Key at mode done_to) done content new change now id reply is does = absurd is
does_bucket (Part at upload number part) done content new change now id reply is does = absurd is
does_bucket (MakeBucket bucket) done content new change now id reply is does =
    subst (λ d. StepsBucket content new d now reply) (sym is)
    (steps_of (alone content) (name_of (MakeBucket bucket)) bucket content new act.Make now reply refl (does (alone content) refl (inl (bucket, refl))))
does_bucket (SetMode bucket mode) done content new change now id reply is does =
    subst (λ d. StepsBucket content new d now reply) (sym is)
    (steps_of (alone content) (name_of (SetMode bucket mode)) bucket content new (act.SetMode mode) now reply refl (does (alone content) refl (inl (bucket, refl))))

-- a reply to an act on a bucket is one to the call that the entry tells of
pub act_due : (deed : Commit) (done : BucketAct) (change : Option ChangeId) (now : ℕ) (reply : Reply) → IsBucketDeed deed done → IsDueBucket done change now reply
    → IsDueReply (call_of deed change now) reply
act_due (Key at mode done_to) done change now reply is due = absurd is
act_due (Part at upload number part) done change now reply is due = absurd is
act_due (MakeBucket bucket) done change now reply is due = subst (λ d. IsDueBucket d change now reply) is due
act_due (SetMode bucket mode) done change now reply is due = subst (λ d. IsDueBucket d change now reply) is due

-- a change is there
is_some : (change : ChangeId) → IsSome (Some change)
is_some change = refl

-- a step that leaves the content leaves the row
same_row : ContentIsInjective → (content : List ℕ) (a b : Option BucketRecord) → SpellsBucket content a → SpellsBucket content b → a ≡ b
same_row one content a b x y = one a b x.canonical y.canonical (sym x.is ∙ y.is)

module _ {D : Type 0} (ghosts : Ghosts D) where
  pub found_due : ContentIsInjective → (numbers later : SlotNumbers) (deed : Commit) (done : BucketAct) (put : Option VersionId) (now : ℕ) (reply : Reply) (entered : Deed)
      (old new disks disks_after : List D) → IsBucketDeed deed done
      → FoundSo ghosts numbers later deed put now reply entered old new disks disks_after → IsDueBucket done None now reply
  found_due one numbers later deed done put now reply entered old new disks disks_after is x =
      let steps = does_bucket deed done x.content x.content None now x.id reply is x.does in
      record {
        old = steps.old_row;
        new = steps.new_row;
        drawn = λ differs. absurd (differs (same_row one x.content steps.new_row steps.old_row steps.spells_new steps.spells_old));
        step = steps.step;
      }

  pub wrote_due : (numbers later : SlotNumbers) (deed : Commit) (done : BucketAct) (put : Option VersionId) (now : ℕ) (reply : Reply)
      (result : Result (List Why) QuorumFault) (entered : Deed) (old new disks disks_after : List D) → IsBucketDeed deed done
      → (x : WroteSo ghosts numbers later deed put now reply result entered old new disks disks_after)
      → IsDueBucket done (Some x.own.change) now reply
  wrote_due numbers later deed done put now reply result entered old new disks disks_after is x =
      let steps = does_bucket deed done x.content x.own.content (Some x.own.change) now x.is_own.id reply is x.is_own.does in
      record { old = steps.old_row; new = steps.new_row; drawn = λ differs. is_some x.own.change; step = steps.step }
