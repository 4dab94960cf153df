-- One step of a bucket: what a call answers, and the row that it leaves (Amazon S3, CreateBucket, HeadBucket,
-- PutBucketVersioning and GetBucketVersioning). There is no row where there is no bucket.
use Rattle.std.specs.Prelude.{◌≡◌, ◌≢◌, ℕ, Option, Some, None, IfSome}
use Rattle.call_types.specs.declared.names.Mode.{Mode}
use Rattle.call_types.specs.declared.names.Mode.TheVariants.{Never, Enabled, Suspended}
use Rattle.call_types.specs.declared.reply.Reply.{Reply}
use Rattle.call_types.specs.declared.reply.Reply.TheVariants as reply
use Rattle.call_types.specs.declared.refusal.Refusal.TheVariants.{NoSuchBucket, BucketThere}
use Rattle.bucket_book.specs.declared.record.BucketRecord.{BucketRecord}
use Rattle.bucket_book.specs.declared.step.BucketAct.{BucketAct}
use Rattle.bucket_book.specs.declared.step.BucketAct.TheVariants as act
use Rattle.bucket_book.specs.declared.step.BucketStep.{BucketStep}

-- A mode that is set is Enabled or Suspended.
abbrev pub IsLawful : BucketAct → Type 0
IsLawful act.Make = Unit {0}
IsLawful (act.SetMode Never) = ⊥
IsLawful (act.SetMode Enabled) = Unit {0}
IsLawful (act.SetMode Suspended) = Unit {0}
IsLawful act.Head = Unit {0}
IsLawful act.GetMode = Unit {0}

-- The call is answered so, and leaves this row.
abbrev pub Leaves : Reply → Option BucketRecord → Reply → Option BucketRecord → Type 0
Leaves done row told new = (told ≡ done) × (new ≡ row)

-- Where there is no bucket the call is refused; else what it does with the bucket.
abbrev pub WithBucket : Option BucketRecord → (BucketRecord → Reply → Option BucketRecord → Type 0) → Reply → Option BucketRecord → Type 0
WithBucket None Uses told new = Leaves (reply.Refused NoSuchBucket) None told new
WithBucket (Some there) Uses told new = Uses there told new

-- A bucket is made in mode Never, unless one is there.
abbrev pub Makes : Option BucketRecord → ℕ → Reply → Option BucketRecord → Type 0
Makes None now told new = Leaves reply.Plain (Some (record { created = now; mode = Never })) told new
Makes (Some there) now told new = Leaves (reply.Refused BucketThere) (Some there) told new

-- the bucket with another mode
abbrev pub with_mode : BucketRecord → Mode → BucketRecord
with_mode there mode = record { created = there.created; mode = mode }

-- The step of an act in the second `now`: the reply, and the new row.
abbrev pub Step : Option BucketRecord → BucketAct → ℕ → Reply → Option BucketRecord → Type 0
Step old act.Make now told new = Makes old now told new
Step old (act.SetMode mode) now told new = WithBucket old (λ there. Leaves reply.Plain (Some (with_mode there mode))) told new
Step old act.Head now told new = WithBucket old (λ there. Leaves reply.Plain (Some there)) told new
Step old act.GetMode now told new = WithBucket old (λ there. Leaves (reply.Mode there.mode) (Some there)) told new

-- the row after a change: the bucket that is made or changed, or the old row where there is none
abbrev pub after_change : Option BucketRecord → Option BucketRecord → Option BucketRecord
after_change old None = old
after_change old (Some there) = Some there

-- The answer is the step that is due. It has a bucket only where that is another one than before.
pub record Serves (old : Option BucketRecord) (act : BucketAct) (now : ℕ) (step : BucketStep) : Type 0 where
  pub due : Step old act now step.reply (after_change old step.changed)
  pub changed : IfSome step.changed (λ there. Some there ≢ old)
