-- What reading, writing and the steps of buckets promise of each other.
use Rattle.std.specs.Prelude.{◌≡◌, ◌≢◌, ℕ, List, Option, Some, None}
use Rattle.field_reader.specs.Spelling.{IsBytes}
use Rattle.call_types.specs.declared.names.Mode.TheVariants.{Never}
use Rattle.call_types.specs.declared.reply.Reply.{Reply}
use Rattle.bucket_book.specs.declared.record.BucketRecord.{BucketRecord}
use Rattle.bucket_book.specs.declared.step.BucketAct.{BucketAct}
use Rattle.bucket_book.specs.Content.{content_of, content_fault, IsCanonicalRow}
use Rattle.bucket_book.specs.Step.{Step, IsLawful}

-- The content of a row has no fault.
abbrev pub ContentsHaveNoFault : Type 0
ContentsHaveNoFault = (row : Option BucketRecord) → IsCanonicalRow row → content_fault (content_of row) ≡ None

-- A content with no fault is that of a row.
abbrev pub FaultlessIsContent : Type 0
FaultlessIsContent = (content : List ℕ) → IsBytes content → content_fault content ≡ None → (row : Option BucketRecord) × IsCanonicalRow row × (content ≡ content_of row)

-- Two rows with one content are the same.
abbrev pub ContentIsInjective : Type 0
ContentIsInjective = (a b : Option BucketRecord) → IsCanonicalRow a → IsCanonicalRow b → content_of a ≡ content_of b → a ≡ b

-- A bucket stays, and keeps the moment at which it was made. Its mode never returns to Never.
pub record IsLater (old new : BucketRecord) : Type 0 where
  pub created : new.created ≡ old.created
  pub mode : old.mode ≢ Never → new.mode ≢ Never

-- A step leaves a bucket that is there as a later one.
abbrev pub BucketsStay : Type 0
BucketsStay = (old : BucketRecord) (act : BucketAct) (now : ℕ) (reply : Reply) (row : Option BucketRecord) → IsLawful act → Step (Some old) act now reply row
    → (new : BucketRecord) × (row ≡ Some new) × IsLater old new

-- A row, an act and a moment have one reply and one new row.
abbrev pub StepsAreOne : Type 0
StepsAreOne = (old : Option BucketRecord) (act : BucketAct) (now : ℕ) (reply other : Reply) (new left : Option BucketRecord) → Step old act now reply new → Step old act now other left
    → (reply ≡ other) × (new ≡ left)
