-- The content of a bucket's register: no byte where there is no bucket, and else the spelling of its record.
use Rattle.std.specs.Prelude.{◌≡◌, ℕ, List, [], length, Option, Some, None, Result, Ok, Err, ◌==◌, if◌then◌else◌}
use Rattle.field_reader.specs.Format.{fault_at}
use Rattle.sealed_record.specs.Table.{spelling_of}
use Rattle.call_types.specs.declared.names.Mode.{Mode}
use Rattle.call_types.specs.declared.refusal.ListFault.{ListFault}
use Rattle.call_types.specs.declared.refusal.ListFault.TheVariants.{NotCanonical, NoMemory}
use Rattle.bucket_book.specs.declared.record.BucketRecord.{BucketRecord}
use Rattle.bucket_book.specs.Table.{IsCanonical, bucket, bucket_table}

-- the content of a register
abbrev pub content_of : Option BucketRecord → List ℕ
content_of None = []
content_of (Some there) = spelling_of bucket_table there

-- The bucket, where there is one, has a record that is written.
abbrev pub IsCanonicalRow : Option BucketRecord → Type 0
IsCanonicalRow None = Unit {0}
IsCanonicalRow (Some there) = IsCanonical there

-- the place of the first fault of a content, if it has one; no byte has none
abbrev pub content_fault : List ℕ → Option ℕ
content_fault content = if length content == 0 then None else fault_at bucket content

-- What each answer says of a content: it is that of a register, or it has its first fault there.
abbrev pub ReadsContent : List ℕ → Result (Option BucketRecord) ListFault → Type 0
ReadsContent content (Ok row) = IsCanonicalRow row × (content ≡ content_of row)
ReadsContent content (Err (NotCanonical place)) = content_fault content ≡ Some place
ReadsContent content (Err NoMemory) = Unit {0}

-- The answer is this row, unless memory was missing.
abbrev pub IsReadAs : Option BucketRecord → Result (Option BucketRecord) ListFault → Type 0
IsReadAs row (Ok read) = read ≡ row
IsReadAs row (Err (NotCanonical place)) = ⊥
IsReadAs row (Err NoMemory) = Unit {0}

-- The content of a row is read as that row.
abbrev pub ReadsRows : List ℕ → Result (Option BucketRecord) ListFault → Type 0
ReadsRows content result = (row : Option BucketRecord) → IsCanonicalRow row → content ≡ content_of row → IsReadAs row result

-- The content shows a bucket of this mode.
pub record IsBucketOf (content : List ℕ) (mode : Mode) : Type 0 where
  pub there : BucketRecord
  pub canonical : IsCanonical there
  pub is : content ≡ content_of (Some there)
  pub has_mode : there.mode ≡ mode
