-- The rows of a list of buckets, by name, and one row more.
use Rattle.std.specs.Prelude.{◌≡◌, ◌≢◌, ℕ, ◌<◌, ◌≤◌, List, length, slice_index_or, Option, Some, None}
use Rattle.std.specs.List.{insert}
use Rattle.std.specs.declared.cmp.Ordering.TheVariants.{Less}
use Rattle.bucket_book.specs.declared.record.BucketRecord.{BucketRecord}
use Rattle.call_types.specs.declared.reply.BucketRow.{BucketRow}
use Rattle.drive_base.specs.Names.{IsBefore, byte_order}

-- a place is that of a name among rows: each row before it stands before the name, and the row there doesn't
pub record IsPlaceOf (rows : List BucketRow) (name : List ℕ) (place : ℕ) : Type 0 where
  pub within : place ≤ length rows
  pub before : (k : ℕ) (d : BucketRow) → k < place → IsBefore (slice_index_or rows k d).name name
  pub after : (d : BucketRow) → place < length rows → byte_order (slice_index_or rows place d).name name ≢ Less

-- the row of a bucket
abbrev pub row_of : List ℕ → BucketRecord → BucketRow
row_of bucket there = record { name = bucket; created = there.created }

-- the row of a bucket that is there is put in its place; where none is there the rows stay
pub record PutsRow (bucket : List ℕ) (there : BucketRecord) (old new : List BucketRow) : Type 0 where
  pub place : ℕ
  pub place_is : IsPlaceOf old bucket place
  pub put : new ≡ insert old place (row_of bucket there)

abbrev pub AddsRow : List ℕ → Option BucketRecord → List BucketRow → List BucketRow → Type 0
AddsRow bucket None old new = new ≡ old
AddsRow bucket (Some there) old new = PutsRow bucket there old new
