-- What a ListBuckets owes.
use Rattle.std.specs.Prelude.{◌≡◌, ◌⊎◌, ℕ, List, All, Contains, Some}
use Rattle.std.specs.List.Sorted.{IsStrictlySortedBy}
use Rattle.std.specs.declared.cmp.Ordering.{Ordering}
use Rattle.bucket_book.specs.Content.{content_of}
use Rattle.bucket_book.specs.Name.{IsBucketName}
use Rattle.bucket_book.specs.Table.{IsCanonical}
use Rattle.bucket_book.specs.declared.record.BucketRecord.{BucketRecord}
use Rattle.call_types.specs.declared.reply.BucketRow.{BucketRow}
use Rattle.call_types.specs.declared.reply.Reply.{Reply}
use Rattle.call_types.specs.declared.reply.Reply.TheVariants.{Buckets}
use Rattle.drive_base.specs.Names.{byte_order}
use Rattle.receipts.specs.Events.{Log, Section, sections_of}
use Rattle.receipts.specs.Looks.{LooksAt}
use Rattle.receipts.specs.Paging.{DoesNothing, IsAskedFor, ListingIsBarred, ListingIsRefused}
use Rattle.receipts.specs.Registers.{bucket_register, bucket_slot}

-- a look found the bucket of a row
pub record FindsRow (row : BucketRow) (section : Section) : Type 0 where
  pub there : BucketRecord
  pub canonical : IsCanonical there
  pub looks : LooksAt (bucket_slot row.name) (bucket_register row.name) (content_of (Some there)) section
  pub created : row.created ≡ there.created

-- the order of rows: that of their names
abbrev pub row_order : BucketRow → BucketRow → Ordering
row_order a b = byte_order a.name b.name

-- each bucket was asked for; the rows, which rise by their names, are those of the buckets that looks found; and no section did anything of its own
pub record BucketsAreListed (rows : List BucketRow) (sections : List Section) : Type 0 where
  pub asked : (bucket : List ℕ) → IsBucketName bucket → IsAskedFor (bucket_slot bucket) (bucket_register bucket) sections
  pub rising : IsStrictlySortedBy row_order rows
  pub found : All (λ row. (look : Section) × Contains sections look × FindsRow row look) rows
  pub given : (row : BucketRow) (look : Section) → Contains sections look → FindsRow row look → Contains rows row
  pub idle : All DoesNothing sections

-- what a ListBuckets is answered
abbrev pub ListBucketsOwes : Reply → Log → Type 0
ListBucketsOwes reply log = ((rows : List BucketRow) × (reply ≡ Buckets rows) × BucketsAreListed rows (sections_of log))
    ⊎ ListingIsRefused reply (sections_of log)
    ⊎ ListingIsBarred reply log
