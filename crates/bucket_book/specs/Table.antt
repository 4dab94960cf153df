-- The table of bucket records: when the bucket was made, and the number of its mode.
use Rattle.std.specs.Prelude.{ℕ, ◌<◌, List, [], ◌∷◌, Bool, nat_lt}
use Rattle.std.specs.Int.{w8, w64}
use Rattle.field_reader.specs.Format.{Format, ◌>>=◌, done, number, with_rule}
use Rattle.field_reader.specs.Spelling.{number_bytes, joined}
use Rattle.sealed_record.specs.Table.{Table}
use Rattle.call_types.specs.declared.names.Mode.{Mode}
use Rattle.call_types.specs.declared.names.Mode.TheVariants.{Never, Enabled, Suspended}
use Rattle.bucket_book.specs.declared.record.BucketRecord.{BucketRecord}
use Rattle.bucket_book.specs.Limits.{moment_limit}

-- the number of a mode
abbrev pub mode_number : Mode → ℕ
mode_number Never = 0
mode_number Enabled = 1
mode_number Suspended = 2

-- what is spelled of a record
pub record BucketRow : Type 0 where
  pub created : ℕ
  pub mode : ℕ

-- the row of a record
abbrev pub row_of : BucketRecord → BucketRow
row_of bucket = record { created = bucket.created; mode = mode_number bucket.mode }

-- whether a number is a moment: Unix seconds before the year 10000
abbrev pub is_moment : ℕ → Bool
is_moment moment = nat_lt moment moment_limit

-- whether a number is that of a mode
abbrev pub is_mode : ℕ → Bool
is_mode mode = nat_lt mode 3

-- the format of records: the fields in their order, each with its rule
unfoldable pub bucket : Format BucketRow
bucket =
    with_rule is_moment (number w64) >>= λ created.
    with_rule is_mode (number w8) >>= λ mode.
    done (record { created = created; mode = mode })

-- the spelling of a row
abbrev pub bytes_of : BucketRow → List ℕ
bytes_of r = joined (number_bytes w64 r.created ∷ number_bytes w8 r.mode ∷ [])

-- The moment of a record that is written is before the year 10000.
pub record IsCanonical (bucket : BucketRecord) : Type 0 where
  pub created : bucket.created < moment_limit

-- the table of records
abbrev pub bucket_table : Table BucketRecord BucketRow
bucket_table = record { row = row_of; format = bucket; bytes = bytes_of; Canonical = IsCanonical }
