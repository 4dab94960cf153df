-- Deeds on buckets.
use Rattle.std.specs.Prelude.{◌<◌, ℕ, true, false, Bool, List, [], slice_index}
use Rattle.call_types.specs.declared.names.Mode.{Mode}
use Rattle.call_types.specs.declared.names.Mode.TheVariants.{Never, Enabled, Suspended}
use Rattle.slot_rules.specs.declared.commit.Commit.TheVariants.{Key, Part, MakeBucket, SetMode}
use Rattle.slot_rules.specs.declared.commit.Commit.{Commit}

-- a text of ASCII alone, as names of buckets are
abbrev pub AreLow : List ℕ → Type 0
AreLow name = (i : ℕ) → slice_index name i < 128

-- a mode that may be set
abbrev pub is_asked : Mode → Bool
is_asked Never = false
is_asked Enabled = true
is_asked Suspended = true

-- a deed makes a bucket, or sets its mode
abbrev pub is_on_bucket : Commit → Bool
is_on_bucket (Key at mode act) = false
is_on_bucket (Part at upload number part) = false
is_on_bucket (MakeBucket bucket) = true
is_on_bucket (SetMode bucket mode) = is_asked mode

-- its bucket
abbrev pub bucket_in : Commit → List ℕ
bucket_in (Key at mode act) = []
bucket_in (Part at upload number part) = []
bucket_in (MakeBucket bucket) = bucket
bucket_in (SetMode bucket mode) = bucket
