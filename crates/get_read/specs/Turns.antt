-- How a reader turns to a stripe, and what it gives of one.
use Rattle.std.specs.Prelude.{◌≡◌, ◌⊎◌, ◌<◌, ◌≤◌, ◌+◌, ◌-◌, ◌*◌, ◌/◌, ℕ, List, [], Option, Some, None, Result, Ok, Err, length, take, drop, replicate, slice_index_or, string_bytes}
use Rattle.call_types.specs.declared.why.Why.TheVariants.{Good}
use Rattle.drive_base.specs.Plan.{data_drives}
use Rattle.drive_base.specs.declared.plan.SetPlan.{SetPlan}
use Rattle.manifest_file.specs.declared.manifest.Manifest.{Manifest}
use Rattle.manifest_file.specs.declared.manifest.ManifestPart.{ManifestPart}
use Rattle.shard_file.specs.Stripes.{block_size, stripe_length, stripe_size}
use Rattle.body_print.specs.Names.{shard_name}
use Rattle.get_read.specs.Causes.{body_length}
use Rattle.get_read.specs.PassedDrives.{PassesOver}
use Rattle.get_read.specs.Blocks.{all_bytes}
use Rattle.get_read.specs.Readers.{set_of}
use Rattle.get_read.specs.declared.faults.BodyFault.{BodyFault}
use Rattle.get_read.specs.declared.faults.BodyFault.TheVariants.{NoMemory}
use Rattle.get_read.specs.declared.reader.ReadStep.{ReadStep}
use Rattle.get_read.specs.declared.reader.ReadStep.TheVariants.{More, Piece, Done}
use Rattle.get_read.specs.declared.state.Asked.{Asked}
use Rattle.get_read.specs.declared.state.PartWork.{PartWork}
use Rattle.get_read.specs.declared.state.StripeWork.{StripeWork}
use Rattle.get_read.specs.declared.fetch.Fetching.{Fetching as FetchingRecord}
use Rattle.get_read.specs.declared.state.State.{State}
use Rattle.get_read.specs.declared.state.State.TheVariants.{Fetching, Ended}
use Rattle.get_read.specs.declared.window.Window.{Window}

-- a part of a manifest has the byte at a place
pub record IsPartAt (parts : List ManifestPart) (at : ℕ) (part : PartWork) : Type 0 where
  pub inside : part.place < length parts
  pub begins : part.begin ≡ body_length (take part.place parts)
  pub long : (d : ManifestPart) → (slice_index_or parts part.place d).length ≡ part.long
  pub name : (d : ManifestPart) → string_bytes part.name ≡ shard_name (slice_index_or parts part.place d).id
  pub begun : part.begin ≤ at
  pub ends : at < part.begin + part.long

-- no table of so many drives is held
abbrev pub HasNoTables : ℕ → PartWork → Type 0
HasNoTables n part = all_bytes part.tables.items ≡ replicate n []

-- no block is read of the stripe of a part that has the byte at a place
pub record IsFreshAt (set : SetPlan) (part : PartWork) (at : ℕ) (work : StripeWork) : Type 0 where
  pub stripe : work.stripe ≡ (at - part.begin) / stripe_size
  pub size : work.size ≡ block_size (data_drives set.drives set.parity) (stripe_length part.long work.stripe)
  pub none : work.found.rows.items ≡ []
  pub letters : PassesOver set 0 work.tried (replicate set.drives Good) work.whys

-- no block of a window is read
abbrev pub HasNoRuns : Option Window → Type 0
HasNoRuns None = Unit {0}
HasNoRuns (Some window) = window.rows.items ≡ []

-- a reader turns to the stripe of a manifest that has the byte at a place
pub record BeginsAt (asked : Asked) (manifest : Manifest) (at : ℕ) (fetching : FetchingRecord) : Type 0 where
  pub asked_is : fetching.asked ≡ asked
  pub manifest_is : fetching.manifest ≡ manifest
  pub at_is : fetching.at ≡ at
  pub is_part : IsPartAt manifest.parts at fetching.part
  pub fresh : IsFreshAt (set_of asked) fetching.part at fetching.work
  pub ahead : HasNoRuns fetching.ahead

-- no table is held
abbrev pub HoldsNone : FetchingRecord → Type 0
HoldsNone fetching = HasNoTables (set_of fetching.asked).drives fetching.part

-- the same part with its tables where a place is still in it, or else another with no table
abbrev pub IsPartOn : ℕ → PartWork → ℕ → PartWork → Type 0
IsPartOn n old at new = ((at < old.begin + old.long) × (new ≡ old)) ⊎ ((old.begin + old.long ≤ at) × HasNoTables n new)

-- a span begins in its first stripe, or ends at once where it is empty
abbrev pub BeginsSpan : Asked → State → State → Manifest → Result ReadStep BodyFault → Type 0
BeginsSpan asked old new manifest (Ok More) =
    (fetching : FetchingRecord) × (new ≡ Fetching fetching) × BeginsAt asked manifest asked.span.at fetching × HoldsNone fetching
BeginsSpan asked old new manifest (Ok Piece) = ⊥
BeginsSpan asked old new manifest (Ok Done) = (asked.span.length ≡ 0) × (new ≡ Ended manifest)
BeginsSpan asked old new manifest (Err fault) = (fault ≡ NoMemory) × (new ≡ old)

-- what is left of a stripe from the next byte on, up to the end of the span
abbrev pub wanted_of_stripe : FetchingRecord → List ℕ → List ℕ
wanted_of_stripe fetching stripe =
    take (fetching.asked.wanted.reach - fetching.at) (drop (fetching.at - fetching.part.begin - fetching.work.stripe * stripe_size) stripe)

-- it is given, and the reader turns to the next stripe, or is done
abbrev pub GivesPiece : State → State → List ℕ → FetchingRecord → List ℕ → Result ReadStep BodyFault → Type 0
GivesPiece old new piece fetching stripe (Ok More) = ⊥
GivesPiece old new piece fetching stripe (Ok Piece) = (piece ≡ wanted_of_stripe fetching stripe) × (0 < length piece)
    × (((fetching.at + length piece ≡ fetching.asked.wanted.reach) × (new ≡ Ended fetching.manifest))
    ⊎ ((next : FetchingRecord) × (new ≡ Fetching next)
    × BeginsAt fetching.asked fetching.manifest (fetching.at + length piece) next
    × IsPartOn (set_of next.asked).drives fetching.part (fetching.at + length piece) next.part))
GivesPiece old new piece fetching stripe (Ok Done) = ⊥
GivesPiece old new piece fetching stripe (Err fault) = (fault ≡ NoMemory) × (new ≡ old)
