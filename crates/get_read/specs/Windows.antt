-- Windows: whole stripes of a part whose blocks are read together, and verified together.
use Rattle.std.specs.Prelude.{◌≡◌, ◌<◌, ◌≤◌, ◌+◌, ◌*◌, ℕ, List, [], ◌∷◌, ◌++◌, Option, Some, None, Vec, Result, Ok, Err, length, take, drop, slice_index, slice_index_or}
use Rattle.std.specs.Int.{IsBitSet}
use Rattle.sha2.specs.Sha256.{sha256}
use Rattle.drive_base.specs.Calls.{Seen, Showed}
use Rattle.drive_base.specs.Plan.{data_drives}
use Rattle.drive_base.specs.View.{DriveView}
use Rattle.drive_base.specs.declared.plan.SetPlan.{SetPlan}
use Rattle.file_access.specs.declared.fault.FetchFault.{FetchFault}
use Rattle.file_access.specs.declared.fault.FetchFault.TheVariants.{Because, NoMemory as NoRoom}
use Rattle.manifest_file.specs.declared.manifest.ManifestPart.{ManifestPart}
use Rattle.shard_file.specs.Shards.{block_place, table_place}
use Rattle.shard_file.specs.Stripes.{block_size, piece, stripe_count, stripe_size}
use Rattle.body_print.specs.Names.{shard_name}
use Rattle.get_read.specs.Account.{Account, WasSeen}
use Rattle.get_read.specs.Letters.{IsBlockIn}
use Rattle.get_read.specs.Stripes.{EachStripe}
use Rattle.get_read.specs.declared.faults.BodyFault.{BodyFault}
use Rattle.get_read.specs.declared.faults.BodyFault.TheVariants.{InvalidRange, ShardQuorum, NoMemory}
use Rattle.get_read.specs.declared.window.WindowFind.{WindowFind}
use Rattle.get_read.specs.declared.window.WindowFind.TheVariants.{Table, Run}
use Rattle.get_read.specs.declared.window.Window.{Window}

-- a window begins at a stripe, each of its stripes is whole, its next drive is not out, and more blocks are wanted
pub record FitsWindow (set : SetPlan) (long stripe : ℕ) (window : Window) : Type 0 where
  pub first : window.first ≡ stripe
  pub some : 1 ≤ window.count
  pub within : stripe_size * (window.first + window.count) ≤ long
  pub size : window.size ≡ block_size (data_drives set.drives set.parity) stripe_size
  pub tried : window.tried < set.drives
  pub in_use : IsBitSet set.out window.tried → ⊥
  pub fewer : length window.rows.items < data_drives set.drives set.parity

-- as far as it goes, whatever its next drive is
pub record GoesOn (set : SetPlan) (long stripe : ℕ) (window : Window) : Type 0 where
  pub first : window.first ≡ stripe
  pub some : 1 ≤ window.count
  pub within : stripe_size * (window.first + window.count) ≤ long
  pub size : window.size ≡ block_size (data_drives set.drives set.parity) stripe_size
  pub tried : window.tried ≤ set.drives
  pub fewer : length window.rows.items < data_drives set.drives set.parity

abbrev pub FitsAhead : SetPlan → ℕ → ℕ → Option Window → Type 0
FitsAhead set long stripe ahead = (window : Window) → ahead ≡ Some window → FitsWindow set long stripe window

-- block s of row j, and the digest that is stored for it
abbrev pub run_block : Window → ℕ → ℕ → List ℕ
run_block window j s = piece window.size window.bytes.items (j * window.count + s)

abbrev pub run_digest : Window → ℕ → ℕ → List ℕ
run_digest window j s = piece 32 window.stored.items (j * window.count + s)

-- each block of each row was shown, with a digest that a table has
abbrev pub AreRuns : SetPlan → ManifestPart → Window → Account → Type 0
AreRuns set part window calls = (j s : ℕ) → j < length window.rows.items → s < window.count
    → IsBlockIn (data_drives set.drives set.parity) part (window.first + s) (slice_index_or part.roots (slice_index window.rows.items j) []) calls calls
    (slice_index window.rows.items j) (run_digest window j s) (run_block window j s)

abbrev pub AreAhead : SetPlan → ManifestPart → Option Window → Account → Type 0
AreAhead set part None calls = Unit {0}
AreAhead set part (Some window) calls = AreRuns set part window calls

-- a call for a window gives the digest table of its next drive, or the blocks, or tells why not
abbrev pub WindowCall : ℕ → ManifestPart → List ℕ → List ℕ → Window → Result WindowFind FetchFault → DriveView → DriveView → Type 0
WindowCall d part root held window (Ok (Table table)) before after = (held ≡ []) × (length table.items ≡ 32 * stripe_count part.length)
    × (root ≡ sha256 table.items) × WasSeen (Showed (shard_name part.id) (table_place d part.length) table.items) before after
WindowCall d part root held window (Ok (Run run)) before after = (0 < length held) × (length run.items ≡ window.count * window.size)
    × WasSeen (Showed (shard_name part.id) (block_place d window.first) run.items) before after
WindowCall d part root held window (Err (Because why)) before after = (seen : Seen) × WasSeen seen before after
WindowCall d part root held window (Err NoRoom) before after = Unit {0}

-- the window is the same one
pub record IsSameWindow (old new : Window) : Type 0 where
  pub first : new.first ≡ old.first
  pub count : new.count ≡ old.count
  pub size : new.size ≡ old.size

-- the next drive's blocks and digests are added
pub record TookRun (old new : Window) (run digests : List ℕ) : Type 0 where
  pub same : IsSameWindow old new
  pub rows : new.rows.items ≡ old.rows.items ++ old.tried ∷ []
  pub stored : new.stored.items ≡ old.stored.items ++ digests
  pub bytes : new.bytes.items ≡ old.bytes.items ++ run
  pub past : old.tried < new.tried

-- the next drive is passed over
pub record PassedRun (old new : Window) : Type 0 where
  pub same : IsSameWindow old new
  pub rows : new.rows ≡ old.rows
  pub stored : new.stored ≡ old.stored
  pub bytes : new.bytes ≡ old.bytes
  pub past : old.tried < new.tried

-- all blocks have their digests
abbrev pub Verifies : Window → Type 0
Verifies window = (k : ℕ) → k < length window.rows.items * window.count → piece 32 window.stored.items k ≡ sha256 (piece window.size window.bytes.items k)

-- bytes are the stripes whose blocks these are, if there are such
abbrev pub AreRebuilt : SetPlan → Window → List ℕ → Type 0
AreRebuilt set window bytes = (length bytes ≡ stripe_size * window.count)
    × ((s : ℕ) → s < window.count → EachStripe set stripe_size window.rows.items (λ j. run_block window j s) (λ stripe _. piece stripe_size bytes s ≡ stripe))

-- a stripe of a window is added to bytes, if its blocks are these
pub record AddsStripe (set : SetPlan) (window : Window) (s : ℕ) (old new : List ℕ) : Type 0 where
  pub long : length new ≡ length old + stripe_size
  pub kept : take (length old) new ≡ old
  pub stripe : EachStripe set stripe_size window.rows.items (λ j. run_block window j s) (λ stripe _. new ≡ old ++ stripe)

-- the digests that a table has for the stripes of a window
abbrev pub digests_in : List ℕ → ℕ → ℕ → List ℕ
digests_in table first count = take (32 * count) (drop (32 * first) table)

-- the window goes on with the blocks of its next drive, or it is given up; or its stripes are there
abbrev pub RunTakes : {Z : Type 0} → SetPlan → Window → List ℕ → List ℕ → Result (Option (Vec ℕ Z)) BodyFault → Option Window → Type 0
RunTakes set old run digests (Ok None) None = Unit {0}
RunTakes set old run digests (Ok None) (Some new) = TookRun old new run digests
RunTakes set old run digests (Ok (Some bytes)) ahead = (ahead ≡ None) × ((window : Window) × TookRun old window run digests
    × (length window.rows.items ≡ data_drives set.drives set.parity) × Verifies window × AreRebuilt set window bytes.items)
RunTakes set old run digests (Err (InvalidRange _)) ahead = ⊥
RunTakes set old run digests (Err (ShardQuorum _)) ahead = ⊥
RunTakes set old run digests (Err NoMemory) ahead = ahead ≡ None

-- the window goes on with its next drive or one behind it, or it is given up
pub record TurnedOn (old new : Window) : Type 0 where
  pub same : IsSameWindow old new
  pub rows : new.rows ≡ old.rows
  pub stored : new.stored ≡ old.stored
  pub bytes : new.bytes ≡ old.bytes
  pub past : old.tried ≤ new.tried

abbrev pub TurnsOn : Window → Option Window → Type 0
TurnsOn old None = Unit {0}
TurnsOn old (Some new) = TurnedOn old new

-- the window goes on with the drive behind its next one, or it is given up
abbrev pub RunPasses : Window → Option Window → Type 0
RunPasses old None = Unit {0}
RunPasses old (Some new) = PassedRun old new
