-- What a drive has while a stage is at work there, by its letter and its next call.
use Rattle.std.specs.Prelude.{◌≡◌, ◌≢◌, ◌⊎◌, ◌<◌, ℕ, true, false, List, [], ◌++◌, Option, Some, None, slice_index_or}
use Rattle.call_types.specs.declared.why.FileKind.TheVariants.{Format, Register, Manifest as ManifestKind, Shard as ShardKind}
use Rattle.call_types.specs.declared.why.Why.{Why}
use Rattle.call_types.specs.declared.why.Why.TheVariants.{Good, Failed, Damaged, Behind, Lacks}
use Rattle.drive_base.specs.Files.{LooseFile}
use Rattle.drive_base.specs.Leaves.{loose_bytes}
use Rattle.file_access.specs.Writing.{synced_file}
use Rattle.shard_file.specs.Shards.{shard_bytes, table_of}
use Rattle.std.specs.List.{concat}
use Rattle.put_stage.specs.Cells.{DataCells}
use Rattle.put_stage.specs.StripeBlocks.{all_bytes, block_at}
use Rattle.put_stage.specs.Dues.{is_early}
use Rattle.put_stage.specs.declared.dues.Due.{Due}
use Rattle.put_stage.specs.declared.dues.Due.TheVariants.{Block, Table, SyncShard, Manifest, SyncManifest, PlaceManifest, PlaceShard, Nothing}
use Rattle.put_stage.specs.declared.stage.Load.{Load}
use Rattle.put_stage.specs.declared.stage.Stage.{Stage}

-- a loose file that is not synced
abbrev pub unsynced_file : List ℕ → LooseFile
unsynced_file bytes = record { bytes = bytes; synced = false }

-- no file is being written
pub record HasNoneLoose (cells : DataCells) : Type 0 where
  pub manifest : cells.loose_manifest ≡ None
  pub shard : cells.loose_shard ≡ None

-- what a stage writes of a shard: its blocks so far, or nothing, for a manifest alone
abbrev pub Blocks : Type 0
Blocks = Option (List (List ℕ))

-- the shard file while the manifest is written
abbrev pub held_shard : Blocks → DataCells → Option LooseFile
held_shard None before = before.loose_shard
held_shard (Some blocks) before = Some (synced_file (shard_bytes blocks))

-- the kept files as before, and these being written
abbrev pub writing : DataCells → Option LooseFile → Option LooseFile → DataCells
writing before manifest shard = record { manifest = before.manifest; shard = before.shard; loose_manifest = manifest; loose_shard = shard }

-- the manifest in place, the shard as before, and this one being written
abbrev pub half_placed : DataCells → List ℕ → Option LooseFile → DataCells
half_placed before manifest shard = record { manifest = Some manifest; shard = before.shard; loose_manifest = None; loose_shard = shard }

-- all in place
abbrev pub all_placed : DataCells → List ℕ → Blocks → DataCells
all_placed before manifest None = half_placed before manifest before.loose_shard
all_placed before manifest (Some blocks) = record { manifest = Some manifest; shard = Some (shard_bytes blocks); loose_manifest = None; loose_shard = None }

-- what a drive has that did all calls before this one
abbrev pub IsBefore : Due → List ℕ → List ℕ → Blocks → DataCells → DataCells → Type 0
IsBefore Block next manifest None before cells = ⊥
IsBefore Block next manifest (Some blocks) before cells =
    (file : Option LooseFile) × (cells ≡ writing before None file) × (loose_bytes file ++ next ≡ concat blocks)
IsBefore Table next manifest None before cells = ⊥
IsBefore Table next manifest (Some blocks) before cells =
    (file : Option LooseFile) × (cells ≡ writing before None file) × (loose_bytes file ≡ concat blocks)
IsBefore SyncShard next manifest None before cells = ⊥
IsBefore SyncShard next manifest (Some blocks) before cells = cells ≡ writing before None (Some (unsynced_file (shard_bytes blocks)))
IsBefore Manifest next manifest blocks before cells = cells ≡ writing before None (held_shard blocks before)
IsBefore SyncManifest next manifest blocks before cells = cells ≡ writing before (Some (unsynced_file manifest)) (held_shard blocks before)
IsBefore PlaceManifest next manifest blocks before cells = cells ≡ writing before (Some (synced_file manifest)) (held_shard blocks before)
IsBefore PlaceShard next manifest None before cells = ⊥
IsBefore PlaceShard next manifest (Some blocks) before cells = cells ≡ half_placed before manifest (Some (synced_file (shard_bytes blocks)))
IsBefore Nothing next manifest blocks before cells = cells ≡ all_placed before manifest blocks

-- the kept files are these
pub record Keeps (manifest shard : Option (List ℕ)) (cells : DataCells) : Type 0 where
  pub manifest_is : cells.manifest ≡ manifest
  pub shard_is : cells.shard ≡ shard

-- what a drive has on which this call failed: each kept file is as before or final, and a shard has its manifest
abbrev pub HasFailedAt : Due → List ℕ → Blocks → DataCells → DataCells → Type 0
HasFailedAt Block manifest blocks before cells = Keeps before.manifest before.shard cells
HasFailedAt Table manifest blocks before cells = Keeps before.manifest before.shard cells
HasFailedAt SyncShard manifest blocks before cells = Keeps before.manifest before.shard cells
HasFailedAt Manifest manifest blocks before cells = Keeps before.manifest before.shard cells
HasFailedAt SyncManifest manifest blocks before cells = Keeps before.manifest before.shard cells
HasFailedAt PlaceManifest manifest blocks before cells = Keeps before.manifest before.shard cells ⊎ Keeps (Some manifest) before.shard cells
HasFailedAt PlaceShard manifest None before cells = ⊥
HasFailedAt PlaceShard manifest (Some blocks) before cells = Keeps (Some manifest) before.shard cells ⊎ Keeps (Some manifest) (Some (shard_bytes blocks)) cells
HasFailedAt Nothing manifest blocks before cells = ⊥

-- what a drive of this letter has; one that tells what it holds lacks no file that was just written
abbrev pub HasBy : Why → Due → List ℕ → List ℕ → Blocks → DataCells → DataCells → Type 0
HasBy Good due next manifest blocks before cells = IsBefore due next manifest blocks before cells
HasBy (Failed _ _) due next manifest blocks before cells = HasFailedAt due manifest blocks before cells
HasBy (Damaged _) due next manifest blocks before cells = ⊥
HasBy (Behind _) due next manifest blocks before cells = ⊥
HasBy (Lacks Format) due next manifest blocks before cells = cells ≡ before
HasBy (Lacks Register) due next manifest blocks before cells = ⊥
HasBy (Lacks ManifestKind) due next manifest blocks before cells = ⊥
HasBy (Lacks ShardKind) due next manifest blocks before cells = ⊥

-- the letter of a drive, and the next call on it
abbrev pub why_at : Stage → ℕ → Why
why_at stage k = slice_index_or stage.whys k Good

abbrev pub due_at : Stage → ℕ → Due
due_at stage k = slice_index_or stage.dues k Nothing

-- the MD5 that was stated is not that of the body, which is whole
abbrev pub Disagrees : Load → Type 0
Disagrees load = (load.left ≡ 0) × ((given : List ℕ) × (load.stated ≡ Some given) × (given ≢ load.made.etag))

-- nothing may be put in place yet
abbrev pub IsOpen : Load → Type 0
IsOpen load = (0 < load.left) ⊎ Disagrees load

-- the blocks of drive k's shard so far are these, or a manifest alone is written
abbrev pub IsOfDrive : Load → ℕ → Blocks → Type 0
IsOfDrive load k None = load.alone ≡ true
IsOfDrive load k (Some blocks) = (load.alone ≡ false) × (slice_index_or (all_bytes load.tables.items) k [] ≡ table_of blocks)

-- what drive k has while a stage is at work there, on which it had `before` when the stage was made
pub record AtWork (stage : Stage) (blocks : Blocks) (k : ℕ) (before cells : DataCells) : Type 0 where
  pub early : IsOpen stage.load → is_early (due_at stage k) ≡ true
  pub has : HasBy (why_at stage k) (due_at stage k) (block_at k stage.load.window) stage.load.made.manifest.items blocks before cells
