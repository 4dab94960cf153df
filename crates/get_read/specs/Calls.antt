-- What the single calls of a reader give, each as it was seen.
use Rattle.std.specs.Prelude.{◌≡◌, ◌⊎◌, ◌*◌, ℕ, false, List, Vec, Result, Ok, Err, length}
use Rattle.sha2.specs.Sha256.{sha256}
use Rattle.call_types.specs.Good.{is_good}
use Rattle.call_types.specs.declared.why.FileKind.{FileKind}
use Rattle.call_types.specs.declared.why.Why.{Why}
use Rattle.drive_base.specs.Calls.{Seen, Showed, Sized}
use Rattle.drive_base.specs.View.{DriveView, view}
use Rattle.drive_base.specs.declared.drive.Drive.{Ghosts}
use Rattle.file_access.specs.declared.fault.FetchFault.{FetchFault}
use Rattle.file_access.specs.declared.fault.FetchFault.TheVariants.{Because, NoMemory}
use Rattle.manifest_file.specs.declared.manifest.ManifestPart.{ManifestPart}
use Rattle.shard_file.specs.Shards.{block_place, table_place}
use Rattle.shard_file.specs.Stripes.{block_size, stripe_count, stripe_length}
use Rattle.body_print.specs.Names.{shard_name}
use Rattle.get_read.specs.Account.{WasSeen}
use Rattle.get_read.specs.Causes.{digest_in}
use Rattle.get_read.specs.Letters.{TellsNoBytes, TellsNoPiece, TellsNoSize, TellsNoTable}
use Rattle.get_read.specs.declared.calls.ShownBlock.{ShownBlock}

-- a call was seen that tells so
abbrev pub WasSeenSo : (Seen → Type 0) → DriveView → DriveView → Type 0
WasSeenSo Tells old new = (seen : Seen) × WasSeen seen old new × Tells seen

-- a call for the length of a file
abbrev pub SizeCall : FileKind → List ℕ → Result ℕ Why → DriveView → DriveView → Type 0
SizeCall kind name (Ok n) old new = WasSeen (Sized name n) old new
SizeCall kind name (Err why) old new = (is_good why ≡ false) × WasSeenSo (TellsNoSize kind name why) old new

-- a call for so many bytes of a file from a place on, or none for want of memory
abbrev pub PieceCall : {Z : Type 0} → FileKind → List ℕ → ℕ → ℕ → Result (Vec ℕ Z) FetchFault → DriveView → DriveView → Type 0
PieceCall kind name at long (Ok bytes) old new = (length bytes.items ≡ long) × WasSeen (Showed name at bytes.items) old new
PieceCall kind name at long (Err (Because why)) old new = (is_good why ≡ false) × WasSeenSo (TellsNoPiece kind name at long why) old new
PieceCall kind name at long (Err NoMemory) old new = Unit {0}

-- a call for the digest table of a part, of which a stripe has d data blocks
abbrev pub TableCall : {Z : Type 0} → ℕ → ManifestPart → List ℕ → Result (Vec ℕ Z) FetchFault → DriveView → DriveView → Type 0
TableCall d part root (Ok table) old new = (length table.items ≡ 32 * stripe_count part.length) × (root ≡ sha256 table.items)
    × WasSeen (Showed (shard_name part.id) (table_place d part.length) table.items) old new
TableCall d part root (Err (Because why)) old new = (is_good why ≡ false) × WasSeenSo (TellsNoTable d part root why) old new
TableCall d part root (Err NoMemory) old new = Unit {0}

-- a call for the block of a stripe, whose digest a table has
abbrev pub BlockCall : ℕ → ManifestPart → ℕ → List ℕ → Result ShownBlock FetchFault → DriveView → DriveView → Type 0
BlockCall d part i table (Ok fetched) old new = (length fetched.block.items ≡ block_size d (stripe_length part.length i))
    × (fetched.stored ≡ digest_in table i) × WasSeen (Showed (shard_name part.id) (block_place d i) fetched.block.items) old new
BlockCall d part i table (Err (Because why)) old new = (is_good why ≡ false) × WasSeenSo (TellsNoBytes d part i why) old new
BlockCall d part i table (Err NoMemory) old new = Unit {0}

-- for want of memory no call was made, or one before
abbrev pub IdleOrCalled : {T D : Type 0} → Ghosts D → Result T FetchFault → D → D → Type 0
IdleOrCalled ghosts (Ok _) old new = Unit {0}
IdleOrCalled ghosts (Err (Because _)) old new = Unit {0}
IdleOrCalled ghosts (Err NoMemory) old new = (new ≡ old) ⊎ ((seen : Seen) × WasSeen seen (view ghosts old) (view ghosts new))
