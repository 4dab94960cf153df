-- Why a drive gave no manifest, or no block, by what its calls gave.
use Rattle.std.specs.Prelude.{◌≡◌, ◌≢◌, ◌⊎◌, ◌<◌, ◌+◌, ◌*◌, ℕ, List, length, take, drop}
use Rattle.std.specs.Int.{IsBitSet}
use Rattle.field_reader.specs.Spelling.{IsBytes}
use Rattle.sha2.specs.Sha256.{sha256}
use Rattle.stamp_id.specs.declared.version.VersionId.{VersionId}
use Rattle.seal_file.specs.declared.damage.Damage.TheVariants.{Short, Digest, Kind, Spelling, Long}
use Rattle.call_types.specs.declared.why.FileKind.{FileKind}
use Rattle.call_types.specs.declared.why.FileKind.TheVariants.{Format, Manifest, Shard}
use Rattle.call_types.specs.declared.why.Why.{Why}
use Rattle.call_types.specs.declared.why.Why.TheVariants.{Good, Failed, Damaged, Behind, Lacks}
use Rattle.drive_base.specs.Calls.{CutShort, Faulted, Missing, Seen, Showed, Sized}
use Rattle.manifest_file.specs.declared.manifest.TheConstants.{LONGEST_FILE}
use Rattle.manifest_file.specs.declared.manifest.ManifestPart.{ManifestPart}
use Rattle.shard_file.specs.Shards.{block_place, table_place}
use Rattle.shard_file.specs.Stripes.{block_size, stripe_count, stripe_length}
use Rattle.body_print.specs.Names.{shard_name, manifest_name}
use Rattle.get_read.specs.Account.{Account, Stands}
use Rattle.get_read.specs.Causes.{Wanted, digest_in}
use Rattle.get_read.specs.Manifests.{IsDamagedSo}

-- what a call for the length of a file of a kind and a name gave tells why there is none
abbrev pub TellsNoSize : FileKind → List ℕ → Why → Seen → Type 0
TellsNoSize kind name Good seen = ⊥
TellsNoSize kind name (Failed before after) seen = seen ≡ Faulted name before after
TellsNoSize kind name (Damaged _) seen = ⊥
TellsNoSize kind name (Behind _) seen = ⊥
TellsNoSize kind name (Lacks lacked) seen = (lacked ≡ kind) × (seen ≡ Missing name)

-- what a call for so many bytes of it from a place on gave tells why they didn't come
abbrev pub TellsNoPiece : FileKind → List ℕ → ℕ → ℕ → Why → Seen → Type 0
TellsNoPiece kind name at long Good seen = ⊥
TellsNoPiece kind name at long (Failed before after) seen = seen ≡ Faulted name before after
TellsNoPiece kind name at long (Damaged (Short place)) seen = seen ≡ CutShort name at long place
TellsNoPiece kind name at long (Damaged (Digest _ _)) seen = ⊥
TellsNoPiece kind name at long (Damaged (Kind _)) seen = ⊥
TellsNoPiece kind name at long (Damaged (Spelling _)) seen = ⊥
TellsNoPiece kind name at long (Damaged (Long _)) seen = ⊥
TellsNoPiece kind name at long (Behind _) seen = ⊥
TellsNoPiece kind name at long (Lacks lacked) seen = (lacked ≡ kind) × (seen ≡ Missing name)

-- what a call of a drive for its manifest gave, which was told before that its length is so, tells why there is none: no length came, or one that is longer than each manifest's, or not as many bytes
-- as were told before, or these are no manifest that serves
abbrev pub TellsNoManifest : Wanted → VersionId → (ℕ → Type 0) → Why → Seen → Type 0
TellsNoManifest wanted id WasTold why seen =
    TellsNoSize Manifest (manifest_name id) why seen
    ⊎ ((n : ℕ) × (seen ≡ Sized (manifest_name id) n) × (LONGEST_FILE < n) × (why ≡ Damaged (Long n)))
    ⊎ ((n : ℕ) × WasTold n × TellsNoPiece Manifest (manifest_name id) 0 n why seen)
    ⊎ ((file : List ℕ) × WasTold (length file) × (seen ≡ Showed (manifest_name id) 0 file) × IsDamagedSo wanted file why)

-- the cause of a drive without a manifest: it is out, or one of its calls tells why
abbrev pub NoManifestOf : Wanted → VersionId → ℕ → Account → ℕ → Why → Type 0
NoManifestOf wanted id out account k why = (IsBitSet out k × (why ≡ Lacks Format))
    ⊎ ((IsBitSet out k → ⊥) × ((seen : Seen) × Stands account k seen × TellsNoManifest wanted id (λ n. Stands account k (Sized (manifest_name id) n)) why seen))

-- a call showed these bytes at this place of a file, alone or among more
abbrev pub ShowedAt : Account → ℕ → List ℕ → ℕ → List ℕ → Type 0
ShowedAt account k name at bytes = (from : ℕ) × (gap : ℕ) × (more : List ℕ) × Stands account k (Showed name from more)
    × (at ≡ from + gap) × (bytes ≡ take (length bytes) (drop gap more))

-- drive k showed a digest table of a part that has a root
pub record IsTableIn (d : ℕ) (part : ManifestPart) (root : List ℕ) (account : Account) (k : ℕ) (table : List ℕ) : Type 0 where
  pub size : length table ≡ 32 * stripe_count part.length
  pub bytes : IsBytes table
  pub digest : root ≡ sha256 table
  pub showed : ShowedAt account k (shard_name part.id) (table_place d part.length) table

-- it showed the block of a stripe, since the reader turned to that stripe, and such a table has this digest for it
pub record IsBlockIn (d : ℕ) (part : ManifestPart) (i : ℕ) (root : List ℕ) (account since : Account) (k : ℕ) (digest block : List ℕ) : Type 0 where
  pub table : List ℕ
  pub is_table : IsTableIn d part root account k table
  pub size : length block ≡ block_size d (stripe_length part.length i)
  pub bytes : IsBytes block
  pub stored : digest ≡ digest_in table i
  pub showed : ShowedAt since k (shard_name part.id) (block_place d i) block

-- it gave a block that has the digest
pub record GaveBlockIn (d : ℕ) (part : ManifestPart) (i : ℕ) (root : List ℕ) (account since : Account) (k : ℕ) (block : List ℕ) : Type 0 where
  pub digest : List ℕ
  pub is_block : IsBlockIn d part i root account since k digest block
  pub same : digest ≡ sha256 block

-- what a call gave tells why there is no digest table of the shard of a part: its bytes didn't come, or they haven't the root
abbrev pub TellsNoTable : ℕ → ManifestPart → List ℕ → Why → Seen → Type 0
TellsNoTable d part root why seen =
    TellsNoPiece Shard (shard_name part.id) (table_place d part.length) (32 * stripe_count part.length) why seen
    ⊎ ((table : List ℕ) × (seen ≡ Showed (shard_name part.id) (table_place d part.length) table) × (length table ≡ 32 * stripe_count part.length)
    × (root ≢ sha256 table) × (why ≡ Damaged (Digest root (sha256 table))))

-- what a call gave tells why the bytes of a block didn't come
abbrev pub TellsNoBytes : ℕ → ManifestPart → ℕ → Why → Seen → Type 0
TellsNoBytes d part i why seen = TellsNoPiece Shard (shard_name part.id) (block_place d i) (block_size d (stripe_length part.length i)) why seen

-- a drive showed a block that hasn't its digest, and both are told
abbrev pub IsOtherBlock : ℕ → ManifestPart → ℕ → List ℕ → Account → Account → ℕ → Why → Type 0
IsOtherBlock d part i root account since k why = (digest : List ℕ) × (block : List ℕ) × IsBlockIn d part i root account since k digest block
    × (digest ≢ sha256 block) × (why ≡ Damaged (Digest digest (sha256 block)))

-- a call that was made since the reader turned to the stripe tells why there is no table or no block
abbrev pub TellsNone : ℕ → ManifestPart → ℕ → List ℕ → Account → ℕ → Why → Type 0
TellsNone d part i root since k why = (seen : Seen) × Stands since k seen × (TellsNoTable d part root why seen ⊎ TellsNoBytes d part i why seen)

-- the cause of a drive without a verified block of a stripe: it is out, or one of its calls for that stripe tells why
abbrev pub NoBlockOf : ℕ → ManifestPart → ℕ → List ℕ → ℕ → Account → Account → ℕ → Why → Type 0
NoBlockOf d part i root out account since k why = (IsBitSet out k × (why ≡ Lacks Format))
    ⊎ ((IsBitSet out k → ⊥) × (TellsNone d part i root since k why ⊎ IsOtherBlock d part i root account since k why))

-- the letter of a drive: it gave a verified block, or the cause of that it gave none
abbrev pub BlockLetter : ℕ → ManifestPart → ℕ → List ℕ → ℕ → Account → Account → ℕ → Why → Type 0
BlockLetter d part i root out account since k why =
    ((why ≡ Good) × (IsBitSet out k → ⊥) × ((block : List ℕ) × GaveBlockIn d part i root account since k block))
    ⊎ NoBlockOf d part i root out account since k why
