-- Why too few drives took a body, or gave one: a letter for each drive, each with the call that it tells of.
use Rattle.std.specs.Prelude.{◌≡◌, ◌≢◌, ◌⊎◌, ℕ, ◌+◌, ◌*◌, ◌<◌, ◌≤◌, List, [], ◌++◌, Some, length, take, drop, slice_get, slice_index_or}
use Rattle.std.specs.Int.{IsBitSet}
use Rattle.std.specs.List.{flat_map, sum_by}
use Rattle.sha2.specs.Sha256.{sha256}
use Rattle.stamp_id.specs.declared.version.VersionId.{VersionId}
use Rattle.call_types.specs.Good.{good_count}
use Rattle.call_types.specs.declared.why.FileKind.TheVariants.{Format, Manifest as ManifestKind, Register, Shard}
use Rattle.call_types.specs.declared.why.Why.{Why}
use Rattle.call_types.specs.declared.why.Why.TheVariants.{Behind, Damaged, Failed, Good, Lacks}
use Rattle.drive_base.specs.Calls.Seen.{CutShort, Faulted, Missing, Showed, Sized, Unwritten}
use Rattle.drive_base.specs.Plan.{data_drives, write_drives}
use Rattle.drive_base.specs.declared.plan.SetPlan.{SetPlan}
use Rattle.manifest_file.specs.Canonical.{IsCanonical}
use Rattle.manifest_file.specs.Print.{text_under}
use Rattle.manifest_file.specs.Spelling.{file_of}
use Rattle.manifest_file.specs.declared.manifest.Manifest.{Manifest}
use Rattle.manifest_file.specs.declared.manifest.ManifestPart.{ManifestPart}
use Rattle.manifest_file.specs.declared.manifest.TheConstants.{LONGEST_FILE}
use Rattle.shard_file.specs.Shards.{block_place, table_place}
use Rattle.shard_file.specs.Stripes.{block_size, stripe_count, stripe_length, stripe_size}
use Rattle.body_print.specs.Names.{loose_manifest_name, loose_shard_name, manifest_name, shard_name}
use Rattle.body_print.specs.Plans.{data_plan}
use Rattle.desk_base.specs.Telling.{Telling}
use Rattle.desk_base.specs.Telling.Telling.{Head, Piece}
use Rattle.receipts.specs.Events.{Log, Saw, tale_of}

-- a drive is in use
abbrev pub IsInUse : SetPlan → ℕ → Type 0
IsInUse set k = IsBitSet set.out k → ⊥

-- fewer drives than are needed were good
pub record FewGood (set : SetPlan) (need : ℕ) (whys : List Why) : Type 0 where
  pub counted : length whys ≡ set.drives
  pub few : good_count whys < need

-- why a drive took the data of an id, or didn't: it is out, a call of it that writes or places one of the id's two loose files failed, or it forgot such a
-- file that was just written
abbrev pub StageLetter : SetPlan → VersionId → Log → ℕ → Why → Type 0
StageLetter set id log k Good = IsInUse set k
StageLetter set id log k (Failed before after) = IsInUse set k
    × (Saw log k (Faulted (loose_shard_name id) before after) ⊎ Saw log k (Faulted (loose_manifest_name id) before after))
StageLetter set id log k (Damaged damage) = ⊥
StageLetter set id log k (Behind ballot) = ⊥
StageLetter set id log k (Lacks Format) = IsBitSet set.out k
StageLetter set id log k (Lacks Register) = ⊥
StageLetter set id log k (Lacks ManifestKind) = IsInUse set k × Saw log k (Unwritten (loose_manifest_name id))
StageLetter set id log k (Lacks Shard) = IsInUse set k × Saw log k (Unwritten (loose_shard_name id))

-- fewer drives than a write of it needs took a body, which was staged under an id of a slot
pub record FewTook (set : SetPlan) (slot : ℕ) (whys : List Why) (log : Log) : Type 0 where
  pub id : VersionId
  pub few : FewGood set (write_drives (data_plan set id).drives (data_plan set id).parity) whys
  pub of_slot : id.slot ≡ slot
  pub each : (k : ℕ) → k < set.drives → StageLetter set id log k (slice_index_or whys k Good)

-- the data of a version: its id, its print, and to where it is read
pub record Wanted : Type 0 where
  pub id : VersionId
  pub print : List ℕ
  pub reach : ℕ

-- the length of a body that is cut into these parts
abbrev pub length_of_parts : List ManifestPart → ℕ
length_of_parts parts = sum_by (λ (part : ManifestPart). part.length) parts

-- a manifest serves a read: it is canonical, of the numbers of the data's plan, has the print, and its parts reach far enough
pub record Serves (set : SetPlan) (wanted : Wanted) (m : Manifest) : Type 0 where
  pub canonical : IsCanonical m
  pub drives : m.drives ≡ (data_plan set wanted).drives
  pub parity : m.parity ≡ (data_plan set wanted).parity
  pub printed : wanted.print ≡ sha256 (text_under m)
  pub reaches : wanted.reach ≤ length_of_parts m.parts

-- a drive told the length of a file, and then less of it came, or the whole, which is that of no manifest that serves
pub record IsUnserved (set : SetPlan) (wanted : Wanted) (log : Log) (k : ℕ) (file : List ℕ) : Type 0 where
  pub sized : Saw log k (Sized (manifest_name wanted.id) (length file))
  pub showed : Saw log k (Showed (manifest_name wanted.id) 0 file)
  pub none : (m : Manifest) → Serves set wanted m → file ≢ file_of m

pub record IsCutManifest (wanted : Wanted) (log : Log) (k : ℕ) : Type 0 where
  pub long : ℕ
  pub sized : Saw log k (Sized (manifest_name wanted.id) long)
  pub place : ℕ
  pub short : Saw log k (CutShort (manifest_name wanted.id) 0 long place)

-- a drive's manifest is damaged: it is longer than each manifest, or no manifest that serves
abbrev pub IsBadManifest : SetPlan → Wanted → Log → ℕ → Type 0
IsBadManifest set wanted log k =
    ((long : ℕ) × Saw log k (Sized (manifest_name wanted.id) long) × (LONGEST_FILE < long))
    ⊎ IsCutManifest wanted log k
    ⊎ ((file : List ℕ) × IsUnserved set wanted log k file)

-- why a drive gave no manifest that serves
abbrev pub ManifestLetter : SetPlan → Wanted → Log → ℕ → Why → Type 0
ManifestLetter set wanted log k Good = ⊥
ManifestLetter set wanted log k (Failed before after) = IsInUse set k × Saw log k (Faulted (manifest_name wanted.id) before after)
ManifestLetter set wanted log k (Damaged damage) = IsInUse set k × IsBadManifest set wanted log k
ManifestLetter set wanted log k (Behind ballot) = ⊥
ManifestLetter set wanted log k (Lacks Format) = IsBitSet set.out k
ManifestLetter set wanted log k (Lacks Register) = ⊥
ManifestLetter set wanted log k (Lacks ManifestKind) = IsInUse set k × Saw log k (Missing (manifest_name wanted.id))
ManifestLetter set wanted log k (Lacks Shard) = ⊥

-- no drive gave a manifest that serves
pub record NoneServes (set : SetPlan) (wanted : Wanted) (whys : List Why) (log : Log) : Type 0 where
  pub counted : length whys ≡ set.drives
  pub each : (k : ℕ) → k < set.drives → ManifestLetter set wanted log k (slice_index_or whys k Good)

-- a drive showed these bytes at this place of a file, alone or among more
pub record ShowedAt (log : Log) (k : ℕ) (name : List ℕ) (place : ℕ) (bytes : List ℕ) : Type 0 where
  pub from : ℕ
  pub gap : ℕ
  pub more : List ℕ
  pub called : Saw log k (Showed name from more)
  pub place_is : place ≡ from + gap
  pub piece : bytes ≡ take (length bytes) (drop gap more)

-- a stripe of a part of a body, of which each stripe has d data blocks, with the root of the part's shard on one drive
pub record Wants : Type 0 where
  pub d : ℕ
  pub part : ManifestPart
  pub stripe : ℕ
  pub root : List ℕ

-- a drive showed the place of the part's digest table, these bytes
pub record ShowedTable (wants : Wants) (log : Log) (k : ℕ) (table : List ℕ) : Type 0 where
  pub size : length table ≡ 32 * stripe_count wants.part.length
  pub showed : ShowedAt log k (shard_name wants.part.id) (table_place wants.d wants.part.length) table

-- it showed the place of the stripe's block, these bytes
pub record ShowedBlock (wants : Wants) (log : Log) (k : ℕ) (block : List ℕ) : Type 0 where
  pub size : length block ≡ block_size wants.d (stripe_length wants.part.length wants.stripe)
  pub showed : ShowedAt log k (shard_name wants.part.id) (block_place wants.d wants.stripe) block

-- what it showed of the table hasn't the root
pub record IsBadTable (wants : Wants) (since : Log) (k : ℕ) : Type 0 where
  pub table : List ℕ
  pub showed : ShowedTable wants since k table
  pub differs : wants.root ≢ sha256 table

-- what it showed of the block hasn't the digest that its table has, and the table has the root
pub record IsBadBlock (wants : Wants) (log since : Log) (k : ℕ) : Type 0 where
  pub table : List ℕ
  pub showed_table : ShowedTable wants log k table
  pub rooted : wants.root ≡ sha256 table
  pub block : List ℕ
  pub showed : ShowedBlock wants since k block
  pub differs : take 32 (drop (32 * wants.stripe) table) ≢ sha256 block

-- the file ends before the table or the block does
pub record IsCutShard (wants : Wants) (since : Log) (k : ℕ) : Type 0 where
  pub place : ℕ
  pub long : ℕ
  pub ends : ℕ
  pub asked : ((place ≡ table_place wants.d wants.part.length) × (long ≡ 32 * stripe_count wants.part.length))
      ⊎ ((place ≡ block_place wants.d wants.stripe) × (long ≡ block_size wants.d (stripe_length wants.part.length wants.stripe)))
  pub short : Saw since k (CutShort (shard_name wants.part.id) place long ends)

-- a drive's shard is damaged where this block is read
abbrev pub IsBadShard : Wants → Log → Log → ℕ → Type 0
IsBadShard wants log since k = IsBadTable wants since k ⊎ IsBadBlock wants log since k ⊎ IsCutShard wants since k

-- a drive showed a block of the stripe that has the digest which its table has, and the table has the root
pub record IsGoodBlock (wants : Wants) (log since : Log) (k : ℕ) : Type 0 where
  pub table : List ℕ
  pub showed_table : ShowedTable wants log k table
  pub rooted : wants.root ≡ sha256 table
  pub block : List ℕ
  pub showed : ShowedBlock wants since k block
  pub same : take 32 (drop (32 * wants.stripe) table) ≡ sha256 block

-- why a drive gave a verified block of a stripe, or none: the calls since then tell why, and a table may have been shown before
abbrev pub BlockLetter : SetPlan → Wants → Log → Log → ℕ → Why → Type 0
BlockLetter set wants log since k Good = IsInUse set k × IsGoodBlock wants log since k
BlockLetter set wants log since k (Failed before after) = IsInUse set k × Saw since k (Faulted (shard_name wants.part.id) before after)
BlockLetter set wants log since k (Damaged damage) = IsInUse set k × IsBadShard wants log since k
BlockLetter set wants log since k (Behind ballot) = ⊥
BlockLetter set wants log since k (Lacks Format) = IsBitSet set.out k
BlockLetter set wants log since k (Lacks Register) = ⊥
BlockLetter set wants log since k (Lacks ManifestKind) = ⊥
BlockLetter set wants log since k (Lacks Shard) = IsInUse set k × Saw since k (Missing (shard_name wants.part.id))

-- a place of a body is in this stripe of a part of its manifest
pub record IsInStripe (m : Manifest) (at number : ℕ) (part : ManifestPart) (stripe : ℕ) : Type 0 where
  pub is : slice_get m.parts number ≡ Some part
  pub begun : length_of_parts (take number m.parts) + stripe_size * stripe ≤ at
  pub ends : at < length_of_parts (take number m.parts) + stripe_size * (stripe + 1)
  pub within : at < length_of_parts (take number m.parts) + part.length

-- the bytes that were told in a log, behind heads
abbrev pub bytes_in : Telling → List ℕ
bytes_in (Head reply) = []
bytes_in (Piece bytes) = bytes

abbrev pub told_bytes : Log → List ℕ
told_bytes log = flat_map bytes_in (tale_of log)

-- the part of a log since a reader turned to a window of stripes, of which it may read four at once: a manifest was shown before, and three stripes were told
-- since at most
pub record IsSinceTurned (log since : Log) (drive : ℕ) (name file : List ℕ) : Type 0 where
  pub before : Log
  pub parts : log ≡ before ++ since
  pub showed : Saw before drive (Showed name 0 file)
  pub recent : length (told_bytes since) ≤ 3 * stripe_size

-- of the stripe that has the next byte fewer drives than it has data blocks gave one, by the calls since its window was begun, behind a manifest that serves
pub record FewBlocks (set : SetPlan) (wanted : Wanted) (next : ℕ) (whys : List Why) (log : Log) : Type 0 where
  pub manifest : Manifest
  pub serves : Serves set wanted manifest
  pub drive : ℕ
  pub number : ℕ
  pub part : ManifestPart
  pub stripe : ℕ
  pub next_in : IsInStripe manifest next number part stripe
  pub needed : next < wanted.reach
  pub since : Log
  pub is_since : IsSinceTurned log since drive (manifest_name wanted.id) (file_of manifest)
  pub few : FewGood set (data_drives (data_plan set wanted).drives (data_plan set wanted).parity) whys
  pub each : (k : ℕ) → k < set.drives
      → BlockLetter set (record {
        d = data_drives (data_plan set wanted).drives (data_plan set wanted).parity;
        part = part;
        stripe = stripe;
        root = slice_index_or part.roots k [];
      }) log since k (slice_index_or whys k Good)

-- a read could not go on at the next byte
abbrev pub CannotRead : SetPlan → Wanted → ℕ → List Why → Log → Type 0
CannotRead set wanted next whys log = NoneServes set wanted whys log ⊎ FewBlocks set wanted next whys log
