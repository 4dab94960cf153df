-- What the data drives of a set keep of the data of an id. In the place of a drive that is out any files may stand, not only what it keeps now: with
-- those that it kept last it is a holder still. A reader has the holders that are in: as many as a stripe has data blocks, while no more drives are out
-- than a write takes beyond these.
use Rattle.std.specs.Prelude.{◌≡◌, ◌⊎◌, ℕ, ◌<◌, ◌≤◌, List, [], ◌∷◌, Contains, None, Some, slice_index_or, sum_by}
use Rattle.std.specs.Int.{IsBitSet}
use Rattle.stamp_id.specs.declared.version.VersionId.{VersionId}
use Rattle.call_types.specs.declared.names.Key.{Key}
use Rattle.drive_base.specs.DriveSet.{count_in}
use Rattle.drive_base.specs.Files.{Named}
use Rattle.drive_base.specs.Plan.{data_drives, write_drives}
use Rattle.drive_base.specs.declared.plan.SetPlan.{SetPlan}
use Rattle.manifest_file.specs.Canonical.{IsCanonical}
use Rattle.manifest_file.specs.Spelling.{file_of}
use Rattle.manifest_file.specs.declared.manifest.Manifest.{Manifest}
use Rattle.manifest_file.specs.declared.manifest.ManifestPart.{ManifestPart}
use Rattle.body_print.specs.Holders.{HoldsManifest, HoldsPart}
use Rattle.body_print.specs.Names.{manifest_name, shard_name}
use Rattle.body_print.specs.Plans.{data_plan}
use Rattle.slot_history.specs.Contents.{NamedData, number_of_id}
use Rattle.slot_history.specs.Names.{key_name, part_name}

-- the kept files of each data drive of a set, in the order of their indices
abbrev pub Disks : Type 0
Disks = List (Named (List ℕ))

-- those of one drive
abbrev pub kept_on : Disks → ℕ → Named (List ℕ)
kept_on disks k = slice_index_or disks k (λ _. None)

-- some drive keeps a manifest under the name of an id
pub record Keeps (set : SetPlan) (disks : Disks) (id : VersionId) (m : Manifest) : Type 0 where
  pub drive : ℕ
  pub within : drive < set.drives
  pub canonical : IsCanonical m
  pub is : kept_on disks drive (manifest_name id) ≡ Some (file_of m)

-- a manifest has a part of this id
pub record HasPart (m : Manifest) (id : VersionId) : Type 0 where
  pub part : ManifestPart
  pub there : Contains m.parts part
  pub id_is : part.id ≡ id

-- a manifest has one part alone, which has this id
abbrev pub IsSingle : Manifest → VersionId → Type 0
IsSingle m id = (part : ManifestPart) × (m.parts ≡ part ∷ []) × (part.id ≡ id)

-- a part of a body: some drive keeps a manifest of the whole that has a part of this id. The data of a single PUT is its own part
pub record IsPieceOf (set : SetPlan) (disks : Disks) (whole id : VersionId) : Type 0 where
  pub manifest : Manifest
  pub kept : Keeps set disks whole manifest
  pub part : HasPart manifest id

-- an id is that of data, or of a part of it
abbrev pub Reaches : SetPlan → Disks → VersionId → VersionId → Type 0
Reaches set disks whole id = (id ≡ whole) ⊎ IsPieceOf set disks whole id

-- a name is that of the register of a key, or that of a part of the same key
pub record IsForKeyOf (name given : List ℕ) : Type 0 where
  pub at : Key
  pub name_is : name ≡ key_name at
  pub given_is : (given ≡ key_name at) ⊎ ((upload : VersionId) × (number : ℕ) × (given ≡ part_name at upload number))

-- a name is that of a part's register
pub record IsPartName (name : List ℕ) : Type 0 where
  pub at : Key
  pub upload : VersionId
  pub number : ℕ
  pub is : name ≡ part_name at upload number

-- What drives keep under the ids of a slot is in order: all ids were drawn, those of parts too; the parts of a body are of its slot; a part that is a
-- body of its own is for a part of the key that the whole is for; and what is for a part has its own data alone
pub record AreInOrder (set : SetPlan) (slot last : ℕ) (disks : Disks) : Type 0 where
  pub manifests : (k : ℕ) (id : VersionId) (bytes : List ℕ) → k < set.drives → id.slot ≡ slot → kept_on disks k (manifest_name id) ≡ Some bytes
      → number_of_id id ≤ last
  pub shards : (k : ℕ) (id : VersionId) (bytes : List ℕ) → k < set.drives → id.slot ≡ slot → kept_on disks k (shard_name id) ≡ Some bytes
      → number_of_id id ≤ last
  pub pieces : (whole id : VersionId) → id.slot ≡ slot → IsPieceOf set disks whole id → number_of_id id ≤ last
  pub of_slot : (whole id : VersionId) → whole.slot ≡ slot → IsPieceOf set disks whole id → id.slot ≡ slot
  pub joined : (whole id : VersionId) (m n : Manifest) → whole.slot ≡ slot → Keeps set disks whole m → HasPart m id → Keeps set disks id n
      → (id ≡ whole) ⊎ (IsForKeyOf m.name n.name × IsPartName n.name)
  pub single : (id : VersionId) (m : Manifest) → id.slot ≡ slot → Keeps set disks id m → IsPartName m.name → IsSingle m id

-- at least so many drives of a set do so
pub record AtLeast (set : SetPlan) (count : ℕ) (does : ℕ → Type 0) : Type 0 where
  pub mask : ℕ
  pub enough : count ≤ count_in mask set.drives
  pub each : (k : ℕ) → k < set.drives → IsBitSet mask k → does k

-- a manifest is that of named data, for this register: it is canonical, names the numbers of the data's plan, and its parts have the data's length together
pub record IsManifestOf (set : SetPlan) (named : NamedData) (name : List ℕ) (m : Manifest) : Type 0 where
  pub canonical : IsCanonical m
  pub drives : m.drives ≡ (data_plan set named).drives
  pub parity : m.parity ≡ (data_plan set named).parity
  pub size : sum_by (λ (p : ManifestPart). p.length) m.parts ≡ named.size
  pub name_is : m.name ≡ name

-- as many drives as a write takes keep one and the same manifest of named data, which is for this register, and no drive keeps another; of each part as
-- many keep a shard with that part's root
pub record HasHolders (set : SetPlan) (disks : Disks) (named : NamedData) (name : List ℕ) : Type 0 where
  pub manifest : Manifest
  pub is : IsManifestOf set named name manifest
  pub held : AtLeast set (write_drives (data_plan set named).drives (data_plan set named).parity)
      (λ k. (h : HoldsManifest named.id named.print (kept_on disks k)) × (h.manifest ≡ manifest))
  pub alike : (k : ℕ) (bytes : List ℕ) → k < set.drives → kept_on disks k (manifest_name named.id) ≡ Some bytes → bytes ≡ file_of manifest
  pub parts : (part : ManifestPart) → Contains manifest.parts part
      → AtLeast set (write_drives (data_plan set named).drives (data_plan set named).parity)
      (λ k. HoldsPart (data_plan set named).drives (data_drives (data_plan set named).drives (data_plan set named).parity) part k (kept_on disks k))

-- the data of an id has its holders, for the key of this name or a part of it
pub record HasHoldersFor (set : SetPlan) (disks : Disks) (name : List ℕ) (id : VersionId) : Type 0 where
  pub named : NamedData
  pub register : List ℕ
  pub id_is : named.id ≡ id
  pub key : IsForKeyOf name register
  pub holders : HasHolders set disks named register
