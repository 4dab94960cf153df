-- The data of a slot stands while an op removes files of data that it took.
use Rattle.std.proofs.Common.{◌≡◌, ◌⊎◌, inl, inr, ℕ, ◌<◌, List, Option, None, Some, Contains, refl, sym, subst, ◌∙◌}
use Rattle.stamp_id.specs.declared.version.VersionId.{VersionId}
use Rattle.drive_base.specs.declared.plan.SetPlan.{SetPlan}
use Rattle.manifest_file.specs.Spelling.{file_of}
use Rattle.manifest_file.specs.declared.manifest.Manifest.{Manifest}
use Rattle.body_print.specs.Names.{manifest_name, shard_name}
use Rattle.slot_history.specs.Contents.{NamedData}
use Rattle.slot_history.specs.Standing.{Records}
use Rattle.slot_history.specs.State.{State}
use Rattle.slot_data.specs.DiskLaws.{IsRemoved, StaysOrGoes, TakenIsRemoved}
use Rattle.slot_data.specs.Disks.{Disks, HasHolders, IsPieceOf, Keeps, Reaches, kept_on}
use Rattle.slot_data.specs.Holding.{Hands, Holding, IsPinned, IsPinnedFor, Purpose}
use Rattle.slot_data.specs.Holding.Purpose.{ForComplete, ForHeal, ForRead}
use Rattle.slot_data.specs.Live.{IsLiveData, IsWanted}
use Rattle.slot_data.specs.Standing.{DataStands, IsListed}
use Rattle.slot_data.proofs.DiskLemmas.{holders_stay, keeps_before, manifest_stays, same_or_apart, shard_stays}
use Rattle.slot_data.proofs.StayLemmas.{data_stays}

-- what is kept was kept
some_before : (was now : Option (List ℕ)) (bytes : List ℕ) → StaysOrGoes was now → now ≡ Some bytes → was ≡ Some bytes
some_before was now bytes (inl same) is = sym same ∙ is
some_before was now bytes (inr gone) is = (let none : None ≡ Some bytes = sym gone ∙ is in absurd cc)

module _ (set : SetPlan) (old new : Disks) (id : VersionId) (removed : IsRemoved set id old new) where
  -- what is kept under any id was kept
  kept_before : (other : VersionId) (m : Manifest) → Keeps set new other m → Keeps set old other m
  kept_before other m kept = elim (same_or_apart other id) [
    | inl same ↦
        let here = subst (λ (y : VersionId). Keeps set new y m) same kept in
        let now = kept_on new here.drive (manifest_name id) in
        subst (λ (y : VersionId). Keeps set old y m) (sym same) (record {
          drive = here.drive;
          within = here.within;
          canonical = here.canonical;
          is = some_before (kept_on old here.drive (manifest_name id)) now (file_of m) (removed.manifests here.drive here.within) here.is;
        })
    | inr apart ↦ keeps_before set id old new removed.only other m apart kept
  ]

  manifest_before : (k : ℕ) (other : VersionId) (bytes : List ℕ) → k < set.drives → kept_on new k (manifest_name other) ≡ Some bytes
      → kept_on old k (manifest_name other) ≡ Some bytes
  manifest_before k other bytes within is = elim (same_or_apart other id) [
    | inl same ↦
        subst (λ (y : VersionId). kept_on new k (manifest_name y) ≡ Some bytes → kept_on old k (manifest_name y) ≡ Some bytes) (sym same)
        (some_before (kept_on old k (manifest_name id)) (kept_on new k (manifest_name id)) bytes (removed.manifests k within)) is
    | inr apart ↦ sym (manifest_stays set id old new removed.only k other within apart) ∙ is
  ]

  shard_before : (k : ℕ) (other : VersionId) (bytes : List ℕ) → k < set.drives → kept_on new k (shard_name other) ≡ Some bytes
      → kept_on old k (shard_name other) ≡ Some bytes
  shard_before k other bytes within is = elim (same_or_apart other id) [
    | inl same ↦
        subst (λ (y : VersionId). kept_on new k (shard_name y) ≡ Some bytes → kept_on old k (shard_name y) ≡ Some bytes) (sym same)
        (some_before (kept_on old k (shard_name id)) (kept_on new k (shard_name id)) bytes (removed.shards k within)) is
    | inr apart ↦ sym (shard_stays set id old new removed.only k other within apart) ∙ is
  ]

  -- so parts were parts
  pub piece_was_removed : (whole other : VersionId) → IsPieceOf set new whole other → IsPieceOf set old whole other
  piece_was_removed whole other piece = record { manifest = piece.manifest; kept = kept_before whole piece.manifest piece.kept; part = piece.part }

module _ (set : SetPlan) (slot last : ℕ) (records : Records) (state : State) (holding : Holding) (old new : Disks) (hands : Hands) (id : VersionId)
    (taken : Contains hands.taken id) (removed : IsRemoved set id old new) (d : DataStands set slot last records state holding old hands) where
  -- what is wanted or pinned is live, and so are its parts
  abbrev IsRoot : VersionId → Type 0
  IsRoot whole = IsWanted records state holding whole ⊎ (IsPinnedFor ForRead holding.pins whole ⊎ IsPinnedFor ForHeal holding.pins whole)

  pin_root : (whole : VersionId) → IsPinned holding.pins whole → IsRoot whole
  pin_root whole is = by is.pin.purpose refl
    where
      by : (purpose : Purpose) → is.pin.purpose ≡ purpose → IsRoot whole
      by ForRead same = inr (inl (record { pin = is.pin; there = is.there; purpose_is = same; names = is.names }))
      by ForHeal same = inr (inr (record { pin = is.pin; there = is.there; purpose_is = same; names = is.names }))
      by ForComplete same = inl (inr (inr (inr (record { pin = is.pin; there = is.there; purpose_is = same; names = is.names }))))

  listed_root : (whole : VersionId) → IsListed holding whole → IsRoot whole
  listed_root whole is = elim is [
    | inl flying ↦ inl (inr (inr (inl flying)))
    | inr pinned ↦ pin_root whole pinned
  ]

  live_of : (whole other : VersionId) → IsRoot whole → Reaches set old whole other → IsLiveData set records state holding old other
  live_of whole other root reaches = elim root [
    | inl wanted ↦ inl (whole, wanted, reaches)
    | inr read ↦ inr (whole, read, reaches)
  ]

  -- so it isn't what was taken, and keeps its holders
  stays : (named : NamedData) (name : List ℕ) → IsRoot named.id → HasHolders set old named name → HasHolders set new named name
  stays named name root holders = holders_stay set id old new removed.only named name holders
      (λ same. d.in_hand.dead id taken (live_of named.id id root (inl (sym same))))
      (λ piece. d.in_hand.dead id taken (live_of named.id id root (inr piece)))

  removed_stands : DataStands set slot last records state holding new hands
  removed_stands = data_stays set slot last records state holding old new hands
      (λ k other bytes within of is. manifest_before set old new id removed k other bytes within is)
      (λ k other bytes within of is. shard_before set old new id removed k other bytes within is)
      (λ other m of kept. kept_before set old new id removed other m kept)
      (λ whole other of piece. piece_was_removed set old new id removed whole other piece)
      (λ name named is. stays named name (inl (inl (name, named, is, refl))))
      (λ name named is. stays named name (inl (inr (inl (name, named, is, refl)))))
      (λ name named is. stays named name (listed_root named.id is))
      d

pub taken_is_removed : TakenIsRemoved
taken_is_removed set slot last records state holding old new hands id taken removed d =
    removed_stands set slot last records state holding old new hands id taken removed d
