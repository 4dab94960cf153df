-- How the calls that stage data put it in place, on a drive that does what it answers.
use Rattle.std.proofs.Common.{◌≡◌, ◌≢◌, ◌⊎◌, ◌∙◌, ◌<◌, ℕ, suc, Bool, true, false, IsTrue, List, [], ◌∷◌, ◌++◌, All, Option, None, Some, append-nil, append_assoc, ap, arith, inl, inr, length, refl, subst, sym}
use Rattle.std.specs.Prelude.{Ok, Err}
use Rattle.std.specs.List.{concat}
use Rattle.std.specs.Str.{bytes_eq}
use Rattle.std.proofs.lemmas.Bool.{cases_Bool}
use Rattle.std.proofs.lemmas.Map.{update_other, update_same}
use Rattle.std.proofs.lemmas.Slice.Eq.{bytes_eq-Decides}
use Rattle.stamp_id.specs.declared.version.VersionId.{VersionId}
use Rattle.drive_base.specs.DriveModel.{FilesAfter}
use Rattle.drive_base.specs.Files.{Files, LooseFile, with_loose, with_placed}
use Rattle.drive_base.specs.Leaves.{AnyLoose, Placed, PlacedOrNot, loose_bytes}
use Rattle.drive_base.specs.Trail.{DriveCall, Size, Read, Append, Sync, Rename, Discard, Remove, Names}
use Rattle.drive_base.specs.declared.fault.DriveFault.TheVariants.{Absent, Failed, NoMemory}
use Rattle.body_print.specs.Names.{loose_manifest_name, loose_shard_name, manifest_name, shard_name}
use Rattle.body_print.specs.Staging.{appends}
use Rattle.drive_trails.specs.Behaving.{AreMerged, Leads, telling}
use Rattle.drive_trails.specs.Placed.{HasNoneLoose, IsInPlace, IsOtherLoose, IsOtherName, SparesId, StagedDataIsInPlace}

-- ---- names

differ : (a b : List ℕ) → a ≢ b → bytes_eq a b ≡ false
differ a b apart = elim (cases_Bool (bytes_eq a b)) [
  | inl is ↦ absurd (apart ((bytes_eq-Decides a b).0 is))
  | inr not ↦ not
]

same : (a : List ℕ) → bytes_eq a a ≡ true
same a = (bytes_eq-Decides a a).1 refl

abbrev first_byte : List ℕ → ℕ
first_byte [] = 0
first_byte (byte ∷ rest) = byte

loose_apart : (id : VersionId) → loose_shard_name id ≢ loose_manifest_name id
loose_apart id is = let bytes : 115 ≡ 109 = ap first_byte is in absurd (omega (arith, bytes))

names_apart : (id : VersionId) → shard_name id ≢ manifest_name id
names_apart id is = let bytes : 115 ≡ 109 = ap first_byte is in absurd (omega (arith, bytes))

-- ---- what a drive has under the four names of an id

record Cells : Type 0 where
  loose_manifest : Option LooseFile
  loose_shard : Option LooseFile
  kept_manifest : Option (List ℕ)
  shown_manifest : Option (List ℕ)
  kept_shard : Option (List ℕ)
  shown_shard : Option (List ℕ)

cells_of : VersionId → Files → Cells
cells_of id files = record {
  loose_manifest = files.loose (loose_manifest_name id);
  loose_shard = files.loose (loose_shard_name id);
  kept_manifest = files.kept (manifest_name id);
  shown_manifest = files.shown (manifest_name id);
  kept_shard = files.kept (shard_name id);
  shown_shard = files.shown (shard_name id);
}

-- a change under another loose name, and one under another name, leave them
loose_stays : (id : VersionId) (files : Files) (loose : List ℕ) (w : Option LooseFile) → IsOtherLoose id loose
    → cells_of id (with_loose files loose w) ≡ cells_of id files
unfolding cells_of
loose_stays id files loose w other = λ i. record {
  loose_manifest = update_other bytes_eq files.loose loose w (loose_manifest_name id) (differ loose (loose_manifest_name id) other.manifest) i;
  loose_shard = update_other bytes_eq files.loose loose w (loose_shard_name id) (differ loose (loose_shard_name id) other.shard) i;
  kept_manifest = files.kept (manifest_name id);
  shown_manifest = files.shown (manifest_name id);
  kept_shard = files.kept (shard_name id);
  shown_shard = files.shown (shard_name id);
}

placed_stays : (id : VersionId) (files : Files) (name : List ℕ) (w : Option (List ℕ)) → IsOtherName id name
    → cells_of id (with_placed files name w) ≡ cells_of id files
unfolding cells_of
placed_stays id files name w other = λ i. record {
  loose_manifest = files.loose (loose_manifest_name id);
  loose_shard = files.loose (loose_shard_name id);
  kept_manifest = update_other bytes_eq files.kept name w (manifest_name id) (differ name (manifest_name id) other.manifest) i;
  shown_manifest = update_other bytes_eq files.shown name w (manifest_name id) (differ name (manifest_name id) other.manifest) i;
  kept_shard = update_other bytes_eq files.kept name w (shard_name id) (differ name (shard_name id) other.shard) i;
  shown_shard = update_other bytes_eq files.shown name w (shard_name id) (differ name (shard_name id) other.shard) i;
}

any_stays : (id : VersionId) (old new : Files) (loose : List ℕ) → IsOtherLoose id loose → AnyLoose old loose new → cells_of id new ≡ cells_of id old
any_stays id old new loose other (left, is) = ap (cells_of id) is ∙ loose_stays id old loose left other

rename_stays : (id : VersionId) (old new : Files) (loose name : List ℕ) → IsOtherLoose id loose → IsOtherName id name → Placed old loose name new
    → cells_of id new ≡ cells_of id old
rename_stays id old new loose name other away placed = ap (cells_of id) placed.is
    ∙ (placed_stays id (with_loose old loose None) name (Some placed.bytes) away ∙ loose_stays id old loose None other)

-- a call that names none of them leaves them
spared : (id : VersionId) (call : DriveCall) (old new : Files) → SparesId id call → FilesAfter call (telling old) (telling new) → cells_of id new ≡ cells_of id old
spared id (Size name (Ok n)) old new other did = ap (cells_of id) did.1
spared id (Size name (Err Absent)) old new other did = ap (cells_of id) did.1
spared id (Size name (Err Failed)) old new other did = ap (cells_of id) did
spared id (Size name (Err NoMemory)) old new other did = absurd did
spared id (Read name at into (Ok n) filled) old new other did = ap (cells_of id) did.1
spared id (Read name at into (Err Absent) filled) old new other did = ap (cells_of id) did.1
spared id (Read name at into (Err Failed) filled) old new other did = ap (cells_of id) did
spared id (Read name at into (Err NoMemory) filled) old new other did = absurd did
spared id (Append loose bytes (Ok done)) old new other did = any_stays id old new loose other (_, did)
spared id (Append loose bytes (Err Absent)) old new other did = absurd did
spared id (Append loose bytes (Err Failed)) old new other did = any_stays id old new loose other did
spared id (Append loose bytes (Err NoMemory)) old new other did = absurd did
spared id (Sync loose (Ok done)) old new other did = any_stays id old new loose other (_, did.2)
spared id (Sync loose (Err Absent)) old new other did = ap (cells_of id) did.1
spared id (Sync loose (Err Failed)) old new other did = any_stays id old new loose other did
spared id (Sync loose (Err NoMemory)) old new other did = absurd did
spared id (Rename loose name (Ok done)) old new other did = rename_stays id old new loose name other.0 other.1 did
spared id (Rename loose name (Err Absent)) old new other did = ap (cells_of id) did.1
spared id (Rename loose name (Err Failed)) old new other (inl any) = any_stays id old new loose other.0 any
spared id (Rename loose name (Err Failed)) old new other (inr (done, placed, any)) =
    any_stays id done new loose other.0 any ∙ rename_stays id old done loose name other.0 other.1 placed
spared id (Rename loose name (Err NoMemory)) old new other did = absurd did
spared id (Discard loose (Ok done)) old new other did = any_stays id old new loose other (None, did.1)
spared id (Discard loose (Err Absent)) old new other did = ap (cells_of id) did.1
spared id (Discard loose (Err Failed)) old new other did = any_stays id old new loose other did
spared id (Discard loose (Err NoMemory)) old new other did = absurd did
spared id (Remove name (Ok done)) old new other did = ap (cells_of id) did.1 ∙ placed_stays id old name None other
spared id (Remove name (Err Absent)) old new other did = ap (cells_of id) did.1
spared id (Remove name (Err Failed)) old new other (inl is) = ap (cells_of id) is
spared id (Remove name (Err Failed)) old new other (inr is) = ap (cells_of id) is ∙ placed_stays id old name None other
spared id (Remove name (Err NoMemory)) old new other did = absurd did
spared id (Names from most (Ok names)) old new other did = ap (cells_of id) did.1
spared id (Names from most (Err Absent)) old new other did = absurd did
spared id (Names from most (Err Failed)) old new other did = ap (cells_of id) did
spared id (Names from most (Err NoMemory)) old new other did = ap (cells_of id) did

-- ---- walking on

abbrev head_or : DriveCall → List DriveCall → DriveCall
head_or call [] = call
head_or call (first ∷ rest) = first

abbrev tail_of : List DriveCall → List DriveCall
tail_of [] = []
tail_of (first ∷ rest) = rest

spares_first : (id : VersionId) (call : DriveCall) (rest : List DriveCall) → All (SparesId id) (call ∷ rest) → SparesId id call
spares_first id call rest all = all 0 call (omega arith)

spares_rest : (id : VersionId) (call : DriveCall) (rest : List DriveCall) → All (SparesId id) (call ∷ rest) → All (SparesId id) rest
spares_rest id call rest all = λ k d low. all (suc k) d (omega (arith, low))

module _ (id : VersionId) (Goal : Files → Type 0) where
  -- what is left to show once some own calls are left
  Rest : List DriveCall → (Cells → Type 0) → Type 0
  Rest own Inv = (others all : List DriveCall) (before after : Files) → AreMerged own others all → All (SparesId id) others → Leads all before after
      → Inv (cells_of id before) → Goal after

  -- the next own call comes, after some others
  next : (h : DriveCall) (t : List DriveCall) (Inv Then : Cells → Type 0) → Rest t Then
      → ((old new : Files) → FilesAfter h (telling old) (telling new) → Inv (cells_of id old) → Then (cells_of id new)) → Rest (h ∷ t) Inv
  unfolding Rest
  next h t Inv Then rest step others [] before after merged spares leads inv = let is = merged.0 in absurd cc
  next h t Inv Then rest step others (call ∷ all) before after (inl (left, own_is, merged)) spares (mid, did, leads) inv =
      let call_is : h ≡ call = ap (head_or call) own_is in
      let left_is : t ≡ left = ap tail_of own_is in
      rest others all mid after (subst (λ (own : List DriveCall). AreMerged own others all) (sym left_is) merged) spares leads
      (step before mid (subst (λ (c : DriveCall). FilesAfter c (telling before) (telling mid)) (sym call_is) did) inv)
  next h t Inv Then rest step others (call ∷ all) before after (inr (left, others_are, merged)) spares (mid, did, leads) inv =
      let spare = subst (λ (l : List DriveCall). All (SparesId id) l) others_are spares in
      next h t Inv Then rest step left all mid after merged (spares_rest id call left spare) leads
      (subst Inv (sym (spared id call before mid (spares_first id call left spare) did)) inv)

  -- no own call is left
  over : (Inv : Cells → Type 0) → ((files : Files) → Inv (cells_of id files) → Goal files) → Rest [] Inv
  unfolding Rest
  over Inv goal others [] before after merged spares leads inv = goal after (subst (λ (f : Files). Inv (cells_of id f)) (sym leads) inv)
  over Inv goal others (call ∷ all) before after (inl (left, own_is, merged)) spares (mid, did, leads) inv = absurd cc
  over Inv goal others (call ∷ all) before after (inr (left, others_are, merged)) spares (mid, did, leads) inv =
      let spare = subst (λ (l : List DriveCall). All (SparesId id) l) others_are spares in
      over Inv goal left all mid after merged (spares_rest id call left spare) leads
      (subst Inv (sym (spared id call before mid (spares_first id call left spare) did)) inv)

-- ---- the calls that stage data

some_is : {X : Type 0} (a b : X) → Some a ≡ Some b → a ≡ b
some_is a b is = ap (λ o. or_else a o) is
  where
    or_else : {X : Type 0} → X → Option X → X
    or_else d None = d
    or_else d (Some x) = x

module _ (id : VersionId) (shard manifest : List ℕ) where
  synced : List ℕ → Option LooseFile
  synced bytes = Some (record { bytes = bytes; synced = true })

  -- by how far the calls are
  record Appending (done : List ℕ) (c : Cells) : Type 0 where
    none : c.loose_manifest ≡ None
    bytes : loose_bytes c.loose_shard ≡ done

  record ShardWritten (c : Cells) : Type 0 where
    none : c.loose_manifest ≡ None
    is : c.loose_shard ≡ synced shard

  record ManifestAppended (c : Cells) : Type 0 where
    bytes : loose_bytes c.loose_manifest ≡ manifest
    is : c.loose_shard ≡ synced shard

  record ManifestWritten (c : Cells) : Type 0 where
    manifest_is : c.loose_manifest ≡ synced manifest
    is : c.loose_shard ≡ synced shard

  record ManifestPlaced (c : Cells) : Type 0 where
    kept : c.kept_manifest ≡ Some manifest
    shown : c.shown_manifest ≡ Some manifest
    is : c.loose_shard ≡ synced shard

  record AllPlaced (c : Cells) : Type 0 where
    kept_manifest : c.kept_manifest ≡ Some manifest
    shown_manifest : c.shown_manifest ≡ Some manifest
    kept_shard : c.kept_shard ≡ Some shard
    shown_shard : c.shown_shard ≡ Some shard

  abbrev goal : Files → Type 0
  goal files = IsInPlace id shard manifest files

  all_placed : Rest id goal [] AllPlaced
  unfolding cells_of
  all_placed = over id goal AllPlaced (λ files placed. record {
    kept_manifest = placed.kept_manifest;
    shown_manifest = placed.shown_manifest;
    kept_shard = placed.kept_shard;
    shown_shard = placed.shown_shard;
  })

  abbrev ls : List ℕ
  ls = loose_shard_name id

  abbrev lm : List ℕ
  lm = loose_manifest_name id

  place_shard : (old new : Files) → Placed old ls (shard_name id) new → ManifestPlaced (cells_of id old) → AllPlaced (cells_of id new)
  unfolding cells_of synced
  place_shard old new placed inv =
      let file : placed.file ≡ record { bytes = shard; synced = true } = some_is placed.file _ (sym placed.was ∙ inv.is) in
      let bytes : placed.bytes ≡ shard = placed.synced (subst (λ (f : LooseFile). IsTrue f.synced) (sym file) refl) ∙ ap (λ (f : LooseFile). f.bytes) file in
      let mid = with_loose old ls None in
      record {
        kept_manifest = ap (λ (f : Files). f.kept (manifest_name id)) placed.is
            ∙ (update_other bytes_eq mid.kept (shard_name id) (Some placed.bytes) (manifest_name id) (differ (shard_name id) (manifest_name id) (names_apart id)) ∙ inv.kept);
        shown_manifest = ap (λ (f : Files). f.shown (manifest_name id)) placed.is
            ∙ (update_other bytes_eq mid.shown (shard_name id) (Some placed.bytes) (manifest_name id) (differ (shard_name id) (manifest_name id) (names_apart id)) ∙ inv.shown);
        kept_shard = ap (λ (f : Files). f.kept (shard_name id)) placed.is
            ∙ (update_same bytes_eq mid.kept (shard_name id) (Some placed.bytes) (shard_name id) (same (shard_name id)) ∙ ap Some bytes);
        shown_shard = ap (λ (f : Files). f.shown (shard_name id)) placed.is
            ∙ (update_same bytes_eq mid.shown (shard_name id) (Some placed.bytes) (shard_name id) (same (shard_name id)) ∙ ap Some bytes);
      }

  manifest_placed : Rest id goal (Rename ls (shard_name id) (Ok tt) ∷ []) ManifestPlaced
  manifest_placed = next id goal (Rename ls (shard_name id) (Ok tt)) [] ManifestPlaced AllPlaced all_placed (λ old new did inv. place_shard old new did inv)

  place_manifest : (old new : Files) → Placed old lm (manifest_name id) new → ManifestWritten (cells_of id old) → ManifestPlaced (cells_of id new)
  unfolding cells_of synced
  place_manifest old new placed inv =
      let file : placed.file ≡ record { bytes = manifest; synced = true } = some_is placed.file _ (sym placed.was ∙ inv.manifest_is) in
      let bytes : placed.bytes ≡ manifest = placed.synced (subst (λ (f : LooseFile). IsTrue f.synced) (sym file) refl) ∙ ap (λ (f : LooseFile). f.bytes) file in
      let mid = with_loose old lm None in
      record {
        kept = ap (λ (f : Files). f.kept (manifest_name id)) placed.is
            ∙ (update_same bytes_eq mid.kept (manifest_name id) (Some placed.bytes) (manifest_name id) (same (manifest_name id)) ∙ ap Some bytes);
        shown = ap (λ (f : Files). f.shown (manifest_name id)) placed.is
            ∙ (update_same bytes_eq mid.shown (manifest_name id) (Some placed.bytes) (manifest_name id) (same (manifest_name id)) ∙ ap Some bytes);
        is = ap (λ (f : Files). f.loose ls) placed.is
            ∙ (update_other bytes_eq old.loose lm None ls (differ lm ls (λ is. loose_apart id (sym is))) ∙ inv.is);
      }

  manifest_written : Rest id goal (Rename lm (manifest_name id) (Ok tt) ∷ Rename ls (shard_name id) (Ok tt) ∷ []) ManifestWritten
  manifest_written = next id goal (Rename lm (manifest_name id) (Ok tt)) (Rename ls (shard_name id) (Ok tt) ∷ []) ManifestWritten ManifestPlaced manifest_placed
      (λ old new did inv. place_manifest old new did inv)

  sync_manifest : (old new : Files) → FilesAfter (Sync lm (Ok tt)) (telling old) (telling new) → ManifestAppended (cells_of id old) → ManifestWritten (cells_of id new)
  unfolding cells_of synced
  sync_manifest old new (file, was, is) inv =
      let bytes : file.bytes ≡ manifest = ap loose_bytes (sym was) ∙ inv.bytes in
      record {
        manifest_is = ap (λ (f : Files). f.loose lm) is
            ∙ (update_same bytes_eq old.loose lm (Some (record { bytes = file.bytes; synced = true })) lm (same lm)
            ∙ ap (λ (b : List ℕ). Some (record { bytes = b; synced = true })) bytes);
        is = ap (λ (f : Files). f.loose ls) is
            ∙ (update_other bytes_eq old.loose lm (Some (record { bytes = file.bytes; synced = true })) ls (differ lm ls (λ is. loose_apart id (sym is))) ∙ inv.is);
      }

  manifest_appended : Rest id goal (Sync lm (Ok tt) ∷ Rename lm (manifest_name id) (Ok tt) ∷ Rename ls (shard_name id) (Ok tt) ∷ []) ManifestAppended
  manifest_appended = next id goal (Sync lm (Ok tt)) (Rename lm (manifest_name id) (Ok tt) ∷ Rename ls (shard_name id) (Ok tt) ∷ []) ManifestAppended ManifestWritten
      manifest_written (λ old new did inv. sync_manifest old new did inv)

  append_manifest : (old new : Files) → FilesAfter (Append lm manifest (Ok tt)) (telling old) (telling new) → ShardWritten (cells_of id old)
      → ManifestAppended (cells_of id new)
  unfolding cells_of
  append_manifest old new is inv =
      let w : LooseFile = record { bytes = loose_bytes (old.loose lm) ++ manifest; synced = false } in
      let there = ap (λ (f : Files). f.loose lm) is ∙ update_same bytes_eq old.loose lm (Some w) lm (same lm) in
      record {
        bytes = ap loose_bytes there ∙ ap (λ (o : Option LooseFile). loose_bytes o ++ manifest) inv.none;
        is = ap (λ (f : Files). f.loose ls) is ∙ (update_other bytes_eq old.loose lm (Some w) ls (differ lm ls (λ is. loose_apart id (sym is))) ∙ inv.is);
      }

  abbrev behind_shard : List DriveCall
  behind_shard = Append lm manifest (Ok tt) ∷ Sync lm (Ok tt) ∷ Rename lm (manifest_name id) (Ok tt) ∷ Rename ls (shard_name id) (Ok tt) ∷ []

  shard_written : Rest id goal behind_shard ShardWritten
  shard_written = next id goal (Append lm manifest (Ok tt)) (Sync lm (Ok tt) ∷ Rename lm (manifest_name id) (Ok tt) ∷ Rename ls (shard_name id) (Ok tt) ∷ [])
      ShardWritten ManifestAppended manifest_appended (λ old new did inv. append_manifest old new did inv)

  sync_shard : (old new : Files) → FilesAfter (Sync ls (Ok tt)) (telling old) (telling new) → Appending shard (cells_of id old) → ShardWritten (cells_of id new)
  unfolding cells_of synced
  sync_shard old new (file, was, is) inv =
      let bytes : file.bytes ≡ shard = ap loose_bytes (sym was) ∙ inv.bytes in
      record {
        none = ap (λ (f : Files). f.loose lm) is
            ∙ (update_other bytes_eq old.loose ls (Some (record { bytes = file.bytes; synced = true })) lm (differ ls lm (loose_apart id)) ∙ inv.none);
        is = ap (λ (f : Files). f.loose ls) is
            ∙ (update_same bytes_eq old.loose ls (Some (record { bytes = file.bytes; synced = true })) ls (same ls)
            ∙ ap (λ (b : List ℕ). Some (record { bytes = b; synced = true })) bytes);
      }

  appended : Rest id goal (Sync ls (Ok tt) ∷ behind_shard) (Appending shard)
  appended = next id goal (Sync ls (Ok tt)) behind_shard (Appending shard) ShardWritten shard_written (λ old new did inv. sync_shard old new did inv)

  append_piece : (done piece : List ℕ) (old new : Files) → FilesAfter (Append ls piece (Ok tt)) (telling old) (telling new) → Appending done (cells_of id old)
      → Appending (done ++ piece) (cells_of id new)
  unfolding cells_of
  append_piece done piece old new is inv =
      let w : LooseFile = record { bytes = loose_bytes (old.loose ls) ++ piece; synced = false } in
      record {
        none = ap (λ (f : Files). f.loose lm) is ∙ (update_other bytes_eq old.loose ls (Some w) lm (differ ls lm (loose_apart id)) ∙ inv.none);
        bytes = ap loose_bytes (ap (λ (f : Files). f.loose ls) is ∙ update_same bytes_eq old.loose ls (Some w) ls (same ls))
            ∙ ap (λ (b : List ℕ). b ++ piece) inv.bytes;
      }

  appending : (pieces : List (List ℕ)) (done : List ℕ) → done ++ concat pieces ≡ shard → Rest id goal (appends ls pieces ++ Sync ls (Ok tt) ∷ behind_shard) (Appending done)
  appending [] done joins = subst (λ (bytes : List ℕ). Rest id goal (Sync ls (Ok tt) ∷ behind_shard) (Appending bytes)) (sym joins ∙ append-nil done) appended
  appending (piece ∷ pieces) done joins = next id goal (Append ls piece (Ok tt)) (appends ls pieces ++ Sync ls (Ok tt) ∷ behind_shard) (Appending done)
      (Appending (done ++ piece)) (appending pieces (done ++ piece) (append_assoc done piece (concat pieces) ∙ joins))
      (λ old new did inv. append_piece done piece old new did inv)

pub staged_data_is_in_place : StagedDataIsInPlace
unfolding Rest cells_of
staged_data_is_in_place id pieces manifest others all before after none merged spares leads =
    appending id (concat pieces) manifest pieces [] refl others all before after
    merged spares leads (record { none = none.manifest; bytes = ap loose_bytes none.shard })
