-- What one call of a stage does to what a drive has under the four names of an id.
use Rattle.std.proofs.Common.{◌≡◌, ◌∙◌, ℕ, true, false, List, [], ◌++◌, Option, Some, None, slice_index_or, ap, refl, subst, sym, inl, inr}
use Rattle.std.specs.Prelude.{◌⊎◌, Bool, IsTrue, Result, Ok, Err, OnOk, OnErr}
use Rattle.std.specs.List.{concat}
use Rattle.std.specs.Str.{bytes_eq}
use Rattle.std.proofs.lemmas.Map.{update_other, update_same}
use Rattle.std.proofs.lemmas.Option.{same_Some}
use Rattle.std.proofs.lemmas.Slice.Eq.{bytes_eq-Decides}
use Rattle.stamp_id.specs.declared.version.VersionId.{VersionId}
use Rattle.call_types.specs.declared.why.FileKind.{FileKind}
use Rattle.call_types.specs.declared.why.FileKind.TheVariants.{Manifest as ManifestKind, Shard as ShardKind}
use Rattle.call_types.specs.declared.why.Why.{Why}
use Rattle.call_types.specs.declared.why.Why.TheVariants.{Good, Failed, Damaged, Behind, Lacks}
use Rattle.drive_base.specs.Files.{Files, LooseFile, Named, with_name, with_loose, with_placed}
use Rattle.drive_base.specs.Leaves.{Placed, loose_bytes}
use Rattle.file_access.specs.Writing.{Appended, HasLoose, PlacedOrTouched, StepCause, Stopped, Synced, Touches, synced_file}
use Rattle.shard_file.specs.Shards.{shard_bytes, table_of}
use Rattle.body_print.specs.Names.{shard_name, manifest_name, loose_shard_name, loose_manifest_name}
use Rattle.put_stage.specs.Cells.{DataCells, data_of}
use Rattle.put_stage.specs.StripeBlocks.{all_bytes}
use Rattle.put_stage.specs.Dues.{after}
use Rattle.put_stage.specs.Steps.{HasAfter, LacksFor, LetterOf}
use Rattle.put_stage.specs.Work.{Blocks, HasBy, HasFailedAt, IsBefore, IsOfDrive, Keeps, all_placed, half_placed, held_shard, unsynced_file, writing}
use Rattle.put_stage.specs.declared.stage.Load.{Load}
use Rattle.put_stage.specs.declared.dues.Due.{Due}
use Rattle.put_stage.specs.declared.dues.Due.TheVariants.{Block, Table, SyncShard, Manifest, SyncManifest, PlaceManifest, PlaceShard}

-- what is now under a name
pub here : {T : Type 0} (named : Named T) (name : List ℕ) (w : Option T) → with_name named name w name ≡ w
here named name w = update_same bytes_eq named name w name ((bytes_eq-Decides name name).1 refl)

-- what is under another one stays
pub elsewhere : {T : Type 0} (named : Named T) (name : List ℕ) (w : Option T) (other : List ℕ) → bytes_eq name other ≡ false → with_name named name w other ≡ named other
elsewhere named name w other apart = update_other bytes_eq named name w other apart

-- cells with these
abbrev cells_of : Option (List ℕ) → Option (List ℕ) → Option LooseFile → Option LooseFile → DataCells
cells_of manifest shard loose_manifest loose_shard =
    record { manifest = manifest; shard = shard; loose_manifest = loose_manifest; loose_shard = loose_shard }

-- the loose shard file is changed
set_loose_shard : (id : VersionId) (old new : Files) (loose : List ℕ) (w : Option LooseFile) → loose ≡ loose_shard_name id → new ≡ with_loose old loose w
    → data_of id new ≡ cells_of (old.kept (manifest_name id)) (old.kept (shard_name id)) (old.loose (loose_manifest_name id)) w
set_loose_shard id old new loose w named is =
    ap (data_of id) is ∙ ap (λ (name : List ℕ). data_of id (with_loose old name w)) named
    ∙ ap (λ (x : Option LooseFile). cells_of (old.kept (manifest_name id)) (old.kept (shard_name id)) x (with_name old.loose (loose_shard_name id) w (loose_shard_name id)))
    (elsewhere old.loose (loose_shard_name id) w (loose_manifest_name id) refl)
    ∙ ap (cells_of (old.kept (manifest_name id)) (old.kept (shard_name id)) (old.loose (loose_manifest_name id))) (here old.loose (loose_shard_name id) w)

-- the loose manifest is changed
set_loose_manifest : (id : VersionId) (old new : Files) (loose : List ℕ) (w : Option LooseFile) → loose ≡ loose_manifest_name id → new ≡ with_loose old loose w
    → data_of id new ≡ cells_of (old.kept (manifest_name id)) (old.kept (shard_name id)) w (old.loose (loose_shard_name id))
set_loose_manifest id old new loose w named is =
    ap (data_of id) is ∙ ap (λ (name : List ℕ). data_of id (with_loose old name w)) named
    ∙ ap (λ (x : Option LooseFile). cells_of (old.kept (manifest_name id)) (old.kept (shard_name id)) x (with_name old.loose (loose_manifest_name id) w (loose_shard_name id)))
    (here old.loose (loose_manifest_name id) w)
    ∙ ap (cells_of (old.kept (manifest_name id)) (old.kept (shard_name id)) w) (elsewhere old.loose (loose_manifest_name id) w (loose_shard_name id) refl)

-- a loose file of which the cells tell
is_file : (found : Option LooseFile) (file known : LooseFile) → found ≡ Some file → found ≡ Some known → file ≡ known
is_file found file known was so = same_Some file known (sym was ∙ so)

module _ (id : VersionId) (first : DataCells) (old new : Files) where
  -- bytes were added to the shard file
  appended_shard : (loose bytes : List ℕ) (file : Option LooseFile) → loose ≡ loose_shard_name id → data_of id old ≡ writing first None file
      → Appended loose bytes old new → data_of id new ≡ writing first None (Some (unsynced_file (loose_bytes file ++ bytes)))
  appended_shard loose bytes file named was is =
      let had : old.loose loose ≡ file = ap old.loose named ∙ ap (λ (cells : DataCells). cells.loose_shard) was in
      set_loose_shard id old new loose _ named is
      ∙ ap (λ (cells : DataCells). cells_of cells.manifest cells.shard cells.loose_manifest (Some (unsynced_file (loose_bytes (old.loose loose) ++ bytes)))) was
      ∙ ap (λ (f : Option LooseFile). writing first None (Some (unsynced_file (loose_bytes f ++ bytes)))) had

  -- bytes were written to the manifest
  appended_manifest : (loose bytes : List ℕ) (shard : Option LooseFile) → loose ≡ loose_manifest_name id → data_of id old ≡ writing first None shard
      → Appended loose bytes old new → data_of id new ≡ writing first (Some (unsynced_file bytes)) shard
  appended_manifest loose bytes shard named was is =
      let had : old.loose loose ≡ None = ap old.loose named ∙ ap (λ (cells : DataCells). cells.loose_manifest) was in
      set_loose_manifest id old new loose _ named is
      ∙ ap (λ (cells : DataCells). cells_of cells.manifest cells.shard (Some (unsynced_file (loose_bytes (old.loose loose) ++ bytes))) cells.loose_shard) was
      ∙ ap (λ (f : Option LooseFile). writing first (Some (unsynced_file (loose_bytes f ++ bytes))) shard) had

  -- the shard file is synced
  synced_shard : (loose bytes : List ℕ) → loose ≡ loose_shard_name id → data_of id old ≡ writing first None (Some (unsynced_file bytes))
      → Synced loose old new → data_of id new ≡ writing first None (Some (synced_file bytes))
  synced_shard loose bytes named was is =
      let had : old.loose loose ≡ Some (unsynced_file bytes) = ap old.loose named ∙ ap (λ (cells : DataCells). cells.loose_shard) was in
      let same : is.file ≡ unsynced_file bytes = is_file (old.loose loose) is.file (unsynced_file bytes) is.was had in
      set_loose_shard id old new loose _ named is.is
      ∙ ap (λ (cells : DataCells). cells_of cells.manifest cells.shard cells.loose_manifest (Some (synced_file is.file.bytes))) was
      ∙ ap (λ (f : LooseFile). writing first None (Some (synced_file f.bytes))) same

  -- the manifest is synced
  synced_manifest : (loose bytes : List ℕ) (shard : Option LooseFile) → loose ≡ loose_manifest_name id → data_of id old ≡ writing first (Some (unsynced_file bytes)) shard
      → Synced loose old new → data_of id new ≡ writing first (Some (synced_file bytes)) shard
  synced_manifest loose bytes shard named was is =
      let had : old.loose loose ≡ Some (unsynced_file bytes) = ap old.loose named ∙ ap (λ (cells : DataCells). cells.loose_manifest) was in
      let same : is.file ≡ unsynced_file bytes = is_file (old.loose loose) is.file (unsynced_file bytes) is.was had in
      set_loose_manifest id old new loose _ named is.is
      ∙ ap (λ (cells : DataCells). cells_of cells.manifest cells.shard (Some (synced_file is.file.bytes)) cells.loose_shard) was
      ∙ ap (λ (f : LooseFile). writing first (Some (synced_file f.bytes)) shard) same

  -- the bytes that are put in place are those that were synced
  placed_bytes : (loose name bytes : List ℕ) (is : Placed old loose name new) → old.loose loose ≡ Some (synced_file bytes) → is.bytes ≡ bytes
  placed_bytes loose name bytes is had =
      let same : is.file ≡ synced_file bytes = is_file (old.loose loose) is.file (synced_file bytes) is.was had in
      let synced : IsTrue is.file.synced = subst (λ (f : LooseFile). IsTrue f.synced) (sym same) refl in
      is.synced synced ∙ ap (λ (f : LooseFile). f.bytes) same

  -- the manifest is put in place
  placed_manifest : (loose name bytes : List ℕ) (shard : Option LooseFile) → loose ≡ loose_manifest_name id → name ≡ manifest_name id
      → data_of id old ≡ writing first (Some (synced_file bytes)) shard → Placed old loose name new → data_of id new ≡ half_placed first bytes shard
  placed_manifest loose name bytes shard loosely named was is =
      let had : old.loose loose ≡ Some (synced_file bytes) = ap old.loose loosely ∙ ap (λ (cells : DataCells). cells.loose_manifest) was in
      let put : is.bytes ≡ bytes = placed_bytes loose name bytes is had in
      let w : Option (List ℕ) = Some is.bytes in
      let mid : Files = with_loose old loose None in
      let mid_is : data_of id mid ≡ writing first None shard =
      set_loose_manifest id old mid loose None loosely refl
      ∙ ap (λ (cells : DataCells). cells_of cells.manifest cells.shard None cells.loose_shard) was in
      ap (data_of id) is.is ∙ ap (λ (n : List ℕ). data_of id (with_placed mid n w)) named
      ∙ ap (λ (m : Option (List ℕ)). cells_of m (with_name old.kept (manifest_name id) w (shard_name id)) (mid.loose (loose_manifest_name id)) (mid.loose (loose_shard_name id)))
      (here old.kept (manifest_name id) w)
      ∙ ap (λ (s : Option (List ℕ)). cells_of w s (mid.loose (loose_manifest_name id)) (mid.loose (loose_shard_name id)))
      (elsewhere old.kept (manifest_name id) w (shard_name id) refl)
      ∙ ap (λ (cells : DataCells). cells_of w cells.shard cells.loose_manifest cells.loose_shard) mid_is
      ∙ ap (λ (b : List ℕ). half_placed first b shard) put

  -- the shard file is put in place
  placed_shard : (loose name manifest bytes : List ℕ) → loose ≡ loose_shard_name id → name ≡ shard_name id
      → data_of id old ≡ half_placed first manifest (Some (synced_file bytes)) → Placed old loose name new
      → data_of id new ≡ cells_of (Some manifest) (Some bytes) None None
  placed_shard loose name manifest bytes loosely named was is =
      let had : old.loose loose ≡ Some (synced_file bytes) = ap old.loose loosely ∙ ap (λ (cells : DataCells). cells.loose_shard) was in
      let put : is.bytes ≡ bytes = placed_bytes loose name bytes is had in
      let w : Option (List ℕ) = Some is.bytes in
      let mid : Files = with_loose old loose None in
      let mid_is : data_of id mid ≡ half_placed first manifest None =
      set_loose_shard id old mid loose None loosely refl
      ∙ ap (λ (cells : DataCells). cells_of cells.manifest cells.shard cells.loose_manifest None) was in
      ap (data_of id) is.is ∙ ap (λ (n : List ℕ). data_of id (with_placed mid n w)) named
      ∙ ap (λ (m : Option (List ℕ)). cells_of m (with_name old.kept (shard_name id) w (shard_name id)) (mid.loose (loose_manifest_name id)) (mid.loose (loose_shard_name id)))
      (elsewhere old.kept (shard_name id) w (manifest_name id) refl)
      ∙ ap (λ (s : Option (List ℕ)). cells_of (old.kept (manifest_name id)) s (mid.loose (loose_manifest_name id)) (mid.loose (loose_shard_name id)))
      (here old.kept (shard_name id) w)
      ∙ ap (λ (cells : DataCells). cells_of cells.manifest w cells.loose_manifest cells.loose_shard) mid_is
      ∙ ap (λ (b : List ℕ). cells_of (Some manifest) (Some b) None None) put

-- what is kept stays where a loose name alone was touched
keeps_touched : (id : VersionId) (loose : List ℕ) (old new : Files) (m s : Option (List ℕ)) → Keeps m s (data_of id old) → Touches loose old new → Keeps m s (data_of id new)
keeps_touched id loose old new m s keeps touches = record {
  manifest_is = ap (λ (kept : Named (List ℕ)). kept (manifest_name id)) touches.kept ∙ keeps.manifest_is;
  shard_is = ap (λ (kept : Named (List ℕ)). kept (shard_name id)) touches.kept ∙ keeps.shard_is;
}

-- what these cells keep
pub keeps_writing : (first cells : DataCells) (m s : Option LooseFile) → cells ≡ writing first m s → Keeps first.manifest first.shard cells
keeps_writing first cells m s is = record {
  manifest_is = ap (λ (c : DataCells). c.manifest) is;
  shard_is = ap (λ (c : DataCells). c.shard) is;
}

keeps_half : (first cells : DataCells) (m : List ℕ) (s : Option LooseFile) → cells ≡ half_placed first m s → Keeps (Some m) first.shard cells
keeps_half first cells m s is = record {
  manifest_is = ap (λ (c : DataCells). c.manifest) is;
  shard_is = ap (λ (c : DataCells). c.shard) is;
}

-- a call that failed, where what it needs is there
failed : (due : Due) (why : Why) (kind : FileKind) (there : Type 0) (before now : ℕ) (next manifest : List ℕ) (blocks : Blocks) (first cells : DataCells)
    → Stopped kind there why before now → there → HasFailedAt due manifest blocks first cells → HasBy why due next manifest blocks first cells
failed due Good kind there before now next manifest blocks first cells stopped so has = absurd stopped
failed due (Failed b a) kind there before now next manifest blocks first cells stopped so has = has
failed due (Damaged damage) kind there before now next manifest blocks first cells stopped so has = absurd stopped
failed due (Behind ballot) kind there before now next manifest blocks first cells stopped so has = absurd stopped
failed due (Lacks lacked) kind there before now next manifest blocks first cells stopped so has = absurd (stopped.1 so)

-- the letter of a call that needs no file
pub append_letter : (due : Due) (told : Bool) (cells : DataCells) (kind : FileKind) (result : Result (Unit {0}) Why) (before now : ℕ)
    → StepCause kind (Unit {0}) result before now → LetterOf result due told cells before now
append_letter due told cells kind (Ok done) before now cause = cause
append_letter due told cells kind (Err Good) before now cause = cause
append_letter due told cells kind (Err (Failed b a)) before now cause = cause
append_letter due told cells kind (Err (Damaged damage)) before now cause = cause
append_letter due told cells kind (Err (Behind ballot)) before now cause = cause
append_letter due told cells kind (Err (Lacks lacked)) before now cause = absurd (cause.1 tt)

-- what is not some file is none
none_there : (found : Option LooseFile) → ((file : LooseFile) × (found ≡ Some file) → ⊥) → found ≡ None
none_there None not = refl
none_there (Some file) not = absurd (not (file, refl))

-- the letter of a call that needs a loose file
needs_letter : (due : Due) (told : Bool) (cells : DataCells) (kind : FileKind) (old : Files) (loose : List ℕ) (result : Result (Unit {0}) Why) (before now : ℕ)
    → ((lacked : FileKind) → lacked ≡ kind → (IsTrue told → old.loose loose ≡ None) → LacksFor due lacked told cells)
    → StepCause kind (IsTrue told × HasLoose old loose) result before now → LetterOf result due told cells before now
needs_letter due told cells kind old loose (Ok done) before now lacks cause = cause
needs_letter due told cells kind old loose (Err Good) before now lacks cause = cause
needs_letter due told cells kind old loose (Err (Failed b a)) before now lacks cause = cause
needs_letter due told cells kind old loose (Err (Damaged damage)) before now lacks cause = cause
needs_letter due told cells kind old loose (Err (Behind ballot)) before now lacks cause = cause
needs_letter due told cells kind old loose (Err (Lacks lacked)) before now lacks cause =
    (lacks lacked cause.0 (λ tells. none_there (old.loose loose) (λ there. cause.1 (tells, there))), cause.2)

-- the letter of each call that needs one
module _ (id : VersionId) (told : Bool) (old : Files) (loose : List ℕ) (result : Result (Unit {0}) Why) (before now : ℕ) where
  pub sync_shard_letter : loose ≡ loose_shard_name id → StepCause ShardKind (IsTrue told × HasLoose old loose) result before now
      → LetterOf result SyncShard told (data_of id old) before now
  sync_shard_letter named cause =
      needs_letter SyncShard told (data_of id old) ShardKind old loose result before now (λ lacked is none. (is, λ tells. ap old.loose (sym named) ∙ none tells)) cause

  pub place_shard_letter : loose ≡ loose_shard_name id → StepCause ShardKind (IsTrue told × HasLoose old loose) result before now
      → LetterOf result PlaceShard told (data_of id old) before now
  place_shard_letter named cause =
      needs_letter PlaceShard told (data_of id old) ShardKind old loose result before now (λ lacked is none. (is, λ tells. ap old.loose (sym named) ∙ none tells)) cause

  pub sync_manifest_letter : loose ≡ loose_manifest_name id → StepCause ManifestKind (IsTrue told × HasLoose old loose) result before now
      → LetterOf result SyncManifest told (data_of id old) before now
  sync_manifest_letter named cause =
      needs_letter SyncManifest told (data_of id old) ManifestKind old loose result before now (λ lacked is none. (is, λ tells. ap old.loose (sym named) ∙ none tells)) cause

  pub place_manifest_letter : loose ≡ loose_manifest_name id → StepCause ManifestKind (IsTrue told × HasLoose old loose) result before now
      → LetterOf result PlaceManifest told (data_of id old) before now
  place_manifest_letter named cause =
      needs_letter PlaceManifest told (data_of id old) ManifestKind old loose result before now (λ lacked is none. (is, λ tells. ap old.loose (sym named) ∙ none tells)) cause

module _ (id : VersionId) (told : Bool) (alone : Bool) (next manifest : List ℕ) (first : DataCells) (old new : Files) (before now : ℕ) where
  -- a block is appended
  pub block_call : (loose : List ℕ) (kind : FileKind) (blocks : Blocks) (result : Result (Unit {0}) Why) → loose ≡ loose_shard_name id
      → OnOk result (IsTrue told → Appended loose next old new) → OnErr result (IsTrue told → Touches loose old new) → StepCause kind (Unit {0}) result before now
      → IsTrue told → IsBefore Block next manifest blocks first (data_of id old) → HasAfter result alone Block next manifest blocks first (data_of id new)
  block_call loose kind None result named ok err cause tells was = absurd was
  block_call loose kind (Some blocks) (Ok done) named ok err cause tells (file, is, joined) =
      (Some (unsynced_file (loose_bytes file ++ next)), appended_shard id first old new loose next file named is (ok tells), joined)
  block_call loose kind (Some blocks) (Err why) named ok err cause tells (file, is, joined) =
      failed Block why kind (Unit {0}) before now next manifest (Some blocks) first (data_of id new) cause tt
      (keeps_touched id loose old new first.manifest first.shard (keeps_writing first (data_of id old) None file is) (err tells))

  -- the digest table is appended
  pub table_call : (loose table : List ℕ) (kind : FileKind) (blocks : Blocks) (result : Result (Unit {0}) Why) → loose ≡ loose_shard_name id
      → ((all : List (List ℕ)) → blocks ≡ Some all → table ≡ table_of all)
      → OnOk result (IsTrue told → Appended loose table old new) → OnErr result (IsTrue told → Touches loose old new) → StepCause kind (Unit {0}) result before now
      → IsTrue told → IsBefore Table next manifest blocks first (data_of id old) → HasAfter result alone Table next manifest blocks first (data_of id new)
  table_call loose table kind None result named table_is ok err cause tells was = absurd was
  table_call loose table kind (Some blocks) (Ok done) named table_is ok err cause tells (file, is, joined) =
      appended_shard id first old new loose table file named is (ok tells)
      ∙ ap (λ (front : List ℕ). writing first None (Some (unsynced_file (front ++ table)))) joined
      ∙ ap (λ (back : List ℕ). writing first None (Some (unsynced_file (concat blocks ++ back)))) (table_is blocks refl)
  table_call loose table kind (Some blocks) (Err why) named table_is ok err cause tells (file, is, joined) =
      failed Table why kind (Unit {0}) before now next manifest (Some blocks) first (data_of id new) cause tt
      (keeps_touched id loose old new first.manifest first.shard (keeps_writing first (data_of id old) None file is) (err tells))

  -- the shard file is synced
  pub sync_shard_call : (loose : List ℕ) (kind : FileKind) (blocks : Blocks) (result : Result (Unit {0}) Why) → loose ≡ loose_shard_name id
      → OnOk result (IsTrue told → Synced loose old new) → OnErr result (IsTrue told → Touches loose old new)
      → StepCause kind (IsTrue told × HasLoose old loose) result before now
      → IsTrue told → IsBefore SyncShard next manifest blocks first (data_of id old) → HasAfter result alone SyncShard next manifest blocks first (data_of id new)
  sync_shard_call loose kind None result named ok err cause tells was = absurd was
  sync_shard_call loose kind (Some blocks) (Ok done) named ok err cause tells was =
      synced_shard id first old new loose (shard_bytes blocks) named was (ok tells)
  sync_shard_call loose kind (Some blocks) (Err why) named ok err cause tells was =
      failed SyncShard why kind (IsTrue told × HasLoose old loose) before now next manifest (Some blocks) first (data_of id new) cause
      (tells, (unsynced_file (shard_bytes blocks), ap old.loose named ∙ ap (λ (cells : DataCells). cells.loose_shard) was))
      (keeps_touched id loose old new first.manifest first.shard (keeps_writing first (data_of id old) None _ was) (err tells))

  -- the manifest is appended
  pub manifest_call : (loose : List ℕ) (kind : FileKind) (blocks : Blocks) (result : Result (Unit {0}) Why) → loose ≡ loose_manifest_name id
      → OnOk result (IsTrue told → Appended loose manifest old new) → OnErr result (IsTrue told → Touches loose old new) → StepCause kind (Unit {0}) result before now
      → IsTrue told → IsBefore Manifest next manifest blocks first (data_of id old) → HasAfter result alone Manifest next manifest blocks first (data_of id new)
  manifest_call loose kind blocks (Ok done) named ok err cause tells was =
      appended_manifest id first old new loose manifest (held_shard blocks first) named was (ok tells)
  manifest_call loose kind blocks (Err why) named ok err cause tells was =
      failed Manifest why kind (Unit {0}) before now next manifest blocks first (data_of id new) cause tt
      (keeps_touched id loose old new first.manifest first.shard (keeps_writing first (data_of id old) None _ was) (err tells))

  -- the manifest is synced
  pub sync_manifest_call : (loose : List ℕ) (kind : FileKind) (blocks : Blocks) (result : Result (Unit {0}) Why) → loose ≡ loose_manifest_name id
      → OnOk result (IsTrue told → Synced loose old new) → OnErr result (IsTrue told → Touches loose old new)
      → StepCause kind (IsTrue told × HasLoose old loose) result before now
      → IsTrue told → IsBefore SyncManifest next manifest blocks first (data_of id old) → HasAfter result alone SyncManifest next manifest blocks first (data_of id new)
  sync_manifest_call loose kind blocks (Ok done) named ok err cause tells was =
      synced_manifest id first old new loose manifest (held_shard blocks first) named was (ok tells)
  sync_manifest_call loose kind blocks (Err why) named ok err cause tells was =
      failed SyncManifest why kind (IsTrue told × HasLoose old loose) before now next manifest blocks first (data_of id new) cause
      (tells, (unsynced_file manifest, ap old.loose named ∙ ap (λ (cells : DataCells). cells.loose_manifest) was))
      (keeps_touched id loose old new first.manifest first.shard (keeps_writing first (data_of id old) _ _ was) (err tells))

  -- a manifest that was put in place or not
  manifest_or_not : (loose name : List ℕ) (shard : Option LooseFile) → loose ≡ loose_manifest_name id → name ≡ manifest_name id
      → data_of id old ≡ writing first (Some (synced_file manifest)) shard → PlacedOrTouched loose name old new
      → Keeps first.manifest first.shard (data_of id new) ⊎ Keeps (Some manifest) first.shard (data_of id new)
  manifest_or_not loose name shard loosely named was (inl touched) =
      inl (keeps_touched id loose old new first.manifest first.shard (keeps_writing first (data_of id old) _ shard was) touched)
  manifest_or_not loose name shard loosely named was (inr (done, placed, touched)) =
      inr (keeps_touched id loose done new (Some manifest) first.shard
      (keeps_half first (data_of id done) manifest shard (placed_manifest id first old done loose name manifest shard loosely named was placed)) touched)

  -- a shard that was put in place or not
  shard_or_not : (loose name : List ℕ) (blocks : List (List ℕ)) → loose ≡ loose_shard_name id → name ≡ shard_name id
      → data_of id old ≡ half_placed first manifest (Some (synced_file (shard_bytes blocks))) → PlacedOrTouched loose name old new
      → Keeps (Some manifest) first.shard (data_of id new) ⊎ Keeps (Some manifest) (Some (shard_bytes blocks)) (data_of id new)
  shard_or_not loose name blocks loosely named was (inl touched) =
      inl (keeps_touched id loose old new (Some manifest) first.shard (keeps_half first (data_of id old) manifest _ was) touched)
  shard_or_not loose name blocks loosely named was (inr (done, placed, touched)) =
      let all : data_of id done ≡ all_placed first manifest (Some blocks) =
      placed_shard id first old done loose name manifest (shard_bytes blocks) loosely named was placed in
      inr (keeps_touched id loose done new (Some manifest) (Some (shard_bytes blocks))
      (record { manifest_is = ap (λ (c : DataCells). c.manifest) all; shard_is = ap (λ (c : DataCells). c.shard) all }) touched)

  -- what follows the rename of the manifest
  half_is : (blocks : Blocks) (cells : DataCells) → (blocks ≡ None → alone ≡ true) → ((all : List (List ℕ)) → blocks ≡ Some all → alone ≡ false)
      → cells ≡ half_placed first manifest (held_shard blocks first) → HasBy Good (after alone PlaceManifest) next manifest blocks first cells
  half_is None cells none some is = subst (λ (a : Bool). HasBy Good (after a PlaceManifest) next manifest None first cells) (sym (none refl)) is
  half_is (Some blocks) cells none some is = subst (λ (a : Bool). HasBy Good (after a PlaceManifest) next manifest (Some blocks) first cells) (sym (some blocks refl)) is

  -- the manifest is put in place
  pub place_manifest_call : (loose name : List ℕ) (kind : FileKind) (blocks : Blocks) (result : Result (Unit {0}) Why) → loose ≡ loose_manifest_name id → name ≡ manifest_name id
      → (blocks ≡ None → alone ≡ true) → ((all : List (List ℕ)) → blocks ≡ Some all → alone ≡ false)
      → OnOk result (IsTrue told → Placed old loose name new) → OnErr result (IsTrue told → PlacedOrTouched loose name old new)
      → StepCause kind (IsTrue told × HasLoose old loose) result before now
      → IsTrue told → IsBefore PlaceManifest next manifest blocks first (data_of id old) → HasAfter result alone PlaceManifest next manifest blocks first (data_of id new)
  place_manifest_call loose name kind blocks (Ok done) loosely named none some ok err cause tells was =
      half_is blocks (data_of id new) none some (placed_manifest id first old new loose name manifest (held_shard blocks first) loosely named was (ok tells))
  place_manifest_call loose name kind blocks (Err why) loosely named none some ok err cause tells was =
      failed PlaceManifest why kind (IsTrue told × HasLoose old loose) before now next manifest blocks first (data_of id new) cause
      (tells, (synced_file manifest, ap old.loose loosely ∙ ap (λ (cells : DataCells). cells.loose_manifest) was))
      (manifest_or_not loose name (held_shard blocks first) loosely named was (err tells))

  -- the shard file is put in place
  pub place_shard_call : (loose name : List ℕ) (kind : FileKind) (blocks : Blocks) (result : Result (Unit {0}) Why) → loose ≡ loose_shard_name id → name ≡ shard_name id
      → OnOk result (IsTrue told → Placed old loose name new) → OnErr result (IsTrue told → PlacedOrTouched loose name old new)
      → StepCause kind (IsTrue told × HasLoose old loose) result before now
      → IsTrue told → IsBefore PlaceShard next manifest blocks first (data_of id old) → HasAfter result alone PlaceShard next manifest blocks first (data_of id new)
  place_shard_call loose name kind None result loosely named ok err cause tells was = absurd was
  place_shard_call loose name kind (Some blocks) (Ok done) loosely named ok err cause tells was =
      placed_shard id first old new loose name manifest (shard_bytes blocks) loosely named was (ok tells)
  place_shard_call loose name kind (Some blocks) (Err why) loosely named ok err cause tells was =
      failed PlaceShard why kind (IsTrue told × HasLoose old loose) before now next manifest (Some blocks) first (data_of id new) cause
      (tells, (synced_file (shard_bytes blocks), ap old.loose loosely ∙ ap (λ (cells : DataCells). cells.loose_shard) was))
      (shard_or_not loose name blocks loosely named was (err tells))

-- what is written of a shard, by what is known of the drive
pub of_table : (load : Load) (k : ℕ) (blocks : Blocks) → IsOfDrive load k blocks → (all : List (List ℕ)) → blocks ≡ Some all
    → slice_index_or (all_bytes load.tables.items) k [] ≡ table_of all
of_table load k None is all same = absurd cc
of_table load k (Some blocks) is all same = is.1 ∙ ap table_of (same_Some blocks all same)

pub of_alone : (load : Load) (k : ℕ) (blocks : Blocks) → IsOfDrive load k blocks → blocks ≡ None → load.alone ≡ true
of_alone load k None is same = is
of_alone load k (Some blocks) is same = absurd cc

pub of_body : (load : Load) (k : ℕ) (blocks : Blocks) → IsOfDrive load k blocks → (all : List (List ℕ)) → blocks ≡ Some all → load.alone ≡ false
of_body load k None is all same = absurd cc
of_body load k (Some blocks) is all same = is.0
