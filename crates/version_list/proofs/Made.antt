-- Each state of rows that the format takes is that of a key.
use Rattle.std.proofs.Common.{◌≡◌, ℕ, Bool, true, false, List, [], ◌∷◌, ◌++◌, length, Option, Some, None, refl, sym, ap, ◌∙◌}
use Rattle.std.specs.Prelude.{◌||◌, ◌==◌, map}
use Rattle.std.specs.Bool.{MatchBool}
use Rattle.field_reader.specs.Spelling.{IsBytes}
use Rattle.field_reader.proofs.Series.{AllAfter}
use Rattle.stamp_id.specs.declared.version.VersionId.{VersionId}
use Rattle.stamp_id.specs.IdField.{is_id}
use Rattle.stamp_id.proofs.IdTests.{both_true}
use Rattle.stamp_id.proofs.IdText.{IsIdField, id_of_bytes}
use Rattle.call_types.specs.declared.names.VersionName.{VersionName}
use Rattle.call_types.specs.declared.names.VersionName.TheVariants.{Null, Id}
use Rattle.call_types.specs.declared.version.Version.{Version}
use Rattle.call_types.specs.declared.version.Upload.{Upload}
use Rattle.call_types.specs.declared.version.What.{What}
use Rattle.call_types.specs.declared.version.What.TheVariants.{Marker, Object}
use Rattle.version_list.specs.declared.state.KeyState.{KeyState}
use Rattle.version_list.specs.Rows.{ObjectRow, VersionRow, UploadRow, StateRows, no_id, name_field, upload_field, object_row, version_row, upload_row, rows_of}
use Rattle.version_list.specs.Layout.{is_no_id, is_among, version_names}
use Rattle.version_list.proofs.NoId.{no_id-from}
use Rattle.version_list.proofs.ObjectText.{IsUploadId}
use Rattle.version_list.proofs.RowTexts.{IsObjectOption, IsVersionRow, IsUploadRow}
use Rattle.version_list.proofs.StateText.{IsVersionAfter, IsUploadAfter, AreRows}

name_of : (bytes : List ℕ) → length bytes ≡ 16 → IsBytes bytes → (is_no_id bytes || is_id bytes) ≡ true → (name : VersionName) × (name_field name ≡ bytes)
name_of bytes sized fits e =
    let P : Bool → Type 0 = λ b. is_no_id bytes ≡ b → (b || is_id bytes) ≡ true → (name : VersionName) × (name_field name ≡ bytes) in
    let split : P (is_no_id bytes) = elim (is_no_id bytes) as P [
      | true ↦ λ h t. (Null, sym (no_id-from bytes sized h))
      | false ↦ λ h t. let id = id_of_bytes bytes (record { sized = sized; fits = fits; is_id = t }) in (Id id.0, id.1)
    ] in
    split refl e

upload_of : (parts : ℕ) (bytes : List ℕ) → IsUploadId parts bytes → (upload : Option VersionId) × (upload_field upload ≡ bytes)
upload_of parts bytes is =
    let P : Bool → Type 0 = λ b. MatchBool b (bytes ≡ no_id) (IsIdField bytes) → (upload : Option VersionId) × (upload_field upload ≡ bytes) in
    let split : P (parts == 0) = elim (parts == 0) as P [ true ↦ λ none. (None, sym none) | false ↦ λ is. let id = id_of_bytes bytes is in (Some id.0, id.1) ] in
    split is

what_of : (o : Option ObjectRow) → IsObjectOption o → (what : What) × (object_row what ≡ o)
what_of None keeps = (Marker, refl)
what_of (Some o) keeps =
    let data_id = id_of_bytes o.data_id keeps.data_id in
    let upload = upload_of o.parts o.upload keeps.upload in
    let row : List ℕ → List ℕ → Option ObjectRow = λ d u. Some (record { data_id = d; print = o.print; size = o.size; md5 = o.md5; parts = o.parts; upload = u; kind = o.kind }) in
    (Object data_id.0 o.print o.size o.md5 o.parts upload.0 o.kind, ap (λ (d : List ℕ). row d (upload_field upload.0)) data_id.1 ∙ ap (λ (u : List ℕ). row o.data_id u) upload.1)

version_of : (is_used : List ℕ → Bool) (v : VersionRow) → IsVersionRow is_used v → (made : Version) × (version_row made ≡ v)
version_of is_used v keeps =
    let name = name_of v.id keeps.id_sized keeps.id_bytes (both_true _ _ keeps.id_kept).0 in
    let what = what_of v.object keeps.object in
    let row : List ℕ → Option ObjectRow → VersionRow = λ id o. record { id = id; modified = v.modified; object = o } in
    (record { id = name.0; modified = v.modified; what = what.0 }, ap (λ (id : List ℕ). row id (object_row what.0)) name.1 ∙ ap (λ (o : Option ObjectRow). row v.id o) what.1)

upload_made : (is_used : List ℕ → Bool) (u : UploadRow) → IsUploadRow is_used u → (made : Upload) × (upload_row made ≡ u)
upload_made is_used u keeps =
    let id = id_of_bytes u.id keeps.id in
    let row : List ℕ → UploadRow = λ id. record { id = id; opened = u.opened; kind = u.kind } in
    (record { id = id.0; opened = u.opened; kind = u.kind }, ap row id.1)

versions_of : (before vs : List VersionRow) → AllAfter IsVersionAfter before vs → (made : List Version) × (map version_row made ≡ vs)
versions_of before [] all = ([], refl)
versions_of before (v ∷ vs) all =
    let first = version_of (is_among (version_names before)) v all.0 in
    let others = versions_of (before ++ v ∷ []) vs all.1 in
    (first.0 ∷ others.0, ap (λ (r : VersionRow). r ∷ map version_row others.0) first.1 ∙ ap (λ (l : List VersionRow). v ∷ l) others.1)

uploads_of : (is_used : List ℕ → Bool) (before us : List UploadRow) → AllAfter (IsUploadAfter is_used) before us → (made : List Upload) × (map upload_row made ≡ us)
uploads_of is_used before [] all = ([], refl)
uploads_of is_used before (u ∷ us) all =
    let first = upload_made _ u all.0 in
    let others = uploads_of is_used (before ++ u ∷ []) us all.1 in
    (first.0 ∷ others.0, ap (λ (r : UploadRow). r ∷ map upload_row others.0) first.1 ∙ ap (λ (l : List UploadRow). u ∷ l) others.1)

-- the state of rows
pub state_of : (r : StateRows) → AreRows r → (state : KeyState) × (rows_of state ≡ r)
state_of r rows =
    let vs = versions_of [] r.versions rows.versions in
    let us = uploads_of (is_among (version_names r.versions)) [] r.uploads rows.uploads in
    let made : List VersionRow → List UploadRow → StateRows = λ v u. record { versions = v; uploads = u } in
    (record { versions = vs.0; uploads = us.0 }, ap (λ (v : List VersionRow). made v (map upload_row us.0)) vs.1 ∙ ap (λ (u : List UploadRow). made r.versions u) us.1)
