-- A state is canonical exactly where its rows are those that the format takes.
use Rattle.std.proofs.Common.{◌≡◌, ℕ, Bool, true, false, List, [], ◌∷◌, ◌++◌, length, Option, Some, None, refl, sym, ap, subst, ◌∙◌, append_assoc, arith}
use Rattle.std.specs.Prelude.{◌&&◌, ◌||◌, not, ◌↔◌, ◌==◌, map, IsNone}
use Rattle.std.specs.List.{AllByRecursion}
use Rattle.std.specs.Bool.{MatchBool}
use Rattle.std.proofs.lemmas.Bool.{false_from_ne_true, eqb-true, eq-eqb}
use Rattle.std.proofs.lemmas.List.{append-nil, length-map, map-append, map_push}
use Rattle.field_reader.specs.Spelling.{IsBytes}
use Rattle.field_reader.proofs.Series.{AllAfter}
use Rattle.stamp_id.specs.VersionId.{id_bytes}
use Rattle.stamp_id.specs.declared.version.VersionId.{VersionId}
use Rattle.stamp_id.proofs.IdLemmas.{length-id_bytes, id_bytes-injective}
use Rattle.stamp_id.specs.IdField.{is_id}
use Rattle.stamp_id.proofs.IdTests.{both_true}
use Rattle.stamp_id.proofs.IdText.{IsIdField, id_is_field}
use Rattle.call_types.specs.declared.names.VersionName.{VersionName}
use Rattle.call_types.specs.declared.names.VersionName.TheVariants.{Null, Id}
use Rattle.call_types.specs.declared.version.Version.{Version}
use Rattle.call_types.specs.declared.version.Upload.{Upload}
use Rattle.call_types.specs.declared.version.What.{What}
use Rattle.call_types.specs.declared.version.What.TheVariants.{Marker, Object}
use Rattle.version_list.specs.declared.state.KeyState.{KeyState}
use Rattle.version_list.specs.State.{AreDistinct, names_of, IsCanonicalWhat, IsCanonicalVersion, IsCanonicalUpload, IsCanonical}
use Rattle.version_list.specs.Rows.{VersionRow, UploadRow, no_id, name_field, upload_field, object_row, version_row, upload_row, rows_of}
use Rattle.version_list.specs.Layout.{is_no_id, is_among, version_names, upload_names}
use Rattle.version_list.proofs.NoId.{no_id-none, no_id-id, no_id-size, no_id-bytes, no_id-from}
use Rattle.version_list.proofs.ObjectText.{IsUploadId}
use Rattle.version_list.proofs.RowTexts.{IsObjectOption}
use Rattle.version_list.proofs.StateText.{IsVersionAfter, IsUploadAfter, AreRows}
use Rattle.version_list.proofs.Distinct.{Fresh, fresh_distinct, distinct_fresh, none_seen, fresh_split, fresh_join, is_among-append, distinct_map, distinct_unmap}

-- ---- ids

id-yes : (v : VersionId) → is_id (id_bytes v) ≡ true
id-yes v = (id_is_field v).is_id

id-not_none : (v : VersionId) → is_no_id (id_bytes v) ≡ false
id-not_none v = false_from_ne_true (is_no_id (id_bytes v)) (λ e. let zeros = no_id-from (id_bytes v) (length-id_bytes v) e in let other : is_id (id_bytes v) ≡ false = ap is_id zeros ∙ no_id-id in let yes_id = id-yes v in cc)

-- ---- names

pub name_size : (name : VersionName) → length (name_field name) ≡ 16
name_size Null = no_id-size
name_size (Id id) = length-id_bytes id

name_kept : (name : VersionName) → (is_no_id (name_field name) || is_id (name_field name)) ≡ true
name_kept Null = ap (λ (b : Bool). b || is_id no_id) no_id-none
name_kept (Id id) = ap (λ (b : Bool). b || is_id (id_bytes id)) (id-not_none id) ∙ id-yes id

name_bytes : (name : VersionName) → IsBytes (name_field name)
name_bytes Null = no_id-bytes
name_bytes (Id id) = (id_is_field id).fits

-- one spelling for each name
pub name_field-injective : (a b : VersionName) → name_field a ≡ name_field b → a ≡ b
name_field-injective Null Null e = refl
name_field-injective Null (Id b) e = let t : true ≡ false = sym no_id-none ∙ ap is_no_id e ∙ id-not_none b in absurd cc
name_field-injective (Id a) Null e = let t : true ≡ false = sym no_id-none ∙ ap is_no_id (sym e) ∙ id-not_none a in absurd cc
name_field-injective (Id a) (Id b) e = ap (λ (v : VersionId). Id v) (id_bytes-injective a b e)

pub upload_field-injective : (a b : Option VersionId) → upload_field a ≡ upload_field b → a ≡ b
upload_field-injective None None e = refl
upload_field-injective None (Some b) e = let t : true ≡ false = sym no_id-none ∙ ap is_no_id e ∙ id-not_none b in absurd cc
upload_field-injective (Some a) None e = let t : true ≡ false = sym no_id-none ∙ ap is_no_id (sym e) ∙ id-not_none a in absurd cc
upload_field-injective (Some a) (Some b) e = ap (λ (v : VersionId). Some v) (id_bytes-injective a b e)

-- ---- objects

-- 16 zero bytes stand exactly where there are no parts
upload_out : (parts : ℕ) (upload : Option VersionId) → (parts ≡ 0) ↔ IsNone upload → IsUploadId parts (upload_field upload)
upload_out parts None h = let none : (parts == 0) ≡ true = eq-eqb parts 0 (h.1 refl) in rw none refl
upload_out parts (Some id) h =
    let some : (parts == 0) ≡ false = false_from_ne_true (parts == 0) (λ e. let n = h.0 (eqb-true _ _ e) in absurd cc) in
    rw some (id_is_field id)

upload_in : (parts : ℕ) (upload : Option VersionId) → IsUploadId parts (upload_field upload) → (parts ≡ 0) ↔ IsNone upload
upload_in parts None is =
    let P : Bool → Type 0 = λ b. (parts == 0) ≡ b → MatchBool b (no_id ≡ no_id) (IsIdField no_id) → parts ≡ 0 in
    let split : P (parts == 0) = elim (parts == 0) as P [ true ↦ λ e t. eqb-true _ _ e | false ↦ λ e t. absurd (let n = no_id-id in let y = t.is_id in cc) ] in
    (λ h. refl, λ h. split refl is)
upload_in parts (Some id) is =
    let P : Bool → Type 0 = λ b. (parts == 0) ≡ b → MatchBool b (id_bytes id ≡ no_id) (IsIdField (id_bytes id)) → (parts ≡ 0) ↔ IsNone (Some id) in
    let split : P (parts == 0) = elim (parts == 0) as P [
      | true ↦ λ e t. absurd (let n : is_no_id (id_bytes id) ≡ true = ap is_no_id t ∙ no_id-none in let m = id-not_none id in cc)
      | false ↦ λ e t. (λ z. absurd (let y = eq-eqb parts 0 z in cc), λ z. absurd cc)
    ] in
    split refl is

object_out : (what : What) → IsCanonicalWhat what → IsObjectOption (object_row what)
object_out Marker c = tt
object_out (Object data_id print size md5 parts upload kind) c = record {
  data_id = id_is_field data_id;
  print_sized = c.print_sized;
  size_fits = c.size_fits;
  md5_sized = c.md5_sized;
  parts_fit = c.parts_fit;
  upload = upload_out parts upload c.parts_of_upload;
  kind_short = c.kind_short;
}

object_in : (what : What) → IsObjectOption (object_row what) → IsCanonicalWhat what
object_in Marker o = tt
object_in (Object data_id print size md5 parts upload kind) o = record {
  print_sized = o.print_sized;
  size_fits = o.size_fits;
  md5_sized = o.md5_sized;
  parts_fit = o.parts_fit;
  parts_of_upload = upload_in parts upload o.upload;
  kind_short = o.kind_short;
}

-- ---- versions and uploads

unused : (b : Bool) → not b ≡ true → b ≡ false
unused true e = absurd cc
unused false e = refl

kept_rule : (a b : Bool) → a ≡ true → b ≡ false → (a && not b) ≡ true
kept_rule true true e f = absurd cc
kept_rule true false e f = refl
kept_rule false b e f = absurd cc

versions_out : (before : List VersionRow) (vs : List Version) → AllAfter IsVersionAfter before (map version_row vs) → Fresh (version_names before) (version_names (map version_row vs)) × AllByRecursion IsCanonicalVersion vs
versions_out before [] all = (tt, tt)
versions_out before (v ∷ vs) all =
    let rest = versions_out (before ++ version_row v ∷ []) vs all.1 in
    let names : version_names (before ++ version_row v ∷ []) ≡ version_names before ++ name_field v.id ∷ [] = map_push (λ r. r.id) before (version_row v) in
    let fresh = subst (λ (seen : List (List ℕ)). Fresh seen (version_names (map version_row vs))) names rest.0 in
    let new = unused (is_among (version_names before) (name_field v.id)) (both_true _ _ all.0.id_kept).1 in
    ((new, fresh), (record { modified = all.0.modified_kept; what = object_in v.what all.0.object }, rest.1))

versions_in : (before : List VersionRow) (vs : List Version) → Fresh (version_names before) (version_names (map version_row vs)) → AllByRecursion IsCanonicalVersion vs → AllAfter IsVersionAfter before (map version_row vs)
versions_in before [] fresh all = tt
versions_in before (v ∷ vs) fresh all =
    let names : version_names (before ++ version_row v ∷ []) ≡ version_names before ++ name_field v.id ∷ [] = map_push (λ r. r.id) before (version_row v) in
    let rest = subst (λ (seen : List (List ℕ)). Fresh seen (version_names (map version_row vs))) (sym names) fresh.1 in (
      record {
        id_sized = name_size v.id;
        id_kept = kept_rule (is_no_id (name_field v.id) || is_id (name_field v.id)) (is_among (version_names before) (name_field v.id)) (name_kept v.id) fresh.0;
        id_bytes = name_bytes v.id;
        modified_kept = all.0.modified;
        object = object_out v.what all.0.what;
      },
      versions_in (before ++ version_row v ∷ []) vs rest all.1,
    )

uploads_out : (seen : List (List ℕ)) (before : List UploadRow) (us : List Upload) → AllAfter (IsUploadAfter (is_among seen)) before (map upload_row us) → Fresh (seen ++ upload_names before) (upload_names (map upload_row us)) × AllByRecursion IsCanonicalUpload us
uploads_out seen before [] all = (tt, tt)
uploads_out seen before (u ∷ us) all =
    let rest = uploads_out seen (before ++ upload_row u ∷ []) us all.1 in
    let names : seen ++ upload_names (before ++ upload_row u ∷ []) ≡ (seen ++ upload_names before) ++ id_bytes u.id ∷ [] =
    ap (λ (l : List (List ℕ)). seen ++ l) (map_push (λ r. r.id) before (upload_row u)) ∙ sym (append_assoc seen (upload_names before) (id_bytes u.id ∷ [])) in
    let fresh = subst (λ (seen : List (List ℕ)). Fresh seen (upload_names (map upload_row us))) names rest.0 in
    let new = unused (is_among seen (id_bytes u.id) || is_among (upload_names before) (id_bytes u.id)) all.0.id_new in
    ((is_among-append seen (upload_names before) (id_bytes u.id) ∙ new, fresh), (record { opened = all.0.opened_kept; kind_short = all.0.kind_short }, rest.1))

uploads_in : (seen : List (List ℕ)) (before : List UploadRow) (us : List Upload) → Fresh (seen ++ upload_names before) (upload_names (map upload_row us)) → AllByRecursion IsCanonicalUpload us → AllAfter (IsUploadAfter (is_among seen)) before (map upload_row us)
uploads_in seen before [] fresh all = tt
uploads_in seen before (u ∷ us) fresh all =
    let names : seen ++ upload_names (before ++ upload_row u ∷ []) ≡ (seen ++ upload_names before) ++ id_bytes u.id ∷ [] =
    ap (λ (l : List (List ℕ)). seen ++ l) (map_push (λ r. r.id) before (upload_row u)) ∙ sym (append_assoc seen (upload_names before) (id_bytes u.id ∷ [])) in
    let rest = subst (λ (seen : List (List ℕ)). Fresh seen (upload_names (map upload_row us))) (sym names) fresh.1 in (
      record {
        id = id_is_field u.id;
        id_new = ap not (sym (is_among-append seen (upload_names before) (id_bytes u.id)) ∙ fresh.0);
        opened_kept = all.0.opened;
        kind_short = all.0.kind_short;
      },
      uploads_in seen (before ++ upload_row u ∷ []) us rest all.1,
    )

-- ---- states

-- the bytes of all names
version_fields : (vs : List Version) → map name_field (map (λ v. v.id) vs) ≡ version_names (map version_row vs)
version_fields [] = refl
version_fields (v ∷ vs) = ap (λ (l : List (List ℕ)). name_field v.id ∷ l) (version_fields vs)

upload_fields : (us : List Upload) → map name_field (map (λ u. Id u.id) us) ≡ upload_names (map upload_row us)
upload_fields [] = refl
upload_fields (u ∷ us) = ap (λ (l : List (List ℕ)). id_bytes u.id ∷ l) (upload_fields us)

all_fields : (s : KeyState) → map name_field (names_of s) ≡ version_names (map version_row s.versions) ++ upload_names (map upload_row s.uploads)
all_fields s =
    map-append name_field (map (λ v. v.id) s.versions) (map (λ u. Id u.id) s.uploads)
    ∙ ap (λ (l : List (List ℕ)). l ++ map name_field (map (λ u. Id u.id) s.uploads)) (version_fields s.versions)
    ∙ ap (λ (l : List (List ℕ)). version_names (map version_row s.versions) ++ l) (upload_fields s.uploads)

pub canonical_from_rows : (s : KeyState) → AreRows (rows_of s) → IsCanonical s
canonical_from_rows s r =
    let seen = version_names (map version_row s.versions) in
    let vs = versions_out [] s.versions r.versions in
    let us = uploads_out seen [] s.uploads r.uploads in
    let behind = subst (λ (l : List (List ℕ)). Fresh l (upload_names (map upload_row s.uploads))) (append-nil seen) us.0 in
    let fresh = fresh_join [] seen (upload_names (map upload_row s.uploads)) vs.0 behind in
    let distinct = subst (λ (l : List (List ℕ)). AreDistinct l) (sym (all_fields s)) (fresh_distinct [] _ fresh).0 in
    record {
      few_versions = omega (arith, r.few_versions, length-map s.versions version_row);
      few_uploads = omega (arith, r.few_uploads, length-map s.uploads upload_row);
      distinct = distinct_unmap name_field (names_of s) distinct;
      versions = vs.1;
      uploads = us.1;
    }

pub rows_from_canonical : (s : KeyState) → IsCanonical s → AreRows (rows_of s)
rows_from_canonical s c =
    let seen = version_names (map version_row s.versions) in
    let distinct = subst (λ (l : List (List ℕ)). AreDistinct l) (all_fields s) (distinct_map name_field name_field-injective (names_of s) c.distinct) in
    let fresh = distinct_fresh [] _ distinct (none_seen _) in
    let parts = fresh_split [] seen (upload_names (map upload_row s.uploads)) fresh in
    let behind = subst (λ (l : List (List ℕ)). Fresh l (upload_names (map upload_row s.uploads))) (sym (append-nil seen)) parts.1 in
    record {
      few_versions = omega (arith, c.few_versions, length-map s.versions version_row);
      few_uploads = omega (arith, c.few_uploads, length-map s.uploads upload_row);
      versions = versions_in [] s.versions parts.0 c.versions;
      uploads = uploads_in seen [] s.uploads behind c.uploads;
    }
