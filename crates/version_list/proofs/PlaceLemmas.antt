-- Where a spelling names an id.
use Rattle.std.proofs.Common.{◌≡◌, ℕ, ◌+◌, ◌<◌, suc, Bool, true, false, ◌||◌, List, [], ◌∷◌, ◌++◌, length, drop, get_or, map, Option, Some, None, is_some, refl, sym, ap, subst, ◌∙◌, arith, length-append, append_assoc}
use Rattle.std.specs.List.{list_any, flat_map}
use Rattle.std.specs.Int.{w8, w32, w64}
use Rattle.std.specs.Str.{bytes_eq}
use Rattle.std.proofs.lemmas.Bool.Decides.{same_from_decides}
use Rattle.std.proofs.lemmas.Grind.{flat_map-append}
use Rattle.std.proofs.lemmas.List.{append-nil}
use Rattle.std.proofs.lemmas.List.Folds.{list_any-append, flat_map-map}
use Rattle.std.proofs.lemmas.Slice.Eq.{bytes_eq-Decides}
use Rattle.std.proofs.Math.Seq.{drop-cons}
use Rattle.field_reader.specs.Spelling.{number_bytes}
use Rattle.stamp_id.specs.VersionId.{id_bytes}
use Rattle.stamp_id.specs.declared.version.VersionId.{VersionId}
use Rattle.stamp_id.proofs.IdLemmas.{length-id_bytes}
use Rattle.stamp_id.proofs.IdTests.{both_true}
use Rattle.call_types.specs.declared.names.VersionName.{VersionName}
use Rattle.call_types.specs.declared.names.VersionName.TheVariants.{Null, Id}
use Rattle.call_types.specs.declared.version.Version.{Version}
use Rattle.call_types.specs.declared.version.Upload.{Upload}
use Rattle.call_types.specs.declared.version.What.{What}
use Rattle.call_types.specs.declared.version.What.TheVariants.{Marker, Object}
use Rattle.version_list.specs.declared.state.KeyState.{KeyState}
use Rattle.version_list.specs.Naming.{same_id, same_name, has_name, is_upload}
use Rattle.version_list.specs.NamesId.{is_made_by, what_names, version_names, names_id}
use Rattle.version_list.specs.Places.{Part, object_parts, version_parts, upload_parts, long_parts, rows_parts, spells, place_from, place_found, id_place, PlacesAreInContents}
use Rattle.version_list.specs.Rows.{ObjectRow, VersionRow, UploadRow, name_field, upload_field, object_row, version_row, upload_row, rows_of}
use Rattle.version_list.specs.Spelling.{class_of, object_bytes, version_bytes, upload_bytes, long_form, rows_bytes, spelling}
use Rattle.version_list.specs.State.{IsCanonical}
use Rattle.version_list.proofs.Canonical.{name_size, name_field-injective}
use Rattle.version_list.proofs.LawProofs.{spelling_found}
use Rattle.version_list.proofs.NamingLemmas.{same_name-refl, same_name-true}

-- the bytes of fields, joined
abbrev pub bytes_of : List Part → List ℕ
bytes_of parts = flat_map (λ p. p.bytes) parts

-- ---- fields of ids

-- a name's field has an id's bytes where the name is the id
pub name_same : (name : VersionName) (id : VersionId) → bytes_eq (name_field name) (id_bytes id) ≡ same_name name (Id id)
name_same name id =
    let bytes = bytes_eq-Decides (name_field name) (id_bytes id) in
    same_from_decides {P = name ≡ Id id} (bytes_eq (name_field name) (id_bytes id)) (same_name name (Id id))
    (λ e. name_field-injective name (Id id) (bytes.0 e), λ is. bytes.1 (ap name_field is))
    (same_name-true name (Id id), λ is. subst (λ n. same_name n (Id id) ≡ true) (sym is) (same_name-refl (Id id)))

upload_same : (upload : Option VersionId) (id : VersionId) → bytes_eq (upload_field upload) (id_bytes id) ≡ is_made_by id upload
upload_same None id = name_same Null id
upload_same (Some upload) id = name_same (Id upload) id

upload_size : (upload : Option VersionId) → length (upload_field upload) ≡ 16
upload_size None = name_size Null
upload_size (Some id) = length-id_bytes id

-- ---- places among fields

-- a place among the first fields is one among all
pub place_some : (at : ℕ) (id : List ℕ) (xs ys : List Part) (place : ℕ) → place_from at id xs ≡ Some place → place_from at id (xs ++ ys) ≡ Some place
place_some at id [] ys place found = absurd cc
place_some at id (x ∷ xs) ys place found = step (spells id x) refl (place_some (at + length x.bytes) id xs ys place) found
  where
    step :
        (b : Bool) → spells id x ≡ b
        → (place_from (at + length x.bytes) id xs ≡ Some place → place_from (at + length x.bytes) id (xs ++ ys) ≡ Some place)
        → place_from at id (x ∷ xs) ≡ Some place → place_from at id (x ∷ (xs ++ ys)) ≡ Some place
    step true h later found = rw h (rw h at found)
    step false h later found = rw h (later (rw h at found))

-- where there is none among the first, it is the place among the others
pub place_none : (at : ℕ) (id : List ℕ) (xs ys : List Part) → place_from at id xs ≡ None → place_from at id (xs ++ ys) ≡ place_from (at + length (bytes_of xs)) id ys
place_none at id [] ys none = ap (λ (n : ℕ). place_from n id ys) (omega arith)
place_none at id (x ∷ xs) ys none = step (spells id x) refl (place_none (at + length x.bytes) id xs ys) none
  where
    sizes : at + length x.bytes + length (bytes_of xs) ≡ at + length (bytes_of (x ∷ xs))
    sizes = omega (arith, length-append x.bytes (bytes_of xs))

    step :
        (b : Bool) → spells id x ≡ b
        → (place_from (at + length x.bytes) id xs ≡ None → place_from (at + length x.bytes) id (xs ++ ys) ≡ place_from (at + length x.bytes + length (bytes_of xs)) id ys)
        → place_from at id (x ∷ xs) ≡ None → place_from at id (x ∷ (xs ++ ys)) ≡ place_from (at + length (bytes_of (x ∷ xs))) id ys
    step true h later none = let never : Some at ≡ None = rw h at none in absurd cc
    step false h later none = rw h (later (rw h at none) ∙ ap (λ (n : ℕ). place_from n id ys) sizes)

-- there is a place where a field spells the id
pub place_any : (at : ℕ) (id : List ℕ) (parts : List Part) → is_some (place_from at id parts) ≡ list_any (spells id) parts
place_any at id [] = refl
place_any at id (x ∷ xs) = step (spells id x) refl (place_any (at + length x.bytes) id xs)
  where
    step :
        (b : Bool) → spells id x ≡ b → is_some (place_from (at + length x.bytes) id xs) ≡ list_any (spells id) xs
        → is_some (place_from at id (x ∷ xs)) ≡ list_any (spells id) (x ∷ xs)
    step true h later = rw h refl
    step false h later = rw h later

-- ---- one item after the other

drop_step : {X : Type 0} (xs : List X) (i : ℕ) (d : X) → i < length xs → drop i xs ≡ get_or xs i d ∷ drop (i + 1) xs
drop_step xs i d below =
    let next : suc i ≡ i + 1 = omega arith in
    drop-cons xs i d below ∙ ap (λ n. get_or xs i d ∷ drop n xs) next

-- the fields of the items from an index on
fields_from :
    {X : Type 0} (parts : X → List Part) (xs : List X) (i : ℕ) (x : X) → i < length xs → x ≡ get_or xs i x
    → flat_map parts (drop i xs) ≡ parts x ++ flat_map parts (drop (i + 1) xs)
fields_from parts xs i x below is =
    ap (flat_map parts) (drop_step xs i x below) ∙ ap (λ y. parts y ++ flat_map parts (drop (i + 1) xs)) (sym is)

-- the search goes on behind an item in which there is no place
pub place_next :
    {X : Type 0} (parts : X → List Part) (xs : List X) (i : ℕ) (x : X) (at size : ℕ) (id : List ℕ) (all : Option ℕ) → i < length xs
    → x ≡ get_or xs i x → size ≡ length (bytes_of (parts x)) → place_from at id (parts x) ≡ None
    → place_from at id (flat_map parts (drop i xs)) ≡ all → place_from (at + size) id (flat_map parts (drop (i + 1) xs)) ≡ all
place_next parts xs i x at size id all below is sized none found =
    ap (λ (n : ℕ). place_from (at + n) id (flat_map parts (drop (i + 1) xs))) sized
    ∙ sym (place_none at id (parts x) (flat_map parts (drop (i + 1) xs)) none)
    ∙ ap (place_from at id) (sym (fields_from parts xs i x below is)) ∙ found

-- and ends at an item in which there is one
pub place_here :
    {X : Type 0} (parts : X → List Part) (xs : List X) (i : ℕ) (x : X) (at place : ℕ) (id : List ℕ) (all : Option ℕ) → i < length xs
    → x ≡ get_or xs i x → place_from at id (parts x) ≡ Some place → place_from at id (flat_map parts (drop i xs)) ≡ all → all ≡ Some place
place_here parts xs i x at place id all below is some found =
    sym found ∙ ap (place_from at id) (fields_from parts xs i x below is)
    ∙ place_some at id (parts x) (flat_map parts (drop (i + 1) xs)) place some

-- ---- an object, a version and an upload

module _ (data_id : VersionId) (print : List ℕ) (size : ℕ) (md5 : List ℕ) (parts : ℕ) (upload : Option VersionId) (kind : List ℕ) (id : VersionId) (at : ℕ) where
  abbrev what : What
  what = Object data_id print size md5 parts upload kind

  pub data_place : same_id data_id id ≡ true → place_from at (id_bytes id) (object_parts (object_row what)) ≡ Some at
  data_place same = let here : bytes_eq (id_bytes data_id) (id_bytes id) ≡ true = name_same (Id data_id) id ∙ same in rw here refl

  behind_data : length print ≡ 32 → length md5 ≡ 16 → same_id data_id id ≡ false
      → place_from at (id_bytes id) (object_parts (object_row what)) ≡ place_from (at + 74) (id_bytes id) (record { of_id = true; bytes = upload_field upload } ∷ [])
  unfolding number_bytes
  behind_data print_sized md5_sized other =
      let there : bytes_eq (id_bytes data_id) (id_bytes id) ≡ false = name_same (Id data_id) id ∙ other in
      let place : at + length (id_bytes data_id) + length print + 8 + length md5 + 2 ≡ at + 74 = omega (arith, length-id_bytes data_id) in
      rw there (ap (λ (n : ℕ). place_from n (id_bytes id) (record { of_id = true; bytes = upload_field upload } ∷ [])) place)

  pub upload_place : length print ≡ 32 → length md5 ≡ 16 → same_id data_id id ≡ false → is_made_by id upload ≡ true
      → place_from at (id_bytes id) (object_parts (object_row what)) ≡ Some (at + 74)
  upload_place print_sized md5_sized other made =
      let here : bytes_eq (upload_field upload) (id_bytes id) ≡ true = upload_same upload id ∙ made in
      behind_data print_sized md5_sized other ∙ rw here refl

  pub no_place : length print ≡ 32 → length md5 ≡ 16 → same_id data_id id ≡ false → is_made_by id upload ≡ false
      → place_from at (id_bytes id) (object_parts (object_row what)) ≡ None
  no_place print_sized md5_sized other made =
      let there : bytes_eq (upload_field upload) (id_bytes id) ≡ false = upload_same upload id ∙ made in
      behind_data print_sized md5_sized other ∙ rw there refl

-- where a version has the name, it is the first field, and else the fields behind are those of what it is
pub version_place :
    (v : Version) (id : VersionId) (at : ℕ) → same_name v.id (Id id) ≡ true → place_from at (id_bytes id) (version_parts (version_row v)) ≡ Some at
version_place v id at same = let here : bytes_eq (name_field v.id) (id_bytes id) ≡ true = name_same v.id id ∙ same in rw here refl

pub behind_version :
    (v : Version) (id : VersionId) (at : ℕ) → same_name v.id (Id id) ≡ false
    → place_from at (id_bytes id) (version_parts (version_row v)) ≡ place_from (at + 25) (id_bytes id) (object_parts (object_row v.what))
unfolding number_bytes
behind_version v id at other =
    let there : bytes_eq (name_field v.id) (id_bytes id) ≡ false = name_same v.id id ∙ other in
    let place : at + length (name_field v.id) + 1 + 8 ≡ at + 25 = omega (arith, name_size v.id) in
    rw there (ap (λ (n : ℕ). place_from n (id_bytes id) (object_parts (object_row v.what))) place)

-- an upload names its id alone
pub upload_at : (u : Upload) (id : VersionId) (at : ℕ) → same_id u.id id ≡ true → place_from at (id_bytes id) (upload_parts (upload_row u)) ≡ Some at
upload_at u id at same = let here : bytes_eq (id_bytes u.id) (id_bytes id) ≡ true = name_same (Id u.id) id ∙ same in rw here refl

pub upload_past : (u : Upload) (id : VersionId) (at : ℕ) → same_id u.id id ≡ false → place_from at (id_bytes id) (upload_parts (upload_row u)) ≡ None
upload_past u id at other = let there : bytes_eq (id_bytes u.id) (id_bytes id) ≡ false = name_same (Id u.id) id ∙ other in rw there refl

-- ---- the fields spell the state

object_parts-bytes : (o : Option ObjectRow) → bytes_of (object_parts o) ≡ object_bytes o
object_parts-bytes None = refl
object_parts-bytes (Some o) = refl

pub version_parts-bytes : (v : VersionRow) → bytes_of (version_parts v) ≡ version_bytes v
version_parts-bytes v =
    let tail : bytes_of (object_parts v.object) ≡ object_bytes v.object ++ [] = object_parts-bytes v.object ∙ sym (append-nil (object_bytes v.object)) in
    ap (λ (l : List ℕ). v.id ++ (number_bytes w8 (class_of v.object) ++ (number_bytes w64 v.modified ++ l))) tail

pub upload_parts-bytes : (u : UploadRow) → bytes_of (upload_parts u) ≡ upload_bytes u
upload_parts-bytes u = refl

-- the bytes of the fields of each item are those of the item
each_bytes : {X : Type 0} (parts : X → List Part) (bytes : X → List ℕ) → ((x : X) → bytes_of (parts x) ≡ bytes x) → (xs : List X) → bytes_of (flat_map parts xs) ≡ flat_map bytes xs
each_bytes parts bytes same [] = refl
each_bytes parts bytes same (x ∷ xs) =
    flat_map-append (λ (p : Part). p.bytes) (parts x) (flat_map parts xs) ∙ ap (λ l. l ++ bytes_of (flat_map parts xs)) (same x)
    ∙ ap (λ l. bytes x ++ l) (each_bytes parts bytes same xs)

long_parts-bytes : (vs : List VersionRow) (us : List UploadRow) → bytes_of (long_parts vs us) ≡ long_form vs us
long_parts-bytes vs us =
    let versions = each_bytes version_parts version_bytes version_parts-bytes vs in
    let uploads = each_bytes upload_parts upload_bytes upload_parts-bytes us ∙ sym (append-nil (flat_map upload_bytes us)) in
    let behind : List Part = record { of_id = false; bytes = number_bytes w32 (length us) } ∷ flat_map upload_parts us in
    ap (λ l. number_bytes w32 (length vs) ++ l)
    (flat_map-append (λ (p : Part). p.bytes) (flat_map version_parts vs) behind
    ∙ ap (λ l. l ++ bytes_of behind) versions
    ∙ ap (λ l. flat_map version_bytes vs ++ (number_bytes w32 (length us) ++ l)) uploads)

rows_parts-bytes : (vs : List VersionRow) (us : List UploadRow) → bytes_of (rows_parts vs us) ≡ rows_bytes vs us
rows_parts-bytes [] [] = refl
rows_parts-bytes [] (u ∷ us) = long_parts-bytes [] (u ∷ us)
rows_parts-bytes (v ∷ vs) us = long_parts-bytes (v ∷ vs) us

-- ---- the place in a spelling

-- no field of an id stands in the two counts of an empty state
rows_long : (id : List ℕ) (vs : List VersionRow) (us : List UploadRow) → place_from 0 id (rows_parts vs us) ≡ place_from 0 id (long_parts vs us)
rows_long id [] [] = refl
rows_long id [] (u ∷ us) = refl
rows_long id (v ∷ vs) us = refl

spelled_place : (id : List ℕ) (state : KeyState) → IsCanonical state → id_place id (spelling state) ≡ place_from 0 id (rows_parts (rows_of state).versions (rows_of state).uploads)
spelled_place id state canonical = ap (place_found id) (spelling_found state canonical)

-- the fields of versions and of uploads, made of their rows
abbrev pub parts_of_version : Version → List Part
parts_of_version v = version_parts (version_row v)

abbrev pub parts_of_upload : Upload → List Part
parts_of_upload u = upload_parts (upload_row u)

state_place : (id : List ℕ) (state : KeyState) → IsCanonical state
    → id_place id (spelling state)
    ≡ place_from 4 id (flat_map parts_of_version state.versions
    ++ record { of_id = false; bytes = number_bytes w32 (length (map upload_row state.uploads)) } ∷ flat_map parts_of_upload state.uploads)
unfolding number_bytes
state_place id state canonical =
    let vs = map version_row state.versions in
    let us = map upload_row state.uploads in
    let count : Part = record { of_id = false; bytes = number_bytes w32 (length us) } in
    spelled_place id state canonical ∙ rows_long id vs us
    ∙ ap (λ (l : List Part). place_from 4 id (l ++ count ∷ flat_map upload_parts us)) (flat_map-map version_parts version_row state.versions)
    ∙ ap (λ (l : List Part). place_from 4 id (flat_map parts_of_version state.versions ++ count ∷ l)) (flat_map-map upload_parts upload_row state.uploads)

-- a place in a version is the place
pub place_in_first : (id : List ℕ) (state : KeyState) (place : ℕ) → IsCanonical state → place_from 4 id (flat_map parts_of_version state.versions) ≡ Some place
    → id_place id (spelling state) ≡ Some place
place_in_first id state place canonical found =
    state_place id state canonical ∙ place_some 4 id (flat_map parts_of_version state.versions) _ place found

-- else it is that in an upload
pub place_in_second : (id : List ℕ) (state : KeyState) (size : ℕ) → IsCanonical state → place_from 4 id (flat_map parts_of_version state.versions) ≡ None
    → size ≡ length (flat_map version_bytes (map version_row state.versions))
    → id_place id (spelling state) ≡ place_from (4 + size + 4) id (flat_map parts_of_upload state.uploads)
unfolding number_bytes
place_in_second id state size canonical none sized =
    let bytes : bytes_of (flat_map parts_of_version state.versions) ≡ flat_map version_bytes (map version_row state.versions) =
    each_bytes parts_of_version (λ v. version_bytes (version_row v)) (λ v. version_parts-bytes (version_row v)) state.versions
    ∙ sym (flat_map-map version_bytes version_row state.versions) in
    state_place id state canonical ∙ place_none 4 id (flat_map parts_of_version state.versions) _ none
    ∙ ap (λ (n : ℕ). place_from (4 + n + 4) id (flat_map parts_of_upload state.uploads)) (ap length bytes ∙ sym sized)

-- ---- a state has a place of the ids that it names

any_nil : (b : Bool) → (b || false) ≡ b
any_nil true = refl
any_nil false = refl

what_any : (what : What) (id : VersionId) → list_any (spells (id_bytes id)) (object_parts (object_row what)) ≡ what_names id what
what_any Marker id = refl
what_any (Object data_id print size md5 parts upload kind) id =
    ap (λ (b : Bool). b || (bytes_eq (upload_field upload) (id_bytes id) || false)) (name_same (Id data_id) id)
    ∙ ap (λ (b : Bool). same_id data_id id || b) (any_nil (bytes_eq (upload_field upload) (id_bytes id)) ∙ upload_same upload id)

version_any : (v : Version) (id : VersionId) → list_any (spells (id_bytes id)) (parts_of_version v) ≡ version_names id v
version_any v id =
    ap (λ (b : Bool). b || list_any (spells (id_bytes id)) (object_parts (object_row v.what))) (name_same v.id id)
    ∙ ap (λ (b : Bool). has_name (Id id) v || b) (what_any v.what id)

upload_any : (u : Upload) (id : VersionId) → list_any (spells (id_bytes id)) (parts_of_upload u) ≡ is_upload id u
upload_any u id = any_nil (bytes_eq (id_bytes u.id) (id_bytes id)) ∙ name_same (Id u.id) id

each_any : {X : Type 0} (parts : X → List Part) (p : Part → Bool) (q : X → Bool) → ((x : X) → list_any p (parts x) ≡ q x) → (xs : List X) → list_any p (flat_map parts xs) ≡ list_any q xs
each_any parts p q same [] = refl
each_any parts p q same (x ∷ xs) =
    list_any-append p (parts x) (flat_map parts xs) ∙ ap (λ (b : Bool). b || list_any p (flat_map parts xs)) (same x)
    ∙ ap (λ (b : Bool). q x || b) (each_any parts p q same xs)

pub place_named : (id : VersionId) (state : KeyState) → IsCanonical state → is_some (id_place (id_bytes id) (spelling state)) ≡ names_id id state
place_named id state canonical =
    let test = spells (id_bytes id) in
    let count : Part = record { of_id = false; bytes = number_bytes w32 (length (map upload_row state.uploads)) } in
    ap is_some (state_place (id_bytes id) state canonical)
    ∙ place_any 4 (id_bytes id) (flat_map parts_of_version state.versions ++ count ∷ flat_map parts_of_upload state.uploads)
    ∙ list_any-append test (flat_map parts_of_version state.versions) (count ∷ flat_map parts_of_upload state.uploads)
    ∙ ap (λ (b : Bool). b || list_any test (flat_map parts_of_upload state.uploads))
    (each_any parts_of_version test (version_names id) (λ v. version_any v id) state.versions)
    ∙ ap (λ (b : Bool). list_any (version_names id) state.versions || b)
    (each_any parts_of_upload test (is_upload id) (λ u. upload_any u id) state.uploads)

-- ---- what stands at a place

field_bytes : (id : List ℕ) (part : Part) → spells id part ≡ true → part.bytes ≡ id
field_bytes id part h = (bytes_eq-Decides part.bytes id).0 (both_true part.of_id (bytes_eq part.bytes id) h).1

-- so many bytes on, the bytes stand there
pub stands_from : (at : ℕ) (id : List ℕ) (parts : List Part) (place : ℕ) → place_from at id parts ≡ Some place
    → (front : List ℕ) × (back : List ℕ) × (bytes_of parts ≡ front ++ (id ++ back)) × (at + length front ≡ place)
stands_from at id [] place found = absurd cc
stands_from at id (x ∷ xs) place found = step (spells id x) refl (stands_from (at + length x.bytes) id xs place) found
  where
    step :
        (b : Bool) → spells id x ≡ b
        → (place_from (at + length x.bytes) id xs ≡ Some place
        → (front : List ℕ) × (back : List ℕ) × (bytes_of xs ≡ front ++ (id ++ back)) × (at + length x.bytes + length front ≡ place))
        → place_from at id (x ∷ xs) ≡ Some place
        → (front : List ℕ) × (back : List ℕ) × (bytes_of (x ∷ xs) ≡ front ++ (id ++ back)) × (at + length front ≡ place)
    step true h later found =
        let here : Some at ≡ Some place = rw h at found in
        let same : at ≡ place = cc in
        ([], bytes_of xs, ap (λ l. l ++ bytes_of xs) (field_bytes id x h), omega (arith, same))
    step false h later found =
        let rest = later (rw h at found) in
        (x.bytes ++ rest.0, rest.1, ap (λ l. x.bytes ++ l) rest.2 ∙ sym (append_assoc x.bytes rest.0 (id ++ rest.1)), omega (arith, length-append x.bytes rest.0, rest.3))

pub places_stand : PlacesAreInContents
places_stand id state canonical place found =
    let vs = (rows_of state).versions in
    let us = (rows_of state).uploads in
    let s = stands_from 0 (id_bytes id) (rows_parts vs us) place (sym (spelled_place (id_bytes id) state canonical) ∙ found) in
    record { front = s.0; back = s.1; is = sym (rows_parts-bytes vs us) ∙ s.2; at = omega (arith, s.3) }

-- an answer that is no place is none
pub none_there : (answer found : Option ℕ) → answer ≡ found → is_some answer ≡ false → found ≡ None
none_there None found is none = sym is
none_there (Some place) found is none = absurd cc

-- an answer that is due says whether the id is named
pub answer_named : (id : VersionId) (state : KeyState) (answer : Option ℕ) → IsCanonical state → answer ≡ id_place (id_bytes id) (spelling state) → is_some answer ≡ names_id id state
answer_named id state answer canonical is = ap is_some is ∙ place_named id state canonical
