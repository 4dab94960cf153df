-- States with the same rows are the same.
use Rattle.std.proofs.Common.{◌≡◌, List, [], ◌∷◌, Option, Some, refl, ap}
use Rattle.std.specs.Prelude.{map}
use Rattle.stamp_id.proofs.IdLemmas.{id_bytes-injective}
use Rattle.call_types.specs.declared.version.Version.{Version}
use Rattle.call_types.specs.declared.version.Upload.{Upload}
use Rattle.call_types.specs.declared.version.What.{What}
use Rattle.call_types.specs.declared.version.What.TheVariants.{Marker, Object}
use Rattle.version_list.specs.declared.state.KeyState.{KeyState}
use Rattle.version_list.specs.Rows.{ObjectRow, VersionRow, UploadRow, StateRows, object_row, version_row, upload_row, rows_of}
use Rattle.version_list.proofs.Canonical.{name_field-injective, upload_field-injective}

abbrev some_row : ObjectRow → Option ObjectRow
some_row r = Some r

some_is : (a b : ObjectRow) → some_row a ≡ some_row b → a ≡ b
some_is a b e = cc

object_row-injective : (a b : What) → object_row a ≡ object_row b → a ≡ b
object_row-injective Marker Marker e = refl
object_row-injective Marker (Object d p s m n u k) e = absurd cc
object_row-injective (Object d p s m n u k) Marker e = absurd cc
object_row-injective (Object d p s m n u k) (Object d' p' s' m' n' u' k') e =
    let rows = some_is _ _ e in
    let data_id : d ≡ d' = id_bytes-injective d d' (ap (λ (o : ObjectRow). o.data_id) rows) in
    let upload : u ≡ u' = upload_field-injective u u' (ap (λ (o : ObjectRow). o.upload) rows) in
    let print : p ≡ p' = ap (λ (o : ObjectRow). o.print) rows in
    let size : s ≡ s' = ap (λ (o : ObjectRow). o.size) rows in
    let md5 : m ≡ m' = ap (λ (o : ObjectRow). o.md5) rows in
    let parts : n ≡ n' = ap (λ (o : ObjectRow). o.parts) rows in
    let kind : k ≡ k' = ap (λ (o : ObjectRow). o.kind) rows in
    λ i. Object (data_id i) (print i) (size i) (md5 i) (parts i) (upload i) (kind i)

version_row-injective : (a b : Version) → version_row a ≡ version_row b → a ≡ b
version_row-injective a b e =
    let id : a.id ≡ b.id = name_field-injective a.id b.id (ap (λ (r : VersionRow). r.id) e) in
    let modified : a.modified ≡ b.modified = ap (λ (r : VersionRow). r.modified) e in
    let what : a.what ≡ b.what = object_row-injective a.what b.what (ap (λ (r : VersionRow). r.object) e) in
    λ i. record { id = id i; modified = modified i; what = what i }

upload_row-injective : (a b : Upload) → upload_row a ≡ upload_row b → a ≡ b
upload_row-injective a b e =
    let id : a.id ≡ b.id = id_bytes-injective a.id b.id (ap (λ (r : UploadRow). r.id) e) in
    let opened : a.opened ≡ b.opened = ap (λ (r : UploadRow). r.opened) e in
    let kind : a.kind ≡ b.kind = ap (λ (r : UploadRow). r.kind) e in
    λ i. record { id = id i; opened = opened i; kind = kind i }

map-injective : {A B : Type 0} (f : A → B) → ((a b : A) → f a ≡ f b → a ≡ b) → (xs ys : List A) → map f xs ≡ map f ys → xs ≡ ys
map-injective f injective [] [] e = refl
map-injective f injective [] (y ∷ ys) e = absurd cc
map-injective f injective (x ∷ xs) [] e = absurd cc
map-injective {A} {B} f injective (x ∷ xs) (y ∷ ys) e =
    let head : f x ≡ f y = cc in
    let tail : map f xs ≡ map f ys = cc in
    let first = injective x y head in
    let others = map-injective f injective xs ys tail in
    λ i. first i ∷ others i

pub rows_of-injective : (a b : KeyState) → rows_of a ≡ rows_of b → a ≡ b
rows_of-injective a b e =
    let versions : a.versions ≡ b.versions = map-injective version_row version_row-injective a.versions b.versions (ap (λ (r : StateRows). r.versions) e) in
    let uploads : a.uploads ≡ b.uploads = map-injective upload_row upload_row-injective a.uploads b.uploads (ap (λ (r : StateRows). r.uploads) e) in
    λ i. record { versions = versions i; uploads = uploads i }
