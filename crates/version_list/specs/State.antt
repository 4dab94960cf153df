-- What a key holds, and which states are canonical.
use Rattle.std.specs.Prelude.{◌≡◌, ◌≢◌, ℕ, ◌<◌, ◌≤◌, ◌^◌, ◌↔◌, List, [], ◌∷◌, ◌++◌, length, map, Option, IsNone, ⊤}
use Rattle.std.specs.List.{AllByRecursion}
use Rattle.stamp_id.specs.declared.version.VersionId.{VersionId}
use Rattle.call_types.specs.declared.names.VersionName.{VersionName}
use Rattle.call_types.specs.declared.names.VersionName.TheVariants.{Id}
use Rattle.call_types.specs.declared.version.Version.{Version}
use Rattle.call_types.specs.declared.version.Upload.{Upload}
use Rattle.call_types.specs.declared.version.What.{What}
use Rattle.call_types.specs.declared.version.What.TheVariants.{Marker, Object}
use Rattle.version_list.specs.declared.state.KeyState.{KeyState}
use Rattle.version_list.specs.Limits.{most_versions, most_uploads, longest_kind, moment_limit}

-- no item stands twice
abbrev pub AreDistinct : {A : Type 0} → List A → Type 0
AreDistinct [] = ⊤
AreDistinct (x ∷ xs) = AllByRecursion (λ y. x ≢ y) xs × AreDistinct xs

-- the names of the versions, and then those of the uploads
abbrev pub names_of : KeyState → List VersionName
names_of state = map (λ v. v.id) state.versions ++ map (λ u. Id u.id) state.uploads

-- Unix seconds before the year 10000
abbrev pub IsMoment : ℕ → Type 0
IsMoment moment = moment < moment_limit

-- a content type isn't too long
abbrev pub IsKind : List ℕ → Type 0
IsKind kind = length kind ≤ longest_kind

-- An object's fields have the sizes of their types, and it has parts exactly where an upload made it.
pub record IsObject (print : List ℕ) (size : ℕ) (md5 : List ℕ) (parts : ℕ) (upload : Option VersionId) (kind : List ℕ) : Type 0 where
  pub print_sized : length print ≡ 32
  pub size_fits : size < 2 ^ 64
  pub md5_sized : length md5 ≡ 16
  pub parts_fit : parts < 2 ^ 16
  pub parts_of_upload : (parts ≡ 0) ↔ IsNone upload
  pub kind_short : IsKind kind

-- a marker has no fields, and those of an object are in order
abbrev pub IsCanonicalWhat : What → Type 0
IsCanonicalWhat Marker = ⊤
IsCanonicalWhat (Object data_id print size md5 parts upload kind) = IsObject print size md5 parts upload kind

-- a version in order
pub record IsCanonicalVersion (version : Version) : Type 0 where
  pub modified : IsMoment version.modified
  pub what : IsCanonicalWhat version.what

-- an upload in order
pub record IsCanonicalUpload (upload : Upload) : Type 0 where
  pub opened : IsMoment upload.opened
  pub kind_short : IsKind upload.kind

-- A state that is written: few versions and uploads, all names distinct, and each version and upload in order.
pub record IsCanonical (state : KeyState) : Type 0 where
  pub few_versions : length state.versions ≤ most_versions
  pub few_uploads : length state.uploads ≤ most_uploads
  pub distinct : AreDistinct (names_of state)
  pub versions : AllByRecursion IsCanonicalVersion state.versions
  pub uploads : AllByRecursion IsCanonicalUpload state.uploads
