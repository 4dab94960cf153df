-- Which versions and uploads of a key a name is about.
use Rattle.std.specs.Prelude.{◌≡◌, ◌↔◌, ℕ, Bool, true, false, ◌&&◌, not, List, Option, Some, None, filter, slice_get, nat_eq}
use Rattle.stamp_id.specs.declared.version.VersionId.{VersionId}
use Rattle.call_types.specs.declared.names.VersionName.{VersionName}
use Rattle.call_types.specs.declared.names.VersionName.TheVariants.{Null, Id}
use Rattle.call_types.specs.declared.version.Version.{Version}
use Rattle.call_types.specs.declared.version.Upload.{Upload}
use Rattle.call_types.specs.declared.version.What.{What}
use Rattle.call_types.specs.declared.version.What.TheVariants.{Marker, Object}

-- whether two ids are the same
abbrev pub same_id : VersionId → VersionId → Bool
same_id a b = nat_eq a.change.0.term b.change.0.term && nat_eq a.change.0.seq b.change.0.seq && nat_eq a.slot b.slot

-- whether two names are the same
abbrev pub same_name : VersionName → VersionName → Bool
same_name Null Null = true
same_name Null (Id b) = false
same_name (Id a) Null = false
same_name (Id a) (Id b) = same_id a b

-- the tests are those of equality
abbrev pub SameIdIsEquality : Type 0
SameIdIsEquality = (a b : VersionId) → (same_id a b ≡ true) ↔ (a ≡ b)

-- the same of names
abbrev pub SameNameIsEquality : Type 0
SameNameIsEquality = (a b : VersionName) → (same_name a b ≡ true) ↔ (a ≡ b)

-- whether a version has this name
abbrev pub has_name : VersionName → Version → Bool
has_name name v = same_name v.id name

-- the same where there may be no name, which no version has
abbrev pub is_named : Option VersionName → Version → Bool
is_named None v = false
is_named (Some name) v = has_name name v

-- the versions that stay, in their order, where those of this name go
abbrev pub kept : Option VersionName → List Version → List Version
kept name versions = filter (λ v. not (is_named name v)) versions

-- whether a version is a delete marker
abbrev pub is_marker : What → Bool
is_marker Marker = true
is_marker (Object data_id print size md5 parts upload kind) = false

-- whether an upload has this id
abbrev pub is_upload : VersionId → Upload → Bool
is_upload id u = same_id u.id id

-- the uploads that stay open, in their order, where that of this id is closed
abbrev pub still_open : VersionId → List Upload → List Upload
still_open id uploads = filter (λ u. not (is_upload id u)) uploads

-- the upload at this place has this id
pub record HasUploadAt (id : VersionId) (uploads : List Upload) (place : ℕ) : Type 0 where
  pub upload : Upload
  pub at : slice_get uploads place ≡ Some upload
  pub has_id : upload.id ≡ id
