-- One step of a versioned object: what a change of a key answers, and the state that it leaves (Amazon S3, PutObject,
-- DeleteObject and the multipart calls, in the three modes of a bucket).
use Rattle.std.specs.Prelude.{◌≡◌, ℕ, ◌<◌, ◌≤◌, ◌⊎◌, true, false, ◌&&◌, List, [], ◌∷◌, ◌++◌, length, Option, Some, None, MatchOption, find}
use Rattle.std.specs.List.{list_any}
use Rattle.stamp_id.specs.declared.version.VersionId.{VersionId}
use Rattle.call_types.specs.declared.names.Mode.{Mode}
use Rattle.call_types.specs.declared.names.Mode.TheVariants.{Never, Enabled, Suspended}
use Rattle.call_types.specs.declared.names.Etag.{Etag}
use Rattle.call_types.specs.declared.names.Pick.TheVariants as pick
use Rattle.call_types.specs.declared.names.VersionName.{VersionName}
use Rattle.call_types.specs.declared.names.VersionName.TheVariants.{Null, Id}
use Rattle.call_types.specs.declared.version.Version.{Version}
use Rattle.call_types.specs.declared.version.Upload.{Upload}
use Rattle.call_types.specs.declared.version.What.TheVariants.{Marker, Object}
use Rattle.call_types.specs.declared.act.Act.{Act}
use Rattle.call_types.specs.declared.act.Act.TheVariants as act
use Rattle.call_types.specs.declared.reply.Reply.{Reply}
use Rattle.call_types.specs.declared.reply.Reply.TheVariants.{Plain, Stored, Deleted, Opened, Completed, Refused}
use Rattle.call_types.specs.declared.refusal.Refusal.{Refusal}
use Rattle.call_types.specs.declared.refusal.Refusal.TheVariants.{VersionLimit, UploadLimit, NoSuchUpload}
use Rattle.version_list.specs.declared.state.KeyState.{KeyState}
use Rattle.version_list.specs.Naming.{has_name, kept, is_marker, is_upload, still_open}
use Rattle.version_list.specs.Limits.{most_versions, most_uploads}

-- A new version is named by the call's id in mode Enabled, and `null` else.
abbrev pub new_name : Mode → VersionId → VersionName
new_name Never id = Null
new_name Enabled id = Id id
new_name Suspended id = Null

-- A new version replaces none in mode Enabled, and else each that is named `null`.
abbrev pub replaced : Mode → Option VersionName
replaced Never = Some Null
replaced Enabled = None
replaced Suspended = Some Null

-- In mode Never a reply tells no version's name.
abbrev pub told : Mode → VersionName → Option VersionName
told Never name = None
told Enabled name = Some name
told Suspended name = Some name

-- A refusal leaves the state.
abbrev pub Refuses : Refusal → KeyState → Reply → KeyState → Type 0
Refuses why old reply new = (reply ≡ Refused why) × (new ≡ old)

-- The call is done: it has this reply and leaves these versions and uploads.
abbrev pub Does : Reply → List Version → List Upload → Reply → KeyState → Type 0
Does done versions uploads reply new = (reply ≡ done) × (new ≡ record { versions = versions; uploads = uploads })

-- A version is put in front of those that it doesn't replace, if they are fewer than 10,000.
abbrev pub AddsVersion : KeyState → Mode → Version → List Upload → Reply → Reply → KeyState → Type 0
AddsVersion old mode v uploads done reply new =
    let stay = kept (replaced mode) old.versions in
    ((most_versions ≤ length stay) × Refuses VersionLimit old reply new)
    ⊎ ((length stay < most_versions) × Does done (v ∷ stay) uploads reply new)

-- The versions of this name go for good. A name that is not there changes nothing.
abbrev pub RemovesVersion : KeyState → Mode → VersionName → Reply → KeyState → Type 0
RemovesVersion old mode name reply new =
    let marker = list_any (λ v. has_name name v && is_marker v.what) old.versions in
    Does (Deleted (told mode name) marker) (kept (Some name) old.versions) old.uploads reply new

-- A marker is put in front.
abbrev pub AddsMarker : KeyState → Mode → VersionId → ℕ → Reply → KeyState → Type 0
AddsMarker old mode id now reply new =
    let name = new_name mode id in
    AddsVersion old mode record { id = name; modified = now; what = Marker } old.uploads (Deleted (Some name) true) reply new

-- A delete that names no version.
abbrev pub Deletes : KeyState → Mode → VersionId → ℕ → Reply → KeyState → Type 0
Deletes old Never id now reply new = Does (Deleted None false) (kept (Some Null) old.versions) old.uploads reply new
Deletes old Enabled id now reply new = AddsMarker old Enabled id now reply new
Deletes old Suspended id now reply new = AddsMarker old Suspended id now reply new

-- An upload is opened, if fewer than 1,000 are open.
abbrev pub OpensUpload : KeyState → Upload → Reply → KeyState → Type 0
OpensUpload old opened reply new =
    ((most_uploads ≤ length old.uploads) × Refuses UploadLimit old reply new)
    ⊎ ((length old.uploads < most_uploads) × Does (Opened opened.id) old.versions (old.uploads ++ opened ∷ []) reply new)

-- Where no open upload has this id the call is refused; else what it does with the upload.
abbrev pub WithUpload : KeyState → VersionId → (Upload → Reply → KeyState → Type 0) → Reply → KeyState → Type 0
WithUpload old id Uses reply new =
    MatchOption (find (is_upload id) old.uploads) (Refuses NoSuchUpload old reply new) (λ opened. Uses opened reply new)

-- The step of an act in a bucket of this mode, with the id that the call drew, in the second `now`: the reply, and the
-- new state.
abbrev pub Step : KeyState → Mode → Act → VersionId → ℕ → Reply → KeyState → Type 0
Step old mode (act.Put data_id print size md5 kind) id now reply new =
    let name = new_name mode id in
    let etag : Etag = record { md5 = md5; parts = 0 } in
    AddsVersion old mode record { id = name; modified = now; what = Object data_id print size md5 0 None kind } old.uploads
    (Stored etag (told mode name)) reply new
Step old mode (act.Delete pick.Current) id now reply new = Deletes old mode id now reply new
Step old mode (act.Delete pick.Null) id now reply new = RemovesVersion old mode Null reply new
Step old mode (act.Delete (pick.Id named)) id now reply new = RemovesVersion old mode (Id named) reply new
Step old mode (act.Create kind) id now reply new = OpensUpload old record { id = id; opened = now; kind = kind } reply new
Step old mode (act.Complete upload parts data_id print size md5) id now reply new =
    let name = new_name mode id in
    let etag : Etag = record { md5 = md5; parts = parts } in
    WithUpload old upload
    (λ opened. AddsVersion old mode
    record { id = name; modified = now; what = Object data_id print size md5 parts (Some upload) opened.kind }
    (still_open upload old.uploads) (Completed etag (told mode name)))
    reply new
Step old mode (act.Abort upload) id now reply new =
    WithUpload old upload (λ opened. Does Plain old.versions (still_open upload old.uploads)) reply new
