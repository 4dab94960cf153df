-- Which ids the state of a key names.
use Rattle.std.specs.Prelude.{◌≡◌, ◌⊎◌, ℕ, Bool, true, false, ◌||◌, Option, Some, None}
use Rattle.std.specs.List.{list_any}
use Rattle.stamp_id.specs.declared.version.VersionId.{VersionId}
use Rattle.call_types.specs.declared.names.Mode.{Mode}
use Rattle.call_types.specs.declared.names.VersionName.TheVariants.{Id}
use Rattle.call_types.specs.declared.version.Version.{Version}
use Rattle.call_types.specs.declared.version.What.{What}
use Rattle.call_types.specs.declared.version.What.TheVariants.{Marker, Object}
use Rattle.call_types.specs.declared.act.Act.{Act}
use Rattle.call_types.specs.declared.act.Act.TheVariants as act
use Rattle.call_types.specs.declared.reply.Reply.{Reply}
use Rattle.version_list.specs.declared.state.KeyState.{KeyState}
use Rattle.version_list.specs.Naming.{same_id, has_name, is_upload}
use Rattle.version_list.specs.Gone.{has_data}
use Rattle.version_list.specs.Step.{Step}

-- whether the upload that made an object, if one did, has this id
abbrev pub is_made_by : VersionId → Option VersionId → Bool
is_made_by id None = false
is_made_by id (Some upload) = same_id upload id

-- whether an object's data, or the upload that made it, has this id; a marker has neither
abbrev pub what_names : VersionId → What → Bool
what_names id Marker = false
what_names id (Object data_id print size md5 parts upload kind) = same_id data_id id || is_made_by id upload

-- whether this id is the name of a version, that of its data, or that of the upload that made it
abbrev pub version_names : VersionId → Version → Bool
version_names id v = has_name (Id id) v || what_names id v.what

-- whether a version or an open upload of the key names this id
abbrev pub names_id : VersionId → KeyState → Bool
names_id id state = list_any (version_names id) state.versions || list_any (is_upload id) state.uploads

-- no version, no data and no open upload of the key has this id
pub record HasNone (id : VersionId) (state : KeyState) : Type 0 where
  pub versions : list_any (has_name (Id id)) state.versions ≡ false
  pub «data» : list_any (has_data id) state.versions ≡ false
  pub uploads : list_any (is_upload id) state.uploads ≡ false

-- A key has nothing of an id that it doesn't name.
abbrev pub UnnamedIsNothing : Type 0
UnnamedIsNothing = (id : VersionId) (state : KeyState) → names_id id state ≡ false → HasNone id state

-- whether an act brings data of this id
abbrev pub act_brings : VersionId → Act → Bool
act_brings id (act.Put data_id print size md5 kind) = same_id data_id id
act_brings id (act.Delete pick) = false
act_brings id (act.Create kind) = false
act_brings id (act.Complete upload parts data_id print size md5) = same_id data_id id
act_brings id (act.Abort upload) = false

-- What a step leaves names the ids that the old state named, that of the act's data and the one that the call drew, and no
-- others.
abbrev pub StepsNameNoOthers : Type 0
StepsNameNoOthers =
    (old : KeyState) (mode : Mode) (done : Act) (drawn : VersionId) (now : ℕ) (reply : Reply) (new : KeyState)
    → Step old mode done drawn now reply new → (id : VersionId) → names_id id new ≡ true
    → (names_id id old ≡ true) ⊎ ((same_id drawn id || act_brings id done) ≡ true)
