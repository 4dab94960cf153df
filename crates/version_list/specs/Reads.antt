-- What a read of a key gives (Amazon S3, GetObject and HeadObject).
use Rattle.std.specs.Prelude.{◌≡◌, ℕ, List, [], ◌∷◌, Some, None, Result, Ok, Err, MatchOption, MatchBool, slice_get, position}
use Rattle.call_types.specs.declared.names.Pick.{Pick}
use Rattle.call_types.specs.declared.names.Pick.TheVariants as pick
use Rattle.call_types.specs.declared.names.VersionName.{VersionName}
use Rattle.call_types.specs.declared.names.VersionName.TheVariants.{Null, Id}
use Rattle.call_types.specs.declared.version.Version.{Version}
use Rattle.call_types.specs.declared.refusal.KeyRefusal.{KeyRefusal}
use Rattle.call_types.specs.declared.refusal.KeyRefusal.TheVariants.{NoSuchKey, NoSuchVersion, MarkerNamed}
use Rattle.version_list.specs.Naming.{has_name, is_marker}

-- A read that names no version gives the first. Where there is none, and where it is a marker, there is no key.
abbrev pub ReadsCurrent : List Version → Result ℕ KeyRefusal → Type 0
ReadsCurrent [] answer = answer ≡ Err (NoSuchKey None)
ReadsCurrent (v ∷ older) answer = MatchBool (is_marker v.what) (answer ≡ Err (NoSuchKey (Some v.id))) (answer ≡ Ok 0)

-- A read of the version at this place, which a marker refuses.
abbrev pub ReadsAt : ℕ → Version → Result ℕ KeyRefusal → Type 0
ReadsAt place v answer = MatchBool (is_marker v.what) (answer ≡ Err (MarkerNamed v.id v.modified)) (answer ≡ Ok place)

-- A read that names a version gives the first of that name, where there is one.
abbrev pub ReadsNamed : VersionName → List Version → Result ℕ KeyRefusal → Type 0
ReadsNamed name versions answer =
    MatchOption (position (has_name name) versions) (answer ≡ Err NoSuchVersion)
    (λ place. MatchOption (slice_get versions place) (answer ≡ Err NoSuchVersion) (λ v. ReadsAt place v answer))

-- A read of a key with these versions is given the version at a place, or is refused.
abbrev pub Reads : List Version → Pick → Result ℕ KeyRefusal → Type 0
Reads versions pick.Current answer = ReadsCurrent versions answer
Reads versions pick.Null answer = ReadsNamed Null versions answer
Reads versions (pick.Id id) answer = ReadsNamed (Id id) versions answer
