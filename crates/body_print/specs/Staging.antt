-- The calls with which a drive is given the data of an id, each answered Ok, the first one first.
use Rattle.std.specs.Prelude.{List, [], ◌∷◌, ◌++◌, ℕ, map, Ok}
use Rattle.stamp_id.specs.declared.version.VersionId.{VersionId}
use Rattle.drive_base.specs.Trail.{DriveCall, Append, Rename, Sync}
use Rattle.body_print.specs.Names.{loose_manifest_name, loose_shard_name, manifest_name, shard_name}

-- appends of these pieces to a loose file
abbrev pub appends : List ℕ → List (List ℕ) → List DriveCall
appends loose pieces = map (λ (piece : List ℕ). Append loose piece (Ok tt)) pieces

-- a shard file written in these pieces and made to last, and more calls behind that
abbrev pub shard_calls : VersionId → List (List ℕ) → List DriveCall → List DriveCall
shard_calls id pieces more = appends (loose_shard_name id) pieces ++ Sync (loose_shard_name id) (Ok tt) ∷ more

-- all calls: both files are written and made to last, and put in place, the manifest first, so that a shard in place can be found
abbrev pub staging_calls : VersionId → List (List ℕ) → List ℕ → List DriveCall
staging_calls id pieces manifest = shard_calls id pieces (Append (loose_manifest_name id) manifest (Ok tt) ∷ Sync (loose_manifest_name id) (Ok tt)
    ∷ Rename (loose_manifest_name id) (manifest_name id) (Ok tt) ∷ Rename (loose_shard_name id) (shard_name id) (Ok tt) ∷ [])
