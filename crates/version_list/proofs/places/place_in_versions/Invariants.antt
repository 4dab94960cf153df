use Rattle.std.proofs.Common.{◌≡◌, ◌*◌, ◌+◌, ◌≤◌, drop}
use Rattle.std.specs.List.{flat_map}
use Rattle.stamp_id.specs.VersionId.{id_bytes}
use Rattle.version_list.specs.Places.{place_from, version_parts}
use Rattle.version_list.specs.Rows.{version_row}
use Rattle.version_list.proofs.places.place_in_versions.Given as goal

-- the search from here on finds what the whole search does
abbrev pub invariant-loop-version : goal.invariant-loop-version
invariant-loop-version l = record {
  near : l.next ≤ 4 + 400 * l.version-index;
  found : place_from l.next (id_bytes l.id) (flat_map (λ v. version_parts (version_row v)) (drop l.version-index l.versions))
      ≡ place_from l.at (id_bytes l.id) (flat_map (λ v. version_parts (version_row v)) l.versions);
}
