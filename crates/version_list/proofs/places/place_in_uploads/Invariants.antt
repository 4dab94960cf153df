use Rattle.std.proofs.Common.{◌≡◌, ◌*◌, ◌+◌, ◌≤◌, drop}
use Rattle.std.specs.List.{flat_map}
use Rattle.stamp_id.specs.VersionId.{id_bytes}
use Rattle.version_list.specs.Places.{place_from, upload_parts}
use Rattle.version_list.specs.Rows.{upload_row}
use Rattle.version_list.proofs.places.place_in_uploads.Given as goal

-- the search from here on finds what the whole search does
abbrev pub invariant-loop-upload : goal.invariant-loop-upload
invariant-loop-upload l = record {
  near : l.next ≤ 5000000 + 400 * l.upload-index;
  found : place_from l.next (id_bytes l.id) (flat_map (λ u. upload_parts (upload_row u)) (drop l.upload-index l.uploads))
      ≡ place_from l.at (id_bytes l.id) (flat_map (λ u. upload_parts (upload_row u)) l.uploads);
}
