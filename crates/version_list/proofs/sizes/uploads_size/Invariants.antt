use Rattle.std.proofs.Common.{◌≡◌, ◌*◌, ◌≤◌, length, take}
use Rattle.std.specs.Prelude.{map}
use Rattle.std.specs.List.{flat_map}
use Rattle.version_list.specs.Rows.{upload_row}
use Rattle.version_list.specs.Spelling.{upload_bytes}
use Rattle.version_list.proofs.sizes.uploads_size.Given as goal

abbrev pub invariant-loop-upload : goal.invariant-loop-upload
invariant-loop-upload l = (l.size ≤ 400 * l.upload-index) × (l.size ≡ length (flat_map upload_bytes (map upload_row (take l.upload-index l.uploads))))
