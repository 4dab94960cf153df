use Rattle.std.proofs.Common.{◌≡◌, ◌*◌, ◌≤◌, length, take}
use Rattle.std.specs.Prelude.{map}
use Rattle.std.specs.List.{flat_map}
use Rattle.version_list.specs.Rows.{version_row}
use Rattle.version_list.specs.Spelling.{version_bytes}
use Rattle.version_list.proofs.sizes.versions_size.Given as goal

abbrev pub invariant-loop-version : goal.invariant-loop-version
invariant-loop-version l = (l.size ≤ 400 * l.version-index) × (l.size ≡ length (flat_map version_bytes (map version_row (take l.version-index l.versions))))
