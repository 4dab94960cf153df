use Rattle.std.proofs.Common.{◌≡◌, ◌++◌, take}
use Rattle.std.specs.Prelude.{map}
use Rattle.std.specs.List.{flat_map}
use Rattle.version_list.specs.Rows.{version_row}
use Rattle.version_list.specs.Spelling.{version_bytes}
use Rattle.version_list.proofs.writing.put_versions.Given as goal

abbrev pub invariant-loop-version : goal.invariant-loop-version
invariant-loop-version l = l.out.items ≡ l.fn.out.items ++ flat_map version_bytes (map version_row (take l.version-index l.versions))
