use Rattle.std.proofs.Common.{◌≡◌, ◌++◌, take}
use Rattle.std.specs.Prelude.{map}
use Rattle.std.specs.List.{flat_map}
use Rattle.manifest_file.specs.Rows.{part_row}
use Rattle.manifest_file.specs.Spelling.{part_bytes}
use Rattle.manifest_file.proofs.writing.put_parts.Given as goal

abbrev pub invariant-loop-part : goal.invariant-loop-part
invariant-loop-part l = l.out.items ≡ l.fn.out.items ++ flat_map part_bytes (map part_row (take l.part-index l.parts))
