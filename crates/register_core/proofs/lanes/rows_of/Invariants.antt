use Rattle.std.proofs.Common.{◌≡◌, map, take}
use Rattle.register_core.specs.Records.{row_of}
use Rattle.register_core.proofs.lanes.rows_of.Given as goal

-- the rows of the files so far
abbrev pub invariant-loop-file : goal.invariant-loop-file
invariant-loop-file l = l.rows.items ≡ map row_of (take l.file-index l.files)
