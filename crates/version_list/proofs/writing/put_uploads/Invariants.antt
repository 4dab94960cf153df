use Rattle.std.proofs.Common.{◌≡◌, ◌++◌, take}
use Rattle.std.specs.Prelude.{map}
use Rattle.std.specs.List.{flat_map}
use Rattle.version_list.specs.Rows.{upload_row}
use Rattle.version_list.specs.Spelling.{upload_bytes}
use Rattle.version_list.proofs.writing.put_uploads.Given as goal

abbrev pub invariant-loop-upload : goal.invariant-loop-upload
invariant-loop-upload l = l.out.items ≡ l.fn.out.items ++ flat_map upload_bytes (map upload_row (take l.upload-index l.uploads))
