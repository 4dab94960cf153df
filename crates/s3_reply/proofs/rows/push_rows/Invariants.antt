use Rattle.std.proofs.Common.{◌≡◌, ◌++◌, map, take}
use Rattle.s3_reply.specs.Documents.{version_content}
use Rattle.s3_reply.specs.Xml.{printed, joined}
use Rattle.s3_reply.proofs.rows.push_rows.Given as goal

abbrev pub invariant-loop-row : goal.invariant-loop-row
invariant-loop-row l = l.out.items ≡ l.initial.out.items ++ printed (joined (map (version_content l.encoded) (take l.row-index l.rows)))
