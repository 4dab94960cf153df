use Rattle.std.proofs.Common.{take}
use Rattle.md5.specs.Md5.{Holds}
use Rattle.upload_book.specs.Joining.{joined_md5s}
use Rattle.upload_book.proofs.joining.md5_of_parts.Given as goal

-- the hasher holds the MD5s of the parts so far
abbrev pub invariant-loop-part : goal.invariant-loop-part
invariant-loop-part l = Holds l.hasher (joined_md5s (take l.part-index l.parts))
