use Rattle.std.proofs.Common.{◌≡◌, take}
use Rattle.upload_book.specs.Joining.{joined_length}
use Rattle.upload_book.proofs.joining.length_of_parts.Given as goal

-- the length of the parts so far
abbrev pub invariant-loop-part : goal.invariant-loop-part
invariant-loop-part l = l.total ≡ joined_length (take l.part-index l.parts)
