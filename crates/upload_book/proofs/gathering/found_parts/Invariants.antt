use Rattle.std.proofs.Common.{◌≡◌, take}
use Rattle.upload_book.specs.Gathering.{parts_of}
use Rattle.upload_book.proofs.gathering.found_parts.Given as goal

-- the parts so far
abbrev pub invariant-loop-listed_part : goal.invariant-loop-listed_part
invariant-loop-listed_part l = l.parts.items ≡ parts_of (take l.listed_part-index l.listed)
