use Rattle.std.proofs.Common.{◌≡◌, min, take}
use Rattle.get_read.specs.Causes.{body_length}
use Rattle.get_read.proofs.search.length_of.Given as goal

-- the length of the parts so far, or the greatest number
abbrev pub invariant-loop-part : goal.invariant-loop-part
invariant-loop-part l = l.long ≡ min (body_length (take l.part-index l.parts)) 18446744073709551615
