use Rattle.std.proofs.Common.{ℕ, List, ◌++◌, take}
use Rattle.std.specs.Prelude.{map}
use Rattle.std.specs.List.{flat_map}
use Rattle.sha2.specs.Hashers.{Holds256}
use Rattle.manifest_file.specs.Print.{cut_of, cut_bytes}
use Rattle.manifest_file.proofs.print.feed_parts.Given as goal

-- the parts so far were fed
abbrev pub invariant-loop-part : goal.invariant-loop-part
invariant-loop-part l = (before : List ℕ) → Holds256 l.fn.hasher before → Holds256 l.hasher (before ++ flat_map cut_bytes (map cut_of (take l.part-index l.parts)))
