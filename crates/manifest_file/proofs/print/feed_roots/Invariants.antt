use Rattle.std.proofs.Common.{ℕ, List, ◌++◌, take}
use Rattle.sha2.specs.Hashers.{Holds256}
use Rattle.manifest_file.specs.Spelling.{roots_bytes}
use Rattle.manifest_file.proofs.print.feed_roots.Given as goal

-- the roots so far were fed
abbrev pub invariant-loop-root : goal.invariant-loop-root
invariant-loop-root l = (before : List ℕ) → Holds256 l.fn.hasher before → Holds256 l.hasher (before ++ roots_bytes (take l.root-index l.roots))
