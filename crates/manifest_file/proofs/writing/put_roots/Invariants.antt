use Rattle.std.proofs.Common.{◌≡◌, ◌++◌, take}
use Rattle.manifest_file.specs.Spelling.{roots_bytes}
use Rattle.manifest_file.proofs.writing.put_roots.Given as goal

abbrev pub invariant-loop-root : goal.invariant-loop-root
invariant-loop-root l = l.out.items ≡ l.fn.out.items ++ roots_bytes (take l.root-index l.roots)
