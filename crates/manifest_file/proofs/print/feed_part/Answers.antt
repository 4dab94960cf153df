use Rattle.std.proofs.Common.{ℕ, List, ◌++◌, append_assoc, subst}
use Rattle.std.specs.Int.{w64, to_be_bytes}
use Rattle.sha2.specs.Hashers.{Holds256}
use Rattle.field_reader.specs.Spelling.{number_bytes}
use Rattle.manifest_file.specs.Spelling.{roots_bytes}
use Rattle.manifest_file.proofs.print.feed_part.Goals as goal

pub returns : goal.returns
unfolding number_bytes
returns c = λ before holds.
    let size = to_be_bytes w64 c.args.part.now.length in
    let first : Holds256 c.update.new.self (before ++ size) = rw c.to_be_bytes.ensures at (c.update.ensures before holds) in
    let all = rw c.as_slice.ensures at (c.feed_roots.ensures (before ++ size) first) in
    subst (λ (m : List ℕ). Holds256 c.feed_roots.new.hasher m) (append_assoc before size (roots_bytes c.args.part.now.roots)) all
