use Rattle.std.proofs.Common.{ℕ, List, ◌++◌, take, drop}
use Rattle.s3_docs.specs.Machine.{Holder, Name}
use Rattle.s3_docs.specs.Reads.{Reads}
use Rattle.s3_docs.proofs.elements.name_length.Given as goal

abbrev pub invariant-loop-i : goal.invariant-loop-i
invariant-loop-i l =
    (holder : Holder) (name : List ℕ) → Reads (Name holder name) l.text (Name holder (name ++ take l.i l.text)) (drop l.i l.text)
