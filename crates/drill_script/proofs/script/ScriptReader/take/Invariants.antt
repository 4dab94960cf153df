use Rattle.std.proofs.Common.{List, take, ◌++◌, ℕ}
use Rattle.drill_script.specs.Reader.{HasRead}
use Rattle.drill_script.proofs.script.ScriptReader.take.Given as goal

abbrev pub invariant-loop-byte : goal.invariant-loop-byte
invariant-loop-byte l = (bytes : List ℕ) → HasRead bytes l.fn.self → HasRead (bytes ++ take l.byte-index l.piece) l.self
