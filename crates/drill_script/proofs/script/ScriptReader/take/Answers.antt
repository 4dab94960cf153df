use Rattle.std.proofs.Common.{List, subst, ◌++◌, ℕ}
use Rattle.std.proofs.lemmas.List.{take_all}
use Rattle.drill_script.specs.Reader.{HasRead}
use Rattle.drill_script.proofs.script.ScriptReader.take.Goals as goal

pub returns : goal.returns
returns c = λ bytes read. subst (λ (piece : List ℕ). HasRead (bytes ++ piece) c.loop-byte.self) (take_all c.loop-byte.byte-index c.args.piece.now c.loop-byte-test.false) (c.loop-byte.invariant bytes read)
