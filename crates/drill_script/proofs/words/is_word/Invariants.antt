use Rattle.std.proofs.Common.{All, take}
use Rattle.drill_script.specs.Lines.{IsWordByte}
use Rattle.drill_script.proofs.words.is_word.Given as goal

abbrev pub invariant-loop-byte : goal.invariant-loop-byte
invariant-loop-byte l = All IsWordByte (take l.byte-index l.byte-items)
