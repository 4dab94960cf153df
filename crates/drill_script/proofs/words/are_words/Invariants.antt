use Rattle.std.proofs.Common.{All, List, take, ℕ}
use Rattle.std.specs.Borrow.{Bor}
use Rattle.drill_script.specs.Lines.{IsWord}
use Rattle.drill_script.proofs.words.are_words.Given as goal

abbrev pub invariant-loop-text : goal.invariant-loop-text
invariant-loop-text l = All (λ (text : Bor (List ℕ)). IsWord text.now) (take l.text-index l.texts)
