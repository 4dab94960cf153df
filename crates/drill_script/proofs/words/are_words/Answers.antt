use Rattle.std.proofs.Common.{All, List, refl, subst, ℕ}
use Rattle.std.specs.Borrow.{Bor}
use Rattle.std.proofs.lemmas.List.{take_all}
use Rattle.std.proofs.lemmas.List.Elements.{All-more}
use Rattle.drill_script.specs.Lines.{IsWord}
use Rattle.drill_script.proofs.WordLemmas.{all_words, one_other}
use Rattle.drill_script.proofs.words.are_words.Goals as goal

pub returns-then-not-is_word : goal.returns-then-not-is_word
returns-then-not-is_word c = ((λ so. absurd cc), (λ all. one_other _ _ _ c.loop-text-test.true c.if-not-is_word.ensures.1 all))

pub loop-text-preserved : goal.loop-text-preserved
loop-text-preserved c = All-more (λ (text : Bor (List ℕ)). IsWord text.now) _ _ _ c.loop-text-test.true c.loop-text.invariant (c.if-not-is_word.ensures.0 refl)

pub returns : goal.returns
returns c =
    let whole = take_all c.loop-text.text-index c.args.texts.now c.loop-text-test.false in
    ((λ so. all_words c.args.texts.now (subst (All (λ (text : Bor (List ℕ)). IsWord text.now)) whole c.loop-text.invariant)), (λ all. refl))
