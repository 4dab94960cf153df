use Rattle.std.proofs.Common.{All, List, ap, refl, subst, sym, ◌∙◌, ℕ}
use Rattle.std.specs.Borrow.{Bor}
use Rattle.drill_script.specs.Lines.{IsWord, texts_of}
use Rattle.drill_script.proofs.WordLemmas.{no_words, text_answered}
use Rattle.drill_script.proofs.next.line_of.Goals as goal

pub returns-then-not-are_words : goal.returns-then-not-are_words
returns-then-not-are_words c = no_words c.args.text.now (texts_of c.as_slice.result.now) (ap texts_of c.as_slice.ensures.value ∙ c.in_ok-words.ensures) c.if-not-are_words.ensures.1

pub returns : goal.returns
returns c =
    let same = c.as_slice.ensures.value ∙ sym c.as_slice-2.ensures.value in
    let all : All IsWord (texts_of c.as_slice-2.result.now) = subst (λ (words : List (Bor (List ℕ))). All IsWord (texts_of words)) same (c.if-not-are_words.ensures.0 refl) in
    text_answered c.args.text.now (texts_of c.as_slice-2.result.now) c.line_of_words.result (ap texts_of c.as_slice-2.ensures.value ∙ c.in_ok-words.ensures) all c.line_of_words.ensures
