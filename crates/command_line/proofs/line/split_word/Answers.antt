use Rattle.std.proofs.Common.{◌≡◌, ◌∙◌, ◌++◌, ℕ, List, codes, ap, sym, arith, Some, None}
use Rattle.std.proofs.lemmas.Str.Pattern.{split_parts}
use Rattle.command_line.proofs.WordLemmas.{split_at, split_whole}
use Rattle.command_line.proofs.line.split_word.Goals as goal

pub returns-in-Some-split_once : goal.returns-in-Some-split_once
returns-in-Some-split_once c =
    let s = c.in-Some.ensures.cases in
    let is : c.args.word.now ≡ codes "--" ++ c.in-Some.text.now = s.1.1 ∙ ap (λ (t : List ℕ). codes "--" ++ t) (sym s.2) in
    let parts = split_parts 61 c.in-Some.text.now (Some (c.in-Some-split_once.name, c.in-Some-split_once.value)) c.in-Some-split_once.ensures.cases (omega arith) in
    split_at _ _ _ _ is parts.0 parts.1

pub returns-in-None : goal.returns-in-None
returns-in-None c =
    let s = c.in-Some.ensures.cases in
    let is : c.args.word.now ≡ codes "--" ++ c.in-Some.text.now = s.1.1 ∙ ap (λ (t : List ℕ). codes "--" ++ t) (sym s.2) in
    let none = split_parts 61 c.in-Some.text.now None c.in-None.ensures.cases (omega arith) in
    split_whole _ _ is none
