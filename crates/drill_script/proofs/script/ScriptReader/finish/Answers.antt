use Rattle.std.proofs.Common.{◌≡◌, ◌+◌, ◌<◌, Some, ap, arith, eqb-true, inl, inr, length, subst, sym, ◌∙◌, ℕ}
use Rattle.drill_script.specs.Reader.{Progress}
use Rattle.drill_script.specs.Scripts.{IsFirstBad}
use Rattle.drill_script.proofs.ReaderLemmas.{above_zero, finds_bad, finds_open, no_bad}
use Rattle.drill_script.proofs.script.ScriptReader.finish.Goals as goal
use Rattle.drill_script.proofs.script.ScriptReader.finish.Goals.{then-is_empty-via-then-is_empty, then-is_empty-via-else-is_empty+then-not-is_empty}

pub returns-in-Some-clause-reads : goal.returns-in-Some-clause-reads
returns-in-Some-clause-reads c = λ bytes read. finds_bad bytes c.args.self c.in-Some.number read (ap (λ (r : Progress). r.bad) (sym c.self.view_is) ∙ c.in-Some.is)

pub returns-then-is_empty-clause-reads : goal.returns-then-is_empty-clause-reads
returns-then-is_empty-clause-reads c = λ bytes read.
    let none = no_bad c.args.self.bad (subst (λ (r : Progress). (n : ℕ) → r.bad ≡ Some n → ⊥) c.self.view_is c.in_default.not-Some) in
    let ok = c.self.inside.lines.ok in
    let whole = c.self.inside.line.ok in
    subst (λ (r : Progress). IsFirstBad bytes (r.ended + 1)) (sym c.self.view_is)
    (elim c.then-is_empty.branch [
      | then-is_empty-via-then-is_empty w ↦
          let zero = eqb-true _ _ (sym c.is_empty.ensures ∙ w.if-is_empty.true) in
          let empty : length c.self.inside.lines.items ≡ 0 = omega arith in
          finds_open bytes c.args.self read none (inr (subst (λ (r : Progress). length r.lines ≡ 0) c.self.view_is empty))
      | then-is_empty-via-else-is_empty+then-not-is_empty w ↦
          let above = above_zero _ _ w.is_empty-else-is_empty.ensures w.if-not-is_empty.true in
          let some : 0 < length c.self.inside.line.items = omega arith in
          finds_open bytes c.args.self read none (inl (subst (λ (r : Progress). 0 < length r.line) c.self.view_is some))
    ])
