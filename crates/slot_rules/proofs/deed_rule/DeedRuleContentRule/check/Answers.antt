use Rattle.std.proofs.Common.{◌∙◌, ℕ, List, Option, ap, sym}
use Rattle.slot_rules.specs.DeedRules.{deed_fault}
use Rattle.slot_rules.specs.declared.deed_rule.DeedRule.{DeedRule}
use Rattle.slot_rules.proofs.deed_rule.DeedRuleContentRule.check.Goals as goal

pub returns-in-Key-clause-same : goal.returns-in-Key-clause-same
returns-in-Key-clause-same c =
    let fault : DeedRule → List ℕ → Option ℕ = λ rule content. deed_fault rule content in
    c.check.ensures.same ∙ ap fault (sym c.in-Key.is)
