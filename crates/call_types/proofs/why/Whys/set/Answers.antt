use Rattle.std.proofs.Common.{◌<◌, List, length, set, subst, sym, ap, ◌∙◌}
use Rattle.call_types.specs.declared.why.Why.{Why}
use Rattle.call_types.proofs.WhysLemmas.{IsOneForEach-set, shown_whys-set}
use Rattle.call_types.proofs.why.Whys.set.Goals as goal

pub invariant_of-self : goal.invariant_of-self
invariant_of-self c =
    let P : List Why → Type 0 = λ xs. c.args.drive < length xs in
    IsOneForEach-set c.self.inside c.self.invariant c.args.drive c.args.why (subst P (sym c.self.view_is) c.requires)

pub returns : goal.returns
returns c =
    let P : List Why → Type 0 = λ xs. c.args.drive < length xs in
    shown_whys-set c.self.inside c.self.invariant c.args.drive c.args.why (subst P (sym c.self.view_is) c.requires)
    ∙ ap (λ xs. set xs c.args.drive c.args.why) c.self.view_is
