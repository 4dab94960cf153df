use Rattle.std.proofs.Common.{◌∙◌, ap}
use Rattle.std.specs.Prelude.{Bool, not}
use Rattle.register_core.proofs.FoundLemmas.{settled_decides}
use Rattle.register_core.proofs.looks.is_settled.Goals as goal

pub returns-then-is_none : goal.returns-then-is_none
returns-then-is_none c =
    settled_decides c.args.file.now c.in-Some.file c.args.base.now c.eq.result c.in-Some.is
    (c.is_none.ensures ∙ ap (λ (b : Bool). not b) c.if-is_none.true) c.eq.ensures
