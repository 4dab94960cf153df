use Rattle.std.proofs.Common.{◌∙◌, Some, ap, sym}
use Rattle.call_types.specs.declared.version.PartRecord.{PartRecord}
use Rattle.slot_rules.proofs.PartLemmas.{same_part}
use Rattle.slot_rules.proofs.planning.is_stored.Goals as goal

pub returns-in-Some-clause-yes : goal.returns-in-Some-clause-yes
returns-in-Some-clause-yes c same =
    c.in-Some.is ∙ ap (λ (p : PartRecord). Some p) (same_part c.in-Some.there c.args.stored.now (sym c.eq.ensures ∙ same))
