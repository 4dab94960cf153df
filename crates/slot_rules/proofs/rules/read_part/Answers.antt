use Rattle.slot_rules.proofs.PartLemmas.{part_short}
use Rattle.slot_rules.proofs.rules.read_part.Goals as goal

pub returns-in-Ok-clause-within : goal.returns-in-Ok-clause-within
returns-in-Ok-clause-within c = part_short c.args.content.now c.in-Ok.row c.in-Ok.ensures.outcome.0 c.in-Ok.ensures.outcome.1
