use Rattle.slot_rules.proofs.SizeLemmas.{content_short}
use Rattle.slot_rules.proofs.rules.read_key.Goals as goal

pub returns-in-None-place_in-clause-within : goal.returns-in-None-place_in-clause-within
returns-in-None-place_in-clause-within c = content_short c.args.content.now c.in-Ok.state c.in-Ok.ensures.found.0 c.in-Ok.ensures.found.1
