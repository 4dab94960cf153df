use Rattle.slot_rules.proofs.SizeLemmas.{bucket_short}
use Rattle.slot_rules.proofs.rules.read_bucket.Goals as goal

pub returns-in-Ok-clause-within : goal.returns-in-Ok-clause-within
returns-in-Ok-clause-within c = bucket_short c.args.content.now c.in-Ok.row c.in-Ok.ensures.outcome.1
