use Rattle.desk_base.proofs.TellingLemmas.{refusal_serves}
use Rattle.trial_wire.proofs.desk_rows.ClosedDesk.call.Goals as goal

pub returns-clause-serves : goal.returns-clause-serves
returns-clause-serves g c = refusal_serves _ _ _ _ _ _ _ _ _ _ c.head.ensures.tells c.head.ensures.cause
