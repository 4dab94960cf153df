use Rattle.log_laws.proofs.RefusingLemmas.{bars_have, calls_were_made, calls_were_so, events_took_place, refusals_have}
use Rattle.op_steps.specs.Store.{any_effect}
use Rattle.log_laws.proofs.laws.cause_law.Goals as goal

pub returns-clause-took_place : goal.returns-clause-took_place
returns-clause-took_place g c = events_took_place g.D.Drive any_effect any_effect

pub returns-clause-refused : goal.returns-clause-refused
returns-clause-refused g c = refusals_have g.D.Drive any_effect any_effect

pub returns-clause-barred : goal.returns-clause-barred
returns-clause-barred g c = bars_have g.D.Drive any_effect any_effect

pub returns-clause-made : goal.returns-clause-made
returns-clause-made g c = calls_were_made g.D.Drive any_effect any_effect

pub returns-clause-called : goal.returns-clause-called
returns-clause-called g c = calls_were_so g.D.Drive any_effect any_effect
