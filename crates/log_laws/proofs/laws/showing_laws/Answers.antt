use Rattle.op_steps.proofs.LeadingLemmas.{leads_stay, showing_joins}
use Rattle.log_laws.proofs.ShowingLemmas.{all_lead_join, showing_parts, showing_runs}
use Rattle.log_laws.proofs.laws.showing_laws.Goals as goal

pub returns-clause-runs : goal.returns-clause-runs
returns-clause-runs c = showing_runs

pub returns-clause-join : goal.returns-clause-join
returns-clause-join c = showing_joins

pub returns-clause-parts : goal.returns-clause-parts
returns-clause-parts c = showing_parts

pub returns-clause-stay : goal.returns-clause-stay
returns-clause-stay c = leads_stay

pub returns-clause-all : goal.returns-clause-all
returns-clause-all c = all_lead_join
