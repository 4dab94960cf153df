use Rattle.slot_history.proofs.RunLemmas.{applied_once, dead_stays_dead, runs_join, runs_stay_lawful, sections_run}
use Rattle.slot_history.proofs.laws.run_laws.Goals as goal

pub returns-clause-section : goal.returns-clause-section
returns-clause-section c = sections_run

pub returns-clause-join : goal.returns-clause-join
returns-clause-join c = runs_join

pub returns-clause-lawful : goal.returns-clause-lawful
returns-clause-lawful c = runs_stay_lawful

pub returns-clause-once : goal.returns-clause-once
returns-clause-once c = applied_once

pub returns-clause-dead : goal.returns-clause-dead
returns-clause-dead c = dead_stays_dead
