use Rattle.version_list.proofs.LawProofs.{no_fault, faultless, injective}
use Rattle.version_list.proofs.reading.state_laws.Goals as goal

pub returns-clause-spelled : goal.returns-clause-spelled
returns-clause-spelled c = no_fault

pub returns-clause-faultless : goal.returns-clause-faultless
returns-clause-faultless c = faultless

pub returns-clause-injective : goal.returns-clause-injective
returns-clause-injective c = injective
