use Rattle.log_laws.proofs.HoldingLemmas.{claims_come, claims_go}
use Rattle.log_laws.proofs.laws.claim_laws.Goals as goal

pub returns-clause-come : goal.returns-clause-come
returns-clause-come g c = claims_come g.D.Drive.tells g.D.Drive.files

pub returns-clause-go : goal.returns-clause-go
returns-clause-go g c = claims_go g.D.Drive.tells g.D.Drive.files
