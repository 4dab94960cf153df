use Rattle.log_laws.proofs.CompleteLemmas.{calls_complete}
use Rattle.log_laws.proofs.laws.requests_law.Goals as goal

pub returns : goal.returns
returns g c set = calls_complete g.D.Drive c.manifest_laws.ensures.lengths set
