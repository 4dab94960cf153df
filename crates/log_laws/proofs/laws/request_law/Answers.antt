use Rattle.log_laws.proofs.CompleteLemmas.{request_complete}
use Rattle.log_laws.proofs.laws.request_law.Goals as goal

pub returns : goal.returns
returns g c = request_complete g.D.Drive g.T.Teller.takes g.T.Teller.breaks
    c.manifest_laws.ensures.lengths
