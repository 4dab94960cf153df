use Rattle.ostore.proofs.LifeLemmas.{lives_are_complete, lives_go_on}
use Rattle.ostore.proofs.RefusalLemmas.{refusals_leave}
use Rattle.ostore.proofs.laws.life_law.Goals as goal

pub returns-clause-lives : goal.returns-clause-lives
returns-clause-lives g c = lives_go_on g.D.Drive g.A.Audit.entries g.A.Audit.count c.calls_law.ensures c.pass_law.ensures c.opened_law.ensures.opened
    c.opened_law.ensures.kept c.opened_law.ensures.closed

pub returns-clause-complete : goal.returns-clause-complete
returns-clause-complete g c = lives_are_complete g.D.Drive g.A.Audit.entries g.A.Audit.count c.requests_law.ensures c.pass_law.ensures c.opened_law.ensures.opened

pub returns-clause-refused : goal.returns-clause-refused
returns-clause-refused g c = refusals_leave g.D.Drive g.A.Audit.entries g.A.Audit.count c.opened_law.ensures.tried
