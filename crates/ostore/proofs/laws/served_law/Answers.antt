use Rattle.ostore.proofs.ServedLifeLemmas.{serves_life}
use Rattle.ostore.proofs.laws.served_law.Goals as goal

pub returns : goal.returns
returns g c = λ moment clock rig doors faults faults_after ended served.
    serves_life _ _ g.D.Drive g.D.Share.root g.A.Audit.entries g.A.Audit.count _ _ _ c.sections_law.ensures.have c.trails_law.ensures.shared
    c.sections_law.ensures.lead c.slot_law.ensures moment clock rig doors faults faults_after ended served
