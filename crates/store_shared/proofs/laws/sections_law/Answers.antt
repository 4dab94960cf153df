use Rattle.store_shared.proofs.SectionLemmas.{answers_have_sections, sections_lead}
use Rattle.store_shared.proofs.laws.sections_law.Goals as goal

pub returns-clause-have : goal.returns-clause-have
returns-clause-have g c = answers_have_sections g.D.Drive g.A.Audit.entries g.A.Audit.count c.shared_answers_law.ensures

pub returns-clause-lead : goal.returns-clause-lead
returns-clause-lead g c = sections_lead g.D.Drive g.A.Audit.entries g.A.Audit.count
