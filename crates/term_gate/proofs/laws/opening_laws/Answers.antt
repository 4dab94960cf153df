use Rattle.term_gate.proofs.CompleteLemmas.{complete}
use Rattle.term_gate.proofs.FormatStayLemmas.{formats_stay}
use Rattle.term_gate.proofs.StayLemmas.{terms_stay}
use Rattle.term_gate.proofs.laws.opening_laws.Goals as goal

pub returns-clause-complete : goal.returns-clause-complete
returns-clause-complete c = complete

pub returns-clause-terms : goal.returns-clause-terms
returns-clause-terms c = terms_stay

pub returns-clause-formats : goal.returns-clause-formats
returns-clause-formats c = formats_stay
