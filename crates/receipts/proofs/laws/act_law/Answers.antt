use Rattle.receipts.proofs.ActLemmas.{notes_are_owed, receipt_shows_act}
use Rattle.receipts.proofs.laws.act_law.Goals as goal

pub returns-clause-act : goal.returns-clause-act
returns-clause-act c = receipt_shows_act

pub returns-clause-notes : goal.returns-clause-notes
returns-clause-notes c = notes_are_owed
