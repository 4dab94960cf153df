use Rattle.std.proofs.Common.{◌++◌}
use Rattle.receipts.proofs.GrowLemmas.{quiet_grows, quiet_notes}
use Rattle.receipts.proofs.OweLemmas.{call_owes}
use Rattle.receipts.proofs.PayLemmas.{quiet_pays}
use Rattle.receipts.proofs.laws.quiet_law.Goals as goal

pub returns-clause-notes : goal.returns-clause-notes
returns-clause-notes c = quiet_notes

pub returns-clause-reply : goal.returns-clause-reply
returns-clause-reply c = λ set task reply log more quiet owed. call_owes set task.call task.now reply log (log ++ more) (quiet_grows log more quiet) owed

pub returns-clause-pays : goal.returns-clause-pays
returns-clause-pays c = quiet_pays
