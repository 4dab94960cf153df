use Rattle.receipts.proofs.AskingLemmas.{puts_ask_drives, puts_reach_all, refused_reads_ask_drives}
use Rattle.receipts.proofs.laws.asking_law.Goals as goal

pub returns-clause-puts : goal.returns-clause-puts
returns-clause-puts c = puts_ask_drives

pub returns-clause-reads : goal.returns-clause-reads
returns-clause-reads c = refused_reads_ask_drives

pub returns-clause-all : goal.returns-clause-all
returns-clause-all c = puts_reach_all
