use Rattle.upload_book.proofs.GatherLemmas.{rising_few, checks_first, found_all}
use Rattle.upload_book.proofs.gathering.gather_laws.Goals as goal

pub returns-clause-few : goal.returns-clause-few
returns-clause-few c = rising_few

pub returns-clause-first : goal.returns-clause-first
returns-clause-first c = checks_first

pub returns-clause-all : goal.returns-clause-all
returns-clause-all c = found_all
