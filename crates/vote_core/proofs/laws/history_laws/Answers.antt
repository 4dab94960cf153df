use Rattle.vote_core.proofs.Marking.{mark_kills}
use Rattle.vote_core.proofs.Resting.{dead_is_never_pending, dead_stays_dead}
use Rattle.vote_core.proofs.Sections.{section_keeps}
use Rattle.vote_core.proofs.laws.history_laws.Goals as goal

pub returns-clause-pending : goal.returns-clause-pending
returns-clause-pending c = dead_is_never_pending

pub returns-clause-stays : goal.returns-clause-stays
returns-clause-stays c = dead_stays_dead

pub returns-clause-mark : goal.returns-clause-mark
returns-clause-mark c = mark_kills

pub returns-clause-section : goal.returns-clause-section
returns-clause-section c = section_keeps
