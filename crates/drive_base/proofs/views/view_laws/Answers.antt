use Rattle.drive_base.proofs.CallLemmas.{calls_go_on, readings_only_read}
use Rattle.drive_base.proofs.HonestLemmas.{calls_keep_honesty}
use Rattle.drive_base.proofs.ViewLemmas.{untouched_go_on, untouched_are_only_read, two_calls_go_on, two_calls_only_read, only_read_go_on}
use Rattle.drive_base.proofs.views.view_laws.Goals as goal

-- src/views.rt:10:1
pub returns-clause-honesty : goal.returns-clause-honesty
returns-clause-honesty c = calls_keep_honesty

-- src/views.rt:10:1
pub returns-clause-untouched : goal.returns-clause-untouched
returns-clause-untouched c = untouched_go_on

-- src/views.rt:10:1
pub returns-clause-unread : goal.returns-clause-unread
returns-clause-unread c = untouched_are_only_read

-- src/views.rt:10:1
pub returns-clause-two_calls : goal.returns-clause-two_calls
returns-clause-two_calls c = two_calls_go_on

-- src/views.rt:10:1
pub returns-clause-two_reads : goal.returns-clause-two_reads
returns-clause-two_reads c = two_calls_only_read

-- src/views.rt:10:1
pub returns-clause-reads : goal.returns-clause-reads
returns-clause-reads c = only_read_go_on

-- src/views.rt:10:1
pub returns-clause-calls : goal.returns-clause-calls
returns-clause-calls c = calls_go_on

-- src/views.rt:10:1
pub returns-clause-readings : goal.returns-clause-readings
returns-clause-readings c = readings_only_read
