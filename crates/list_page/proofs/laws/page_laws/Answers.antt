use Rattle.list_page.proofs.FrontLemmas.{row_begins}
use Rattle.list_page.proofs.GroupLemmas.{group_stays}
use Rattle.list_page.proofs.RowLemmas.{rows_are_of, rows_grow, rows_of_more}
use Rattle.list_page.proofs.StartLemmas.{first_in_range, first_is_first, wanted_is}
use Rattle.list_page.proofs.TextLemmas.{begins_front, begins_rest}
use Rattle.list_page.proofs.TimeLemmas.{page_on_time}
use Rattle.list_page.proofs.laws.page_laws.Goals as goal

pub returns-clause-first : goal.returns-clause-first
returns-clause-first c = first_is_first

pub returns-clause-first_in_range : goal.returns-clause-first_in_range
returns-clause-first_in_range c = first_in_range

pub returns-clause-begins : goal.returns-clause-begins
returns-clause-begins c = begins_rest

pub returns-clause-front : goal.returns-clause-front
returns-clause-front c = begins_front

pub returns-clause-in_range : goal.returns-clause-in_range
returns-clause-in_range c = λ rule key wanted. (wanted_is rule key wanted).begins

pub returns-clause-of_candidates : goal.returns-clause-of_candidates
returns-clause-of_candidates c = rows_are_of

pub returns-clause-on_time : goal.returns-clause-on_time
returns-clause-on_time c = page_on_time

pub returns-clause-group_stays : goal.returns-clause-group_stays
returns-clause-group_stays c = group_stays

pub returns-clause-row_name : goal.returns-clause-row_name
returns-clause-row_name c = row_begins

pub returns-clause-of_more : goal.returns-clause-of_more
returns-clause-of_more c = rows_of_more

pub returns-clause-grow : goal.returns-clause-grow
returns-clause-grow c = rows_grow
