use Rattle.span_plan.proofs.SpanLemmas.{plans_one, spans_asked, spans_within, parts_not_empty, refused_none}
use Rattle.span_plan.proofs.ranges.span_laws.Goals as goal

pub returns-clause-one : goal.returns-clause-one
returns-clause-one c = plans_one

pub returns-clause-asked : goal.returns-clause-asked
returns-clause-asked c = spans_asked

pub returns-clause-within : goal.returns-clause-within
returns-clause-within c = spans_within

pub returns-clause-parts : goal.returns-clause-parts
returns-clause-parts c = parts_not_empty

pub returns-clause-refused : goal.returns-clause-refused
returns-clause-refused c = refused_none
