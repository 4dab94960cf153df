use Rattle.drill_script.proofs.OneLemmas.{none_is_bad, one_is_first, spell_one}
use Rattle.drill_script.proofs.script.script_laws.Goals as goal

pub returns-clause-one : goal.returns-clause-one
returns-clause-one c = spell_one c.spelling_laws.ensures.text

pub returns-clause-never_both : goal.returns-clause-never_both
returns-clause-never_both c = none_is_bad c.spelling_laws.ensures.text

pub returns-clause-first : goal.returns-clause-first
returns-clause-first c = one_is_first c.spelling_laws.ensures.text
