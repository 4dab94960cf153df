use Rattle.slot_history.proofs.OwnLemmas.{made_is_late, own_is_fresh, own_stands}
use Rattle.slot_history.proofs.laws.own_laws.Goals as goal

pub returns-clause-stands : goal.returns-clause-stands
returns-clause-stands c = own_stands c.value_laws.ensures.drawing c.calm_laws.ensures.fresh

pub returns-clause-late : goal.returns-clause-late
returns-clause-late c = made_is_late

pub returns-clause-fresh : goal.returns-clause-fresh
returns-clause-fresh c = own_is_fresh
