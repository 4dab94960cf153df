use Rattle.http_wire.proofs.ExclusionLemmas.{heads_exclude}
use Rattle.http_wire.proofs.StayLemmas.{heads_stay}
use Rattle.http_wire.proofs.judging.head_laws.Goals as goal

pub returns-clause-exclude : goal.returns-clause-exclude
returns-clause-exclude c = heads_exclude

pub returns-clause-stay : goal.returns-clause-stay
returns-clause-stay c = heads_stay
