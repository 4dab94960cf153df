use Rattle.std.specs.Int.{IsBitSet}
use Rattle.register_core.proofs.ServingLemmas.{good_letters_count, no_file_is_blank, serving_lane_is_read}
use Rattle.register_core.proofs.lanes.lane_laws.Goals as goal

pub returns-clause-read : goal.returns-clause-read
returns-clause-read c = λ longest out k name read why tells files old new lane.
    serving_lane_is_read c.file_laws.ensures.read c.file_laws.ensures.lengths longest name read why (IsBitSet out k) tells files old new lane

pub returns-clause-counted : goal.returns-clause-counted
returns-clause-counted c = good_letters_count

pub returns-clause-blank : goal.returns-clause-blank
returns-clause-blank c = no_file_is_blank
