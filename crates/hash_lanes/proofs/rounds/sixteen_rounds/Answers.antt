use Rattle.std.proofs.Common.{ap, ◌∙◌, arith}
use Rattle.sha2.specs.Sha256.{rounds, schedule}
use Rattle.hash_lanes.proofs.rounds.sixteen_rounds.Goals as goal

pub returns : goal.returns
returns c j chunk h low window held =
    let after = rounds h (schedule chunk 48) in
    let first = c.four_rounds-v.ensures j chunk h low window (held ∙ ap after (omega arith)) in
    let second = c.four_rounds-v-2.ensures j chunk h low window first in
    let third = c.four_rounds-v-3.ensures j chunk h low window second in
    c.four_rounds.ensures j chunk h low window third
