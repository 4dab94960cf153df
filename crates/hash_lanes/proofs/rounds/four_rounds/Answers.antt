use Rattle.std.proofs.Common.{ap, ◌∙◌, arith}
use Rattle.sha2.specs.Sha256.{rounds, schedule}
use Rattle.hash_lanes.proofs.rounds.four_rounds.Goals as goal

pub returns : goal.returns
returns c j chunk h low window held =
    let after = rounds h (schedule chunk 48) in
    let first = c.round_of-v.ensures j chunk h low window held in
    let second = c.round_of-v-2.ensures j chunk h low window first in
    let third = c.round_of-v-3.ensures j chunk h low window (second ∙ ap after (omega arith)) in
    c.round_of.ensures j chunk h low window (third ∙ ap after (omega arith)) ∙ ap after (omega arith)
