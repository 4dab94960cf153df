use Rattle.hash_lanes.specs.Lanes.{lane}
use Rattle.hash_lanes.proofs.LaneLemmas.{rounds_more}
use Rattle.hash_lanes.proofs.rounds.round_of.Goals as goal

pub returns : goal.returns
returns c j chunk h low window held =
    rounds_more c.args.window.now chunk h (lane j c.args.v) _ j c.args.turn c.args.place c.requires.place window held
    (c.round.ensures j low)
