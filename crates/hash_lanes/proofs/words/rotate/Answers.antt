use Rattle.hash_lanes.proofs.Shifts.{rotated}
use Rattle.hash_lanes.proofs.words.rotate.Goals as goal

pub returns : goal.returns
returns c j low =
    rotated c.args.k _ _ _ _ c.requires.low c.requires.high (c.shift_right.ensures j low) (c.shift_left.ensures j low) (c.or.ensures j low)
