use Rattle.hash_lanes.proofs.Shifts.{shifted}
use Rattle.hash_lanes.proofs.words.shift_left.Goals as goal

pub returns : goal.returns
returns c j low = shifted _ c.args.k c.args.x c.fits-x.0 j low
