use Rattle.std.proofs.Common.{bit_xor}
use Rattle.code_lanes.proofs.LaneLemmas.{HasLanes-zip2}
use Rattle.code_lanes.proofs.lanes.add.Goals as goal

pub returns : goal.returns
returns c = HasLanes-zip2 bit_xor c.args.a c.args.b c.fits-a.0 c.fits-b.0
