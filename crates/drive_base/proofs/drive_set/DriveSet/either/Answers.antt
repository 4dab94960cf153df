use Rattle.drive_base.proofs.SetLemmas.{either_bits}
use Rattle.drive_base.proofs.drive_set.DriveSet.either.Goals as goal

-- src/drive_set.rt:70:5
pub returns : goal.returns
returns c = rw (c.self.view_is, c.other.view_is) (either_bits c.args.self c.args.other)
