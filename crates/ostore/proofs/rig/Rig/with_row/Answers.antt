use Rattle.std.proofs.Common.{rules, refl}
use Rattle.ostore.proofs.RigLemmas.{rig_of}
use Rattle.ostore.proofs.rig.Rig.with_row.Goals as goal

pub returns-clause-rig : goal.returns-clause-rig
returns-clause-rig g c = rig_of c.args.set _ c.args.row refl c.requires.count c.requires.lanes (search rules) c.requires.disks
