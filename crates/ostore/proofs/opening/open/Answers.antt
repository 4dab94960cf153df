use Rattle.std.proofs.Common.{ap, length, refl}
use Rattle.ostore.proofs.ShutLemmas.{nothing_opened, only_row}
use Rattle.ostore.proofs.opening.open.Goals as goal

pub returns-in_default : goal.returns-in_default
returns-in_default g c =
    let row = c.requires.fits.row in
    nothing_opened g.D.Drive g.A.Audit.entries g.A.Audit.count c.args.rig (record { disks = row.row; slots = c.args.rig.slots })
    (record { slots = refl; disks = row.rows })

pub returns : goal.returns
returns g c = c.open_over.ensures c.args.rig refl (record {
  slots = refl;
  disks = only_row c.args.rig.data.items c.pop.new.self.items c.in-Some.disks (ap length c.requires.fits.row.rows) c.in-Some.ensures.items;
})
