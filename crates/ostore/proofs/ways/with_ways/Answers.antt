use Rattle.std.proofs.Common.{◌≡◌, ◌∙◌, ap, length, subst, sym}
use Rattle.ostore.proofs.ShutLemmas.{only_row}
use Rattle.ostore.proofs.WayLemmas.{as_many_slots, as_many_ways, first_long, lanes_long, rig_over}
use Rattle.ostore.proofs.ways.with_ways.Goals as goal

pub with_row-requires-clause-count : goal.with_row-requires-clause-count
with_row-requires-clause-count g c = as_many_slots g.D.Drive _ c.args.rig.slots.items c.in_ok-home.home.items c.in_ok-home.ensures ∙ c.requires.fits.slots

pub with_row-requires-clause-lanes : goal.with_row-requires-clause-lanes
with_row-requires-clause-lanes g c = lanes_long g.D.Drive _ c.args.rig.slots.items c.in_ok-home.home.items _ c.in_ok-home.ensures c.requires.fits.lanes

pub with_row-requires-clause-disks : goal.with_row-requires-clause-disks
with_row-requires-clause-disks g c =
    let row = c.requires.fits.row in
    let one = only_row c.args.rig.data.items c.pop.new.self.items c.in-Some.disks (ap length row.rows) c.in-Some.ensures.items in
    as_many_ways g.D.Drive _ c.in-Some.disks.items c.in_ok-row.row.items c.in_ok-row.ensures
    ∙ (ap first_long (sym one ∙ row.rows) ∙ row.disks)

pub returns-clause-same : goal.returns-clause-same
returns-clause-same g c =
    let row = c.requires.fits.row in
    let one = only_row c.args.rig.data.items c.pop.new.self.items c.in-Some.disks (ap length row.rows) c.in-Some.ensures.items in
    rig_over g.D.Drive _ c.args.rig c.in-Some.disks c.in_ok-home.home.items c.in_ok-row.row c.with_row.result one c.in_ok-home.ensures c.in_ok-row.ensures
    c.with_row.ensures.rig c.with_row.ensures.slots c.with_row.ensures.row
