use Rattle.std.proofs.Common.{◌∙◌}
use Rattle.drive_base.specs.View.{views}
use Rattle.op_steps.specs.Store.{teller_of}
use Rattle.store_shared.specs.Among.{passes_seen}
use Rattle.store_shared.specs.SharedPasses.{drives_of, passes_in, set_held, shared_holds}
use Rattle.store_shared.proofs.SharedLemmas.{shared_cause, shared_serves}
use Rattle.store_shared.proofs.shared_desk.SharedDeskOpDesk.serve_op.Goals as goal

pub work_on-served-requires-clause-fits : goal.work_on-served-requires-clause-fits
work_on-served-requires-clause-fits g c =
    record { set_is = c.requires.set ∙ c.requires.fits.set; count = c.args.pass.now.count; locks = c.requires.fits.locks }

pub returns-clause-serves : goal.returns-clause-serves
returns-clause-serves g c =
    shared_serves g.D.Drive g.A.Audit.entries g.A.Audit.count g.T.Teller.takes g.T.Teller.breaks
    (record { view = g.F.Feed.seen c.args.feed.now; faults = g.F.Feed.faults c.args.feed.now })
    (record { view = g.F.Feed.seen c.work_on-served.new.feed; faults = g.F.Feed.faults c.work_on-served.new.feed })
    (teller_of c.args.teller.now (g.T.Teller.faults c.args.teller.now))
    (teller_of c.work_on-served.new.teller (g.T.Teller.faults c.work_on-served.new.teller))
    (record { call = c.args.call.now; now = c.args._now }) c.receipt_of.result c.args.pass.now _ (g.O.Op.set c.args.op.now) c.work_on-served.result c.requires.begins.0 c.requires.set
    c.requires.begins.1 (c.work_on-served.ensures.done c.requires.begins.0 (record { call = c.args.call.now; now = c.args._now }) c.requires.pays c.requires.begins.2) c.receipt_of.ensures

pub returns-clause-cause : goal.returns-clause-cause
returns-clause-cause g c =
    shared_cause g.D.Drive g.A.Audit.entries g.A.Audit.count g.T.Teller.takes g.T.Teller.breaks (set_held (shared_holds c.args.pass.now))
    (record { view = g.F.Feed.seen c.args.feed.now; faults = g.F.Feed.faults c.args.feed.now })
    (record { view = g.F.Feed.seen c.work_on-served.new.feed; faults = g.F.Feed.faults c.work_on-served.new.feed })
    (teller_of c.args.teller.now (g.T.Teller.faults c.args.teller.now))
    (teller_of c.work_on-served.new.teller (g.T.Teller.faults c.work_on-served.new.teller))
    (record { call = c.args.call.now; now = c.args._now }) c.receipt_of.result (passes_seen (passes_in c.args.pass.now)) (views g.D.Drive (drives_of c.args.pass.now))
    (passes_seen c.work_on-served.new.slots.items) (views g.D.Drive c.work_on-served.new.disks.items)
    (g.O.Op.set c.args.op.now) c.work_on-served.result c.requires.begins.0 c.requires.set
    c.requires.begins.1 (c.work_on-served.ensures.done c.requires.begins.0 (record { call = c.args.call.now; now = c.args._now }) c.requires.pays c.requires.begins.2) c.receipt_of.ensures c.requires.feed
