use Rattle.std.proofs.Common.{◌∙◌, ap, subst, sym}
use Rattle.op_steps.specs.Store.{slots_seen, teller_of}
use Rattle.store_shared.specs.Passes.{SlotsFit, disks_of, set_of, slots_of}
use Rattle.store_shared.proofs.OrderLemmas.{fit_count, fit_index, fit_set, slots_fit}
use Rattle.store_shared.proofs.PlainLemmas.{plain_cause, plain_serves}
use Rattle.store_shared.proofs.plain_desk.PlainDeskOpDesk.serve_op.Goals as goal

pub work_on-served-requires-clause-fits : goal.work_on-served-requires-clause-fits
work_on-served-requires-clause-fits g c =
    let pass = c.args.pass.now in
    subst (λ plan. SlotsFit plan (slots_seen g.A.Audit.entries g.A.Audit.count (slots_of pass))) (sym c.requires.set)
    (slots_fit g.A.Audit.entries g.A.Audit.count (set_of pass) (slots_of pass) pass.count pass.index pass.of_set)

pub work_on-served-requires-clause-disks : goal.work_on-served-requires-clause-disks
work_on-served-requires-clause-disks g c = c.args.pass.now.drives ∙ ap (λ s. s.drives) (sym c.requires.set)

pub work_on-served-requires-clause-feed : goal.work_on-served-requires-clause-feed
work_on-served-requires-clause-feed g c =
    record { stated = c.requires.feed.stated ∙ sym c.requires.stated; given = c.requires.feed.none_given ∙ sym c.requires.taken }

pub invariant_of-pass-clause-count : goal.invariant_of-pass-clause-count
invariant_of-pass-clause-count g c =
    fit_count g.A.Audit.entries g.A.Audit.count (g.O.Op.set c.args.op.now) c.work_on-served.new.slots.items c.work_on-served.ensures.fits

pub invariant_of-pass-clause-index : goal.invariant_of-pass-clause-index
invariant_of-pass-clause-index g c =
    fit_index g.A.Audit.entries g.A.Audit.count (g.O.Op.set c.args.op.now) c.work_on-served.new.slots.items c.work_on-served.ensures.fits

pub invariant_of-pass-clause-of_set : goal.invariant_of-pass-clause-of_set
invariant_of-pass-clause-of_set g c = λ k d inside.
    fit_set g.A.Audit.entries g.A.Audit.count (g.O.Op.set c.args.op.now) c.work_on-served.new.slots.items c.work_on-served.ensures.fits k d inside
    ∙ c.requires.set

pub invariant_of-pass-clause-drives : goal.invariant_of-pass-clause-drives
invariant_of-pass-clause-drives g c = c.work_on-served.ensures.disks ∙ c.args.pass.now.drives

pub returns-clause-serves : goal.returns-clause-serves
returns-clause-serves g c =
    plain_serves g.D.Drive g.A.Audit.entries g.A.Audit.count g.T.Teller.takes g.T.Teller.breaks
    (record { view = g.F.Feed.seen c.args.feed.now; faults = g.F.Feed.faults c.args.feed.now })
    (record { view = g.F.Feed.seen c.work_on-served.new.feed; faults = g.F.Feed.faults c.work_on-served.new.feed })
    (teller_of c.args.teller.now (g.T.Teller.faults c.args.teller.now)) (teller_of c.work_on-served.new.teller (g.T.Teller.faults c.work_on-served.new.teller))
    (record { call = c.args._call.now; now = c.args._now }) c.receipt_of.result c.args.pass.now _ (g.O.Op.set c.args.op.now) c.work_on-served.result c.requires.begins.0 c.requires.set
    c.requires.begins.1 (c.work_on-served.ensures.done c.requires.begins.0 (record { call = c.args._call.now; now = c.args._now }) c.requires.pays c.requires.begins.2) c.receipt_of.ensures

pub returns-clause-cause : goal.returns-clause-cause
returns-clause-cause g c =
    plain_cause g.D.Drive g.A.Audit.entries g.A.Audit.count g.T.Teller.takes g.T.Teller.breaks (set_of c.args.pass.now)
    (record { view = g.F.Feed.seen c.args.feed.now; faults = g.F.Feed.faults c.args.feed.now })
    (record { view = g.F.Feed.seen c.work_on-served.new.feed; faults = g.F.Feed.faults c.work_on-served.new.feed })
    (teller_of c.args.teller.now (g.T.Teller.faults c.args.teller.now)) (teller_of c.work_on-served.new.teller (g.T.Teller.faults c.work_on-served.new.teller))
    (record { call = c.args._call.now; now = c.args._now }) c.receipt_of.result (slots_of c.args.pass.now) (disks_of c.args.pass.now) c.work_on-served.new.slots.items
    c.work_on-served.new.disks.items (g.O.Op.set c.args.op.now) c.work_on-served.result c.requires.begins.0 c.requires.set
    c.requires.begins.1 (c.work_on-served.ensures.done c.requires.begins.0 (record { call = c.args._call.now; now = c.args._now }) c.requires.pays c.requires.begins.2) c.receipt_of.ensures c.requires.feed
