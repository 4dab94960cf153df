use Rattle.std.proofs.Common.{rules, ◌≡◌}
use Rattle.drive_base.specs.View.{views}
use Rattle.op_steps.specs.Store.{teller_of}
use Rattle.op_steps.specs.declared.next.OpNext.TheVariants.{Data, Feed, Tell}
use Rattle.op_steps.proofs.RunLemmas.{called_so, fed_so, told_so}
use Rattle.op_steps.proofs.run.step_op.Goals as goal

pub returns-in-Section-clause-steps : goal.returns-in-Section-clause-steps
returns-in-Section-clause-steps g c =
    c.turn.ensures.steps (record { view = g.F.Feed.seen c.args.feed.now; faults = g.F.Feed.faults c.args.feed.now })
    (teller_of c.args.teller.now (g.T.Teller.faults c.args.teller.now))

pub returns-in-Data-clause-steps : goal.returns-in-Data-clause-steps
returns-in-Data-clause-steps g c =
    let due : g.O.Op.step c.args.op.now ≡ Data = search rules in
    called_so (g.P.Turns.gives (g.O.Op.set c.args.op.now) _) (g.P.Turns.bars _) g.T.Teller.takes g.T.Teller.breaks (g.O.Op.set c.args.op.now)
    (g.O.Op.step c.args.op.now) (g.O.Op.stands c.args.op.now) (g.O.Op.stands c.data.new.self) (g.P.Turns.seen c.args.slots.now) (views g.D.Drive c.args.disks.now)
    (views g.D.Drive c.data.new.disks) (record { view = g.F.Feed.seen c.args.feed.now; faults = g.F.Feed.faults c.args.feed.now })
    (teller_of c.args.teller.now (g.T.Teller.faults c.args.teller.now)) c.args.stubs.now.items due (c.data.ensures.calls due)

pub returns-in-Feed-clause-steps : goal.returns-in-Feed-clause-steps
returns-in-Feed-clause-steps g c =
    let due : g.O.Op.step c.args.op.now ≡ Feed = search rules in
    fed_so (g.P.Turns.gives (g.O.Op.set c.args.op.now) _) (g.P.Turns.bars _) g.T.Teller.takes g.T.Teller.breaks (g.O.Op.set c.args.op.now)
    (g.O.Op.step c.args.op.now) (g.O.Op.stands c.args.op.now) (g.O.Op.stands c.feed.new.self) (g.P.Turns.seen c.args.slots.now) (views g.D.Drive c.args.disks.now)
    (record { view = g.F.Feed.seen c.args.feed.now; faults = g.F.Feed.faults c.args.feed.now })
    (record { view = g.F.Feed.seen c.feed.new.feed; faults = g.F.Feed.faults c.feed.new.feed })
    (teller_of c.args.teller.now (g.T.Teller.faults c.args.teller.now)) c.args.stubs.now.items due (c.feed.ensures.feeds due)

pub returns-in-Tell-clause-steps : goal.returns-in-Tell-clause-steps
returns-in-Tell-clause-steps g c =
    let due : g.O.Op.step c.args.op.now ≡ Tell = search rules in
    told_so (g.P.Turns.gives (g.O.Op.set c.args.op.now) _) (g.P.Turns.bars _) g.T.Teller.takes g.T.Teller.breaks (g.O.Op.set c.args.op.now)
    (g.O.Op.step c.args.op.now) (g.O.Op.stands c.args.op.now) (g.O.Op.stands c.tell.new.self) (g.P.Turns.seen c.args.slots.now) (views g.D.Drive c.args.disks.now)
    (record { view = g.F.Feed.seen c.args.feed.now; faults = g.F.Feed.faults c.args.feed.now })
    (teller_of c.args.teller.now (g.T.Teller.faults c.args.teller.now)) (teller_of c.tell.new.teller (g.T.Teller.faults c.tell.new.teller))
    c.args.stubs.now.items due c.tell.ensures.tells
