use Rattle.std.proofs.Common.{◌∙◌, ap, length, subst₂, sym}
use Rattle.op_steps.specs.Steps.{RanOver}
use Rattle.store_shared.specs.Serving.{WasServed, reached}
use Rattle.store_shared.proofs.OrderLemmas.{whole_slice}
use Rattle.store_shared.proofs.op_desk.work_on.Goals as goal

pub call_op-requires-clause-disks : goal.call_op-requires-clause-disks
call_op-requires-clause-disks g c = ap length c.as_mut_slice.ensures.value ∙ c.requires.disks

pub returns-clause-disks : goal.returns-clause-disks
returns-clause-disks g c =
    ap length (whole_slice c.call_op.new.disks c.args.disks.now.items c.args.disks.now.len (c.call_op.auto.disks ∙ c.as_mut_slice.ensures.len))
    ∙ (c.call_op.ensures.disks ∙ ap length c.as_mut_slice.ensures.value)

pub returns-clause-done : goal.returns-clause-done
returns-clause-done g c = λ slot task pays holds.
    let disks_are = whole_slice c.call_op.new.disks c.args.disks.now.items c.args.disks.now.len (c.call_op.auto.disks ∙ c.as_mut_slice.ensures.len) in
    subst₂ (λ old new. WasServed (g.O.Op.set c.args.op.now) task c.call_op.result slot
    (λ log claim later. RanOver (g.P.Turns.gives (g.O.Op.set c.args.op.now) _) (g.P.Turns.bars _) g.T.Teller.takes g.T.Teller.breaks (g.O.Op.set c.args.op.now) log
    (reached g.D.Drive g.F.Feed g.T.Teller (g.P.Turns.seen c.args.slots.now) old c.args.feed.now c.args.teller.now claim)
    (reached g.D.Drive g.F.Feed g.T.Teller (g.P.Turns.seen c.call_op.new.slots) new c.call_op.new.feed c.call_op.new.teller later))) c.as_mut_slice.ensures.value (sym disks_are) (c.call_op.ensures.done slot task pays holds)
