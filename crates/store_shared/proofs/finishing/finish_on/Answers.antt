use Rattle.std.proofs.Common.{◌∙◌, ◌++◌, [], ap, length, subst, subst₂, sym}
use Rattle.receipts.specs.Events.{notes_of}
use Rattle.op_steps.specs.Claims.{no_claim}
use Rattle.op_steps.specs.Words.{HasEnded}
use Rattle.op_steps.specs.Going.{OpLed}
use Rattle.op_steps.specs.Notes.{notes_by}
use Rattle.op_steps.specs.Steps.{RanOver}
use Rattle.store_shared.specs.Serving.{reached}
use Rattle.store_shared.proofs.OrderLemmas.{whole_slice}
use Rattle.store_shared.proofs.finishing.finish_on.Goals as goal

pub run_op-requires-clause-disks : goal.run_op-requires-clause-disks
run_op-requires-clause-disks g c = ap length c.as_mut_slice.ensures.value ∙ c.requires.disks

pub returns-clause-disks : goal.returns-clause-disks
returns-clause-disks g c =
    ap length (whole_slice c.run_op.new.disks c.args.disks.now.items c.args.disks.now.len (c.run_op.auto.disks ∙ c.as_mut_slice.ensures.len))
    ∙ (c.run_op.ensures.disks ∙ ap length c.as_mut_slice.ensures.value)

pub returns-clause-done : goal.returns-clause-done
returns-clause-done g c = λ slot holds.
    let disks_are = whole_slice c.run_op.new.disks c.args.disks.now.items c.args.disks.now.len (c.run_op.auto.disks ∙ c.as_mut_slice.ensures.len) in
    let got = c.run_op.ensures.ran (no_claim slot) [] holds in
    subst₂ (λ old new. OpLed (λ log. g.O.Op.owed (g.O.Op.set c.args.op.now) (g.O.Op.asked c.args.op.now) c.cut.result log
    × HasEnded (g.O.Op.stands c.run_op.new.op) log) c.run_op.new.stubs.items slot
    (λ log claim later. RanOver (g.P.Turns.gives (g.O.Op.set c.args.op.now) _) (g.P.Turns.bars _) g.T.Teller.takes g.T.Teller.breaks (g.O.Op.set c.args.op.now) log
    (reached g.D.Drive g.F.Feed g.T.Teller (g.P.Turns.seen c.args.slots.now) old c.args.feed.now c.args.teller.now claim)
    (reached g.D.Drive g.F.Feed g.T.Teller (g.P.Turns.seen c.run_op.new.slots) new c.run_op.new.feed c.run_op.new.teller later))) c.as_mut_slice.ensures.value (sym disks_are)
    (record {
      left = got.0;
      log = got.1;
      lets_go = c.run_op.ensures.ends got.0 got.1 got.2;
      owed = (
        subst (λ cut. g.O.Op.owed (g.O.Op.set c.args.op.now) (g.O.Op.asked c.args.op.now) cut got.1) (sym c.cut.ensures) (c.run_op.ensures.owed got.0 got.1 got.2),
        (got.0, got.2, c.run_op.ensures.ends got.0 got.1 got.2),
      );
      ran = got.3;
      notes = got.4 ∙ ap (λ items. notes_by items ++ notes_of got.1) c.new-stubs.ensures.items;
    })
