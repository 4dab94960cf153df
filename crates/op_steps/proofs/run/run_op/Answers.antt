use Rattle.std.proofs.Common.{rules, ◌≡◌, ◌∙◌, ap, refl, subst, subst₂, sym}
use Rattle.drive_base.specs.View.{views}
use Rattle.op_steps.specs.Going.{IsFeedAt, RanSoOver}
use Rattle.op_steps.specs.Steps.{RanOver}
use Rattle.op_steps.specs.Store.{store_of, teller_of}
use Rattle.op_steps.specs.declared.next.OpNext.TheVariants.{Done}
use Rattle.op_steps.proofs.RunLemmas.{any_step, so_more, so_none}
use Rattle.op_steps.proofs.run.run_op.Goals as goal

pub loop-alloc-init : goal.loop-alloc-init
loop-alloc-init g c = record {
  set = refl;
  asked = refl;
  fits = c.requires.fits;
  holds = refl;
  disks = c.requires.disks;
  feed = c.requires.feed;
  ran = so_none (g.P.Turns.gives (g.O.Op.set c.args.op.now) _) (g.P.Turns.bars _) g.T.Teller.takes g.T.Teller.breaks (g.O.Op.set c.args.op.now)
      (g.O.Op.stands c.args.op.now) (λ claim. store_of (g.P.Turns.seen c.args.slots.now) (views g.D.Drive c.args.disks.now) claim
      (record { view = g.F.Feed.seen c.args.feed.now; faults = g.F.Feed.faults c.args.feed.now })
      (teller_of c.args.teller.now (g.T.Teller.faults c.args.teller.now))) c.args.stubs.now.items;
}

pub step_op-requires-clause-fits : goal.step_op-requires-clause-fits
step_op-requires-clause-fits g c =
    let kept = c.loop-alloc.invariant in subst (λ set. g.P.Turns.fits c.args.turns.now set c.loop-alloc.slots) (sym kept.set) kept.fits

pub step_op-requires-clause-disks : goal.step_op-requires-clause-disks
step_op-requires-clause-disks g c = let kept = c.loop-alloc.invariant in kept.disks ∙ ap (λ s. s.drives) (sym kept.set)

pub step_op-requires-clause-feed : goal.step_op-requires-clause-feed
step_op-requires-clause-feed g c =
    let kept = c.loop-alloc.invariant in
    subst (λ asked. IsFeedAt (g.O.Op.stated asked) (g.O.Op.taken c.loop-alloc.op) (g.F.Feed.seen c.loop-alloc.feed)) (sym kept.asked) kept.feed

pub loop-alloc-preserved : goal.loop-alloc-preserved
loop-alloc-preserved g c =
    let kept = c.loop-alloc.invariant in
    let step = c.step_op.ensures in
    record {
      set = step.set ∙ kept.set;
      asked = step.asked ∙ kept.asked;
      fits = subst (λ set. g.P.Turns.fits c.args.turns.now set c.step_op.new.slots) kept.set step.fits;
      holds = step.holds ∙ kept.holds;
      disks = step.disks ∙ kept.disks;
      feed = subst (λ asked. IsFeedAt (g.O.Op.stated asked) (g.O.Op.taken c.step_op.new.op) (g.F.Feed.seen c.step_op.new.feed)) kept.asked step.feed;
      ran = so_more (g.P.Turns.gives (g.O.Op.set c.args.op.now) _) (g.P.Turns.bars _) g.T.Teller.takes g.T.Teller.breaks (g.O.Op.set c.args.op.now)
          (g.O.Op.stands c.args.op.now) (g.O.Op.stands c.loop-alloc.op) (g.O.Op.stands c.step_op.new.op) _ _ _
          c.args.stubs.now.items c.loop-alloc.stubs.items c.step_op.new.stubs.items kept.ran
          (subst (λ set. RanSoOver (RanOver (g.P.Turns.gives set _) (g.P.Turns.bars _) g.T.Teller.takes g.T.Teller.breaks set)
          (g.O.Op.stands c.loop-alloc.op) (g.O.Op.stands c.step_op.new.op)
          (λ claim. store_of (g.P.Turns.seen c.loop-alloc.slots) (views g.D.Drive c.loop-alloc.disks) claim
          (record { view = g.F.Feed.seen c.loop-alloc.feed; faults = g.F.Feed.faults c.loop-alloc.feed })
          (teller_of c.loop-alloc.teller (g.T.Teller.faults c.loop-alloc.teller)))
          (λ claim. store_of (g.P.Turns.seen c.step_op.new.slots) (views g.D.Drive c.step_op.new.disks) claim
          (record { view = g.F.Feed.seen c.step_op.new.feed; faults = g.F.Feed.faults c.step_op.new.feed })
          (teller_of c.step_op.new.teller (g.T.Teller.faults c.step_op.new.teller)))
          c.loop-alloc.stubs.items c.step_op.new.stubs.items) kept.set
          (any_step (g.P.Turns.gives (g.O.Op.set c.loop-alloc.op) _) (g.P.Turns.bars _) g.T.Teller.takes g.T.Teller.breaks (g.O.Op.set c.loop-alloc.op)
          (g.O.Op.step c.loop-alloc.op) (g.O.Op.stands c.loop-alloc.op) (g.O.Op.stands c.step_op.new.op) _ _
          c.loop-alloc.stubs.items c.step_op.new.stubs.items step.steps));
    }

pub returns-clause-owed : goal.returns-clause-owed
returns-clause-owed g c =
    let done : c.next.result ≡ Done = search rules in
    λ claim log holds. subst₂ (λ set asked. g.O.Op.owed set asked (g.O.Op.cut_at c.loop-alloc.op) log) c.loop-alloc.invariant.set c.loop-alloc.invariant.asked
    (c.next.ensures.done claim log done holds)

pub returns-clause-ends : goal.returns-clause-ends
returns-clause-ends g c =
    let done : c.next.result ≡ Done = search rules in
    λ claim log holds. c.next.ensures.ends claim log done holds
