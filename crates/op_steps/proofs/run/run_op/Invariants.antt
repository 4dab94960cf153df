use Rattle.std.specs.Prelude.{length}
use Rattle.std.proofs.Common.{◌≡◌}
use Rattle.drive_base.specs.View.{views}
use Rattle.op_steps.specs.Going.{IsFeedAt, RanSoOver}
use Rattle.op_steps.specs.Steps.{RanOver}
use Rattle.op_steps.specs.Store.{store_of, teller_of}
use Rattle.op_steps.proofs.run.run_op.Given as goal

-- the op goes on with its set and what it is asked, all slots are reached as before, the feed goes on as the op has taken, and a log of steps leads here
abbrev pub invariant-loop-alloc : goal.invariant-loop-alloc
invariant-loop-alloc g l = let O = g.O.Op in let D = g.D.Drive in let P = g.P.Turns in let F = g.F.Feed in let T = g.T.Teller in record {
  set : O.set l.op ≡ O.set l.initial.op;
  asked : O.asked l.op ≡ O.asked l.initial.op;
  fits : P.fits l.turns (O.set l.initial.op) l.slots;
  holds : P.holds l.slots ≡ P.holds l.initial.slots;
  disks : length l.disks ≡ (O.set l.initial.op).drives;
  feed : IsFeedAt (O.stated (O.asked l.initial.op)) (O.taken l.op) (F.seen l.feed);
  ran : RanSoOver (RanOver (P.gives (O.set l.initial.op) _) (P.bars _) T.takes T.breaks (O.set l.initial.op))
      (O.stands l.initial.op) (O.stands l.op)
      (λ claim. store_of (P.seen l.initial.slots) (views D l.initial.disks) claim
      (record { view = F.seen l.initial.feed; faults = F.faults l.initial.feed }) (teller_of l.initial.teller (T.faults l.initial.teller)))
      (λ claim. store_of (P.seen l.slots) (views D l.disks) claim
      (record { view = F.seen l.feed; faults = F.faults l.feed }) (teller_of l.teller (T.faults l.teller)))
      l.initial.stubs.items l.stubs.items;
}

abbrev pub decreases-loop-alloc : goal.decreases-loop-alloc
decreases-loop-alloc g l = g.O.Op.left l.op
