use Rattle.std.proofs.Common.{arith, ◌+◌, refl}
use Rattle.drive_base.proofs.SetLemmas.{next_in, next_not_in}
use Rattle.drive_base.proofs.drive_set.DriveSet.count.Goals as goal
use Rattle.drive_base.proofs.drive_set.DriveSet.count.Goals.{then-has, else-has}

-- src/drive_set.rt:85:9
pub loop-index-preserved : goal.loop-index-preserved
loop-index-preserved c =
    let before = c.loop-index.invariant in
    elim c.if-has.branch [
      | then-has w ↦
          let more = next_in c.args.self c.loop-index.index (c.loop-index.index + 1) refl (w.if-has.ensures.0 refl) in
          record { within = omega arith; counted = omega arith; few = omega arith }
      | else-has w ↦
          let same = next_not_in c.args.self c.loop-index.index (c.loop-index.index + 1) refl (λ set. cc (w.if-has.ensures.1 set)) in
          record { within = omega arith; counted = omega arith; few = omega arith }
    ]
