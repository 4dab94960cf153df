use Rattle.std.proofs.Common.{◌+◌, subst, sym, arith}
use Rattle.register_core.proofs.WrittenLemmas.{WrittenSoFar, all_written, none_written, written_no, written_yes}
use Rattle.register_core.proofs.mends.count_written.Goals as goal
use Rattle.register_core.proofs.mends.count_written.Goals.{then-is_written, else-is_written}

pub loop-k-init : goal.loop-k-init
loop-k-init c = none_written c.args.passed c.args.whys.now

pub loop-k-preserved : goal.loop-k-preserved
loop-k-preserved c =
    let passed = c.args.passed in
    let whys = c.args.whys.now in
    let k = c.loop-k.k in
    elim c.if-is_written.branch [
      | then-is_written w ↦ subst (WrittenSoFar passed whys (k + 1)) (sym w.count-is)
          (written_yes passed whys k c.loop-k.count c.is_written.result w.if-is_written.true c.is_written.ensures c.loop-k.invariant)
      | else-is_written w ↦ subst (WrittenSoFar passed whys (k + 1)) (sym w.count-is)
          (written_no passed whys k c.loop-k.count c.is_written.result w.if-is_written.false c.is_written.ensures c.loop-k.invariant)
    ]

pub returns : goal.returns
returns c = all_written c.args.passed c.args.whys.now c.loop-k.k c.loop-k.count (omega arith) c.loop-k.invariant
