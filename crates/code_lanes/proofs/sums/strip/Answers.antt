use Rattle.std.proofs.Common.{get_or, arith}
use Rattle.code_lanes.proofs.SumLemmas.{strip-first, strip-next, strip-all}
use Rattle.code_lanes.proofs.sums.strip.Goals as goal

pub loop-index-init : goal.loop-index-init
loop-index-init c weights are many =
    strip-first weights c.args.tables.now.total c.args.width c.args.blocks.now c.args.at c.load-first.ensures (c.times_total-sums.ensures are.whole)

pub loop-index-preserved : goal.loop-index-preserved
loop-index-preserved c weights are many =
    let i = c.loop-index.index in
    strip-next weights c.args.tables.now.total c.args.width c.args.blocks.now c.args.at c.load-first.ensures i c.load.ensures c.add-moved.ensures
    (c.times.ensures (get_or weights i 0) (are.each i (omega arith))) (c.loop-index.invariant weights are many) c.add-sums.ensures

pub returns : goal.returns
returns c weights are many =
    strip-all weights c.args.tables.now.total c.args.width c.args.blocks.now c.args.at c.loop-index.index are.is_total (omega arith)
    (c.loop-index.invariant weights are many)
