use Rattle.std.proofs.Common.{get_or, arith}
use Rattle.code_lanes.proofs.SumLemmas.{strip-first, strip-next, strip-all}
use Rattle.code_lanes.proofs.twin.two_strips.Goals as goal

pub loop-index-init : goal.loop-index-init
loop-index-init c =
    let width = c.args.width in
    let blocks = c.args.blocks.now in
    let at = c.args.at in
    let loaded = c.load-begin.ensures in
    record {
      first = λ weights are many. strip-first weights c.args.first.now.total width blocks at loaded (c.times_total-sums.ensures are.whole);
      second = λ weights are many. strip-first weights c.args.second.now.total width blocks at loaded (c.times_total-others.ensures are.whole);
    }

pub loop-index-preserved : goal.loop-index-preserved
loop-index-preserved c =
    let width = c.args.width in
    let blocks = c.args.blocks.now in
    let at = c.args.at in
    let loaded = c.load-begin.ensures in
    let i = c.loop-index.index in
    record {
      first = λ weights are many.
          strip-next weights c.args.first.now.total width blocks at loaded i c.load.ensures c.add-moved.ensures
          (c.times.ensures (get_or weights i 0) (are.each i (omega arith))) (c.loop-index.invariant.first weights are many) c.add-sums.ensures;
      second = λ weights are many.
          strip-next weights c.args.second.now.total width blocks at loaded i c.load.ensures c.add-moved.ensures
          (c.times-in-loop-index.ensures (get_or weights i 0) (are.each i (omega arith))) (c.loop-index.invariant.second weights are many) c.add-others.ensures;
    }

pub returns-clause-first : goal.returns-clause-first
returns-clause-first c weights are many =
    strip-all weights c.args.first.now.total c.args.width c.args.blocks.now c.args.at c.loop-index.index are.is_total (omega arith)
    (c.loop-index.invariant.first weights are many)

pub returns-clause-second : goal.returns-clause-second
returns-clause-second c weights are many =
    strip-all weights c.args.second.now.total c.args.width c.args.blocks.now c.args.at c.loop-index.index are.is_total (omega arith)
    (c.loop-index.invariant.second weights are many)
