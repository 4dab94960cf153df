use Rattle.std.proofs.Common.{rules}
use Rattle.io_base.proofs.Works.{map-alike}
use Rattle.io_base.proofs.spawner.work_each.Goals as goal

pub returns-then-count-gt0-clause-kept : goal.returns-then-count-gt0-clause-kept
returns-then-count-gt0-clause-kept g c =
    map-alike g.W.Work.kept c.args.works.now c.for_each_mut.new.s c.for_each_mut.auto.s (λ i d within. search rules)
