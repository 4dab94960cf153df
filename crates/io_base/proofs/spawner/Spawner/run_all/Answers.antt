use Rattle.std.proofs.Common.{◌≡◌, ◌+◌, length, arith}
use Rattle.io_base.proofs.Works.{Apart-count, Apart-done}
use Rattle.io_base.proofs.spawner.Spawner.run_all.Goals as goal

pub returns-in-Threads-clause-apart : goal.returns-in-Threads-clause-apart
returns-in-Threads-clause-apart g c = Apart-done g.W.Work.kept c.args.works.items c.run_beside.result.done.items
    c.run_beside.result.left.items c.run_beside.ensures.kept c.run_beside.ensures.left

pub returns-in-InTurn-clause-count : goal.returns-in-InTurn-clause-count
returns-in-InTurn-clause-count g c =
    let done = c.run_all.result.done in
    let left = c.run_all.result.left in
    let count : length done.items + length left.items ≡ length c.args.works.items =
    Apart-count g.W.Work.kept c.args.works.items done.items left.items c.run_all.ensures.apart in
    omega (arith, count, done.ok, left.ok, c.args.works.ok)
