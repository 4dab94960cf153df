-- The works that were taken so far stand apart, and both lists have room for the others.
use Rattle.std.proofs.Common.{◌≡◌, ◌≤◌, ◌++◌, All, vec_len, vec_capacity}
use Rattle.io_base.specs.Turns.{TakesTurns}
use Rattle.io_base.proofs.turns.Turns.take_each.Given as goal

abbrev pub invariant-loop-work : goal.invariant-loop-work
invariant-loop-work g l = TakesTurns g.W.Work.kept l.initial.self l.self l.yielded l.done.items l.left.items
    × All g.W.Work.over l.done.items
    × (l.fn.works.items ≡ l.yielded ++ l.work-iterator.rest.items)
    × (vec_len l.fn.works ≤ vec_capacity l.done)
    × (vec_len l.fn.works ≤ vec_capacity l.left)
