use Rattle.std.proofs.Common.{◌≡◌, ◌-◌, length}
use Rattle.http_wire.specs.Answers.{Came}
use Rattle.http_wire.specs.Taking.{source_view}
use Rattle.http_wire.proofs.arrival.await_head.Given as goal

abbrev pub invariant-pieces : goal.invariant-pieces
invariant-pieces g l =
    Came l.initial.window l.window (source_view g.S.Source l.initial.source) (source_view g.S.Source l.source)
    × (g.S.Source.faults l.source ≡ g.S.Source.faults l.initial.source) × (length l.headers ≡ 64)

abbrev pub decreases-pieces : goal.decreases-pieces
decreases-pieces g l = 65536 - length l.window
