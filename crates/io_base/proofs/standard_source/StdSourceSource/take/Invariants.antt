-- Each turn of the loop reads nothing.
use Rattle.std.proofs.Common.{◌≡◌}
use Rattle.std.specs.Io.KnownBytes.{Keeps}
use Rattle.io_base.specs.StdSource.{asked, unread}
use Rattle.io_base.proofs.standard_source.StdSourceSource.take.Given as goal

abbrev pub invariant-loop : goal.invariant-loop
invariant-loop g l = (l.self.faults ≡ l.initial.self.faults)
    × Keeps (unread g.R.Read.remaining l.initial.self) (unread g.R.Read.remaining l.self)
    × (asked l.self ≡ asked l.initial.self)
