use Rattle.std.proofs.Common.{◌≡◌}
use Rattle.turn_lock.specs.Passes.{IsPassOf, parts_of}
use Rattle.turn_lock.proofs.tests.work.Given as goal

abbrev pub invariant-loop : goal.invariant-loop
invariant-loop g l = IsPassOf l.initial.lock l.pass × (parts_of l.pass ≡ parts_of l.initial.pass)
