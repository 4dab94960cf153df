-- The sink has got the front of the escaped name, and counted no fault.
use Rattle.std.proofs.Common.{◌≡◌, ℕ, List, ◌++◌}
use Rattle.std.specs.Io.KnownBytes.{append_known}
use Rattle.percent_encoding.specs.Iter.{encoded_text}
use Rattle.percent_encoding.specs.Percent.{percent_encode}
use Rattle.audit_trail.specs.declared.lines.TheConstants.{ESCAPED}
use Rattle.audit_trail.proofs.lines.write_name.Given as goal

abbrev pub invariant-loop-piece : goal.invariant-loop-piece
invariant-loop-piece g l = let K = g.K.Sink in
    (done : List ℕ) × (K.given l.sink ≡ append_known (K.given l.initial.sink) done)
    × (done ++ encoded_text l.piece-iterator ≡ percent_encode ESCAPED l.name)
    × (K.faults l.sink ≡ K.faults l.initial.sink)
