use Rattle.std.proofs.Common.{length, map}
use Rattle.std.specs.String.{string_bytes}
use Rattle.command_line.proofs.LineLemmas.{ReadTo}
use Rattle.command_line.proofs.line.line_of.Given as goal

abbrev pub invariant-loop-found : goal.invariant-loop-found
invariant-loop-found l = ReadTo (map string_bytes l.words) (map string_bytes l.rest)
    (record { root = l.options.0; drives = l.options.1.0; parity = l.options.1.1.0; set = l.options.1.1.1.0; listen = l.options.1.1.1.1.0; workers = l.options.1.1.1.1.1.0 })

abbrev pub decreases-loop-found : goal.decreases-loop-found
decreases-loop-found l = length l.rest
