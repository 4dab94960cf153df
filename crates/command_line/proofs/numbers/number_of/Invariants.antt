use Rattle.std.proofs.Common.{◌≡◌, ◌<◌, ◌^◌, All, drop, take}
use Rattle.command_line.specs.Words.{IsDigit, number_behind}
use Rattle.command_line.proofs.numbers.number_of.Given as goal

abbrev pub invariant-loop-byte : goal.invariant-loop-byte
invariant-loop-byte l =
    All IsDigit (take l.byte-index l.byte-items) × (number_behind l.number (drop l.byte-index l.byte-items) ≡ number_behind 0 l.byte-items) × (l.number < 2 ^ 64)
