use Rattle.std.proofs.Common.{◌≡◌, ◌≤◌, take}
use Rattle.http_wire.specs.Lines.{has_begun, line_ends}
use Rattle.http_wire.proofs.line_limit.line_65_end.Given as goal

abbrev pub invariant-loop-i : goal.invariant-loop-i
invariant-loop-i l =
    (l.begun ≡ has_begun (take l.i l.bytes)) × (l.lines ≡ line_ends (take l.i l.bytes)) × (l.lines ≤ 64)
