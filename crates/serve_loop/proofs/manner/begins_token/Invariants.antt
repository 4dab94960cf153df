use Rattle.std.proofs.Common.{◌≡◌, true, drop}
use Rattle.serve_loop.specs.Exchanges.{is_fresh_after}
use Rattle.serve_loop.proofs.manner.begins_token.Given as goal

-- what the rest leads to is what the whole leads to
abbrev pub invariant-loop-byte : goal.invariant-loop-byte
invariant-loop-byte l = is_fresh_after l.is_fresh (drop l.byte-index l.fn.before) ≡ is_fresh_after true l.fn.before
