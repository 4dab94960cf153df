use Rattle.std.proofs.Common.{◌≡◌, drop}
use Rattle.serve_loop.specs.Exchanges.{ends_token}
use Rattle.serve_loop.proofs.manner.ends_token.Given as goal

-- what the rest says is what the whole says
abbrev pub invariant-loop-byte : goal.invariant-loop-byte
invariant-loop-byte l = ends_token (drop l.byte-index l.fn.after) ≡ ends_token l.fn.after
