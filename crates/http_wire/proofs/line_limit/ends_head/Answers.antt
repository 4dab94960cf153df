use Rattle.std.proofs.Common.{ℕ, List, subst}
use Rattle.std.specs.Prelude.{IsTrue, ◌↔◌}
use Rattle.http_wire.specs.Heads.{IsFullHead}
use Rattle.http_wire.proofs.line_limit.ends_head.Goals as goal

pub returns : goal.returns
returns c = subst (λ (t : List ℕ). IsTrue c.fills.result ↔ IsFullHead t) c.close_lines.ensures c.fills.ensures
