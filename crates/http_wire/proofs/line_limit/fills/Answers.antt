use Rattle.std.proofs.Common.{Bool, arith, subst, sym}
use Rattle.std.specs.Prelude.{IsTrue, ◌↔◌}
use Rattle.http_wire.specs.Heads.{IsFullHead}
use Rattle.http_wire.proofs.LimitLemmas.{full_iff}
use Rattle.http_wire.proofs.line_limit.fills.Goals as goal

pub returns-in-Ok-Complete : goal.returns-in-Ok-Complete
returns-in-Ok-Complete c =
    let text = c.args.text.now in
    subst (λ (t : Bool). IsTrue t ↔ IsFullHead text) (sym c.is_full.ensures)
    (full_iff text c.parse_request.new.headers c.in-Ok-Complete.spans
    (omega (arith, c.requires.room, c.parse_request.auto.headers))
    (rw c.in-Ok-Complete.field-0-is at c.in-Ok-Complete.ensures.within)
    (rw c.in-Ok-Complete.field-0-is at c.in-Ok-Complete.ensures.complete))
