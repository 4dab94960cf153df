use Rattle.http_wire.proofs.LimitLemmas.{no_iff, no_line_65, line_65_at, line_65_elsewhere}
use Rattle.http_wire.proofs.line_limit.has_line_65.Goals as goal

pub returns-in-None : goal.returns-in-None
returns-in-None c = no_iff (no_line_65 c.args.bytes.now c.in-None.ensures)

pub returns-then-goes_on : goal.returns-then-goes_on
returns-then-goes_on c =
    let place = c.if-goes_on.ensures in
    let both = line_65_at c.args.bytes.now c.in-Some.end c.in-Some.ensures place.0 place.1 in
    (λ yes. both.0 (c.ends_head.ensures.0 yes), λ has. c.ends_head.ensures.1 (both.1 has))

pub returns-else-goes_on : goal.returns-else-goes_on
returns-else-goes_on c =
    no_iff (line_65_elsewhere c.args.bytes.now c.in-Some.end c.in-Some.ensures c.if-goes_on.ensures)
