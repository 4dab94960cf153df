use Rattle.drill_script.proofs.OneLemmas.{placed_next}
use Rattle.drill_script.proofs.WordLemmas.{no_next}
use Rattle.drill_script.proofs.next.next_line.Goals as goal

pub returns-in_default : goal.returns-in_default
returns-in_default c = no_next c.args.before.now c.args.bytes.now c.in_default.ensures.cases.0

pub returns-in-Some : goal.returns-in-Some
returns-in-Some c =
    let read = rw c.in-Some.is at c.in_ok-line.ensures in
    placed_next c.spelling_laws.ensures.text c.args.before.now c.args.bytes.now c.in-Ok.text.now c.in-Some.line c.placed.result c.in-Ok.ensures.cases.0 read c.placed.ensures
