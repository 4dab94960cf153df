use Rattle.command_line.proofs.LineLemmas.{read_end, read_more, read_none, read_twice}
use Rattle.command_line.proofs.line.line_of.Goals as goal

pub loop-found-init : goal.loop-found-init
loop-found-init c = read_none _ _ c.none-options.ensures

pub returns-in_default : goal.returns-in_default
returns-in_default c = read_end _ _ _ _ c.loop-found.invariant c.in_default.ensures.found c.line_behind.ensures

pub returns-in_default-with : goal.returns-in_default-with
returns-in_default-with c = read_twice _ _ _ _ c.loop-found.invariant c.in-Some.ensures.found c.in_default-with.ensures

pub loop-found-preserved : goal.loop-found-preserved
loop-found-preserved c = read_more _ _ _ _ _ c.loop-found.invariant c.in-Some.ensures.found c.in-Some-with.ensures
