use Rattle.drive_file.proofs.OpeningLemmas.{parent_here, parent_or}
use Rattle.drive_file.proofs.opening.parent_of.Goals as goal

pub returns-in-Some : goal.returns-in-Some
returns-in-Some c =
    parent_or c.args.path.now c.in-Some.front.now c.in-Some.field-0-1.now c.root_or.result.now c.in-Some.ensures.cases c.root_or.ensures

pub returns-in-None : goal.returns-in-None
returns-in-None c = parent_here c.args.path.now c.in-None.ensures.cases
