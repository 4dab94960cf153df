use Rattle.std.proofs.Common.{refl}
use Rattle.get_read.proofs.MeasureLemmas.{begun_falls, search_falls}
use Rattle.get_read.proofs.ReaderLemmas.{search_begun, search_goes_on, search_refused}
use Rattle.get_read.proofs.reader.Reader.search.Goals as goal

pub returns-in-Ok-None-clause-steps : goal.returns-in-Ok-None-clause-steps
returns-in-Ok-None-clause-steps g c =
    let steps = c.in-Ok-None.ensures.steps in
    rw (c.search_on.ensures.state, c.search_on.ensures.more)
    (search_goes_on g.D.Drive c.args.self.now.asked c.args.search c.step.new.self _ c.args.drives.now c.step.new.drives c.requires.same (rw c.in-Ok-None.field-0-is at steps))

pub returns-in-Ok-Some-clause-steps : goal.returns-in-Ok-Some-clause-steps
returns-in-Ok-Some-clause-steps g c =
    search_begun g.D.Drive c.args.self.now.asked c.args.search c.step.new.self c.in-Ok-Some.manifest c.begin.new.self.state _ c.begin.result c.args.drives.now c.step.new.drives
    c.requires.same (rw c.in-Ok-Some.field-0-is at c.in-Ok-Some.ensures.steps) (rw c.requires.state at c.begin.ensures.begins)

pub returns-in-Err-clause-steps : goal.returns-in-Err-clause-steps
returns-in-Err-clause-steps g c =
    rw (c.refuse.ensures.state, c.refuse.ensures.fault)
    (search_refused g.D.Drive c.args.self.now.asked c.args.search c.step.new.self _ c.in-Err.fault c.args.drives.now c.step.new.drives c.requires.same c.in-Err.ensures.steps)

pub returns-in-Ok-None-clause-fewer : goal.returns-in-Ok-None-clause-fewer
returns-in-Ok-None-clause-fewer g c =
    rw (c.search_on.ensures.state, c.search_on.ensures.more)
    (search_falls c.args.search c.step.new.self c.in-Ok-None.ensures.steps.asked (rw c.in-Ok-None.field-0-is at c.in-Ok-None.ensures.fewer))

pub returns-in-Ok-Some-clause-fewer : goal.returns-in-Ok-Some-clause-fewer
returns-in-Ok-Some-clause-fewer g c =
    begun_falls c.args.self.now.asked c.args.search c.in-Ok-Some.manifest c.begin.new.self.state c.begin.result c.requires.same
    (rw c.requires.state at c.begin.ensures.begins)

pub returns-in-Err-clause-fewer : goal.returns-in-Err-clause-fewer
returns-in-Err-clause-fewer g c = rw (c.refuse.ensures.state, c.refuse.ensures.fault) refl
