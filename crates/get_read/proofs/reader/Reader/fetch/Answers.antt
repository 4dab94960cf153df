use Rattle.std.proofs.Common.{refl}
use Rattle.get_read.proofs.GivingStepLemmas.{at_place, fetch_given, fetch_goes_on, fetch_refused}
use Rattle.get_read.proofs.MeasureLemmas.{given_falls, stripe_falls}
use Rattle.get_read.proofs.reader.Reader.fetch.Goals as goal

pub returns-in-Ok-None-clause-steps : goal.returns-in-Ok-None-clause-steps
returns-in-Ok-None-clause-steps g c =
    rw (c.fetch_on.ensures.state, c.fetch_on.ensures.step)
    (fetch_goes_on g.D.Drive c.args.self.now.asked c.args.fetching c.step.new.self _ c.args.drives.now c.step.new.drives c.requires.same
    (rw c.in-Ok-None.field-0-is at c.in-Ok-None.ensures.steps))

pub returns-in-Ok-Some-clause-steps : goal.returns-in-Ok-Some-clause-steps
returns-in-Ok-Some-clause-steps g c =
    fetch_given g.D.Drive c.args.self.now.asked c.args.fetching c.step.new.self c.in-Ok-Some.stripe c.give.new.self.state _ c.give.result c.args.drives.now c.step.new.drives
    c.requires.same (at_place c.step.new.self) (rw c.in-Ok-Some.field-0-is at c.in-Ok-Some.ensures.steps) (rw c.requires.state at c.give.ensures.gives)

pub returns-in-Err-clause-steps : goal.returns-in-Err-clause-steps
returns-in-Err-clause-steps g c =
    rw (c.refuse.ensures.state, c.refuse.ensures.fault)
    (fetch_refused g.D.Drive c.args.self.now.asked c.args.fetching c.step.new.self _ c.in-Err.fault c.args.drives.now c.step.new.drives c.requires.same
    (at_place c.step.new.self) c.in-Err.ensures.steps)

pub returns-in-Ok-None-clause-fewer : goal.returns-in-Ok-None-clause-fewer
returns-in-Ok-None-clause-fewer g c =
    rw (c.fetch_on.ensures.state, c.fetch_on.ensures.step)
    (stripe_falls c.args.fetching c.step.new.self c.in-Ok-None.ensures.steps.asked c.in-Ok-None.ensures.steps.at (rw c.in-Ok-None.field-0-is at c.in-Ok-None.ensures.fewer))

pub returns-in-Ok-Some-clause-fewer : goal.returns-in-Ok-Some-clause-fewer
returns-in-Ok-Some-clause-fewer g c =
    given_falls c.args.fetching c.step.new.self c.in-Ok-Some.stripe.items _ c.give.new.self.state c.give.result
    c.in-Ok-Some.ensures.steps.asked c.in-Ok-Some.ensures.steps.at c.args.fetching.before_end (rw c.requires.state at c.give.ensures.gives)

pub returns-in-Err-clause-fewer : goal.returns-in-Err-clause-fewer
returns-in-Err-clause-fewer g c = rw (c.refuse.ensures.state, c.refuse.ensures.fault) refl
