use Rattle.std.proofs.Common.{◌≡◌, ◌∙◌, refl, sym}
use Rattle.std.specs.Prelude.{Some}
use Rattle.get_read.proofs.WindowStepLemmas.{steps_of_stripe, steps_of_window}
use Rattle.get_read.proofs.fetch.Fetching.step.Goals as goal

pub returns-in-Some-clause-steps : goal.returns-in-Some-clause-steps
returns-in-Some-clause-steps g c =
    let is : c.args.self.now.ahead ≡ Some c.in-Some.window = sym c.replace.ensures.value ∙ c.in-Some.is in
    steps_of_window g.D.Drive c.args.self.now _ c.step_window.new.self c.in-Some.window c.step_window.result c.args.drives.now c.step_window.new.drives
    (record { asked = refl; manifest = refl; at = refl; part = refl; work = refl }) c.replace.ensures.after is c.step_window.ensures.steps

pub returns-in-None-clause-steps : goal.returns-in-None-clause-steps
returns-in-None-clause-steps g c =
    steps_of_stripe g.D.Drive c.args.self.now _ c.step_alone.new.self c.step_alone.result c.args.drives.now c.step_alone.new.drives
    (record { asked = refl; manifest = refl; at = refl; part = refl; work = refl }) c.replace.ensures.after c.step_alone.ensures.steps
