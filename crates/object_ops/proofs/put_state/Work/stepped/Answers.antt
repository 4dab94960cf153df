use Rattle.std.proofs.Common.{◌≡◌, ◌<◌, sym, subst}
use Rattle.drive_base.specs.View.{GoesOn}
use Rattle.drive_base.proofs.ViewLemmas.{at_each_drive}
use Rattle.put_stage.specs.Left.{calls_left}
use Rattle.put_stage.specs.Steps.{StepWorks, StepsOnce}
use Rattle.object_ops.proofs.PutNext.{due_falls}
use Rattle.object_ops.proofs.put_state.Work.stepped.Goals as goal

pub returns-clause-steps : goal.returns-clause-steps
returns-clause-steps g c =
    let D = g.D.Drive in
    let was = c.args.self.stage in
    let same = sym c.new.ensures.stage_is in
    record {
      mode_is = c.new.ensures.mode_is;
      flight_is = c.new.ensures.flight_is;
      once = subst (λ s. StepsOnce D was s c.args.disks.now c.step.new.drives) same c.step.ensures.once;
      works = subst (λ s. StepWorks D was s c.args.disks.now c.step.new.drives) same c.step.ensures.works;
      load = subst (λ s. s.load ≡ was.load) same c.step.ensures.load;
      tells = λ k d low. (at_each_drive D (λ i. GoesOn) c.args.disks.now c.step.new.drives c.step.ensures.drives k d low).tells;
      counts = λ k d low. (at_each_drive D (λ i. GoesOn) c.args.disks.now c.step.new.drives c.step.ensures.drives k d low).count;
      fewer = subst (λ s. calls_left s < calls_left was) same
          (due_falls was c.args.self.next (calls_left c.step.new.self) (calls_left was) c.args.self.is_next c.requires.due c.step.ensures.fewer);
    }
