-- A stage of a body begins.
use Rattle.put_stage.proofs.BeginLemmas.{begins_body}
use Rattle.put_stage.proofs.stage.Stage.new.Goals as goal

pub returns : goal.returns
returns c =
    begins_body c.args.set c.args.id c.args.name.now c.args.size c.args.md5 c.in_ok-load.load c.first_stage.result c.in_ok-load.ensures
    c.first_stage.ensures.load c.first_stage.ensures.dues c.first_stage.ensures.letters
