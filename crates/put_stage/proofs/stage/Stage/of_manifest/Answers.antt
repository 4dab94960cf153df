-- A stage of a manifest alone begins.
use Rattle.put_stage.proofs.BeginLemmas.{begins_manifest}
use Rattle.put_stage.proofs.stage.Stage.of_manifest.Goals as goal

pub returns : goal.returns
returns c =
    begins_manifest c.args.set c.args.id c.args.manifest c.args.etag c.in_ok-load.load c.first_stage.result c.in_ok-load.ensures.0 c.in_ok-load.ensures.1
    c.first_stage.ensures.load c.first_stage.ensures.dues c.first_stage.ensures.letters
