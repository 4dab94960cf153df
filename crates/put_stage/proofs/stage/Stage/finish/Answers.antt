use Rattle.put_stage.proofs.FinishLemmas.{finished_body, finished_manifest}
use Rattle.put_stage.proofs.stage.Stage.finish.Goals as goal

pub returns-clause-body : goal.returns-clause-body
returns-clause-body c = finished_body c.args.self c.answer.result c.requires c.in_ok-compare.ensures c.answer.ensures

pub returns-clause-manifest : goal.returns-clause-manifest
returns-clause-manifest c = finished_manifest c.args.self c.answer.result c.requires c.in_ok-compare.ensures c.answer.ensures
