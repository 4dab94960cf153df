use Rattle.put_stage.proofs.FinishLemmas.{whole_manifest}
use Rattle.put_stage.proofs.LawProofs.{open_stages_place_nothing, success_is_answered, work_outlives_others}
use Rattle.put_stage.proofs.SoFarLemmas.{all_calls_are_staging, step_calls_elsewhere, step_calls_so}
use Rattle.put_stage.proofs.steps.stage_laws.Goals as goal

pub returns-clause-others : goal.returns-clause-others
returns-clause-others c = work_outlives_others

pub returns-clause-open : goal.returns-clause-open
returns-clause-open c = open_stages_place_nothing

pub returns-clause-manifest : goal.returns-clause-manifest
returns-clause-manifest c = whole_manifest

pub returns-clause-calls : goal.returns-clause-calls
returns-clause-calls c = step_calls_so

pub returns-clause-calls_elsewhere : goal.returns-clause-calls_elsewhere
returns-clause-calls_elsewhere c = step_calls_elsewhere

pub returns-clause-placed : goal.returns-clause-placed
returns-clause-placed c = all_calls_are_staging

pub returns-clause-success : goal.returns-clause-success
returns-clause-success c = success_is_answered
