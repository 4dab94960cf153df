use denote.Param.Send.{arg_send, param_send}
use Rattle.std.proofs.Common.{refl, subst}
use Rattle.ostore.specs.Rigs.{IsRigOf}
use Rattle.ostore.proofs.FitsLemmas.{fits_words}
use Rattle.ostore.proofs.ProgramLemmas.{fits_itself}
use Rattle.ostore.proofs.WaySendLemmas.{door_send, shared_send}
use Rattle.ostore.proofs.run_over.Goals as goal

pub with_ways-requires : goal.with_ways-requires
with_ways-requires g c = record { fits = fits_itself c.args.words.now c.args.rig c.args.plan.now c.requires.fits c.requires.says }

pub run-ended-requires-send-D : goal.run-ended-requires-send-D
run-ended-requires-send-D g c κs within = search (param_send, arg_send, shared_send) depth 10

pub run-ended-requires-send-O : goal.run-ended-requires-send-O
run-ended-requires-send-O g c κs within = search (param_send, arg_send, door_send) depth 10

pub run-ended-requires-clause-fits : goal.run-ended-requires-clause-fits
run-ended-requires-clause-fits g c κs within =
    fits_words c.args.words.now c.args.plan.now c.in-Ok.rig c.requires.says
    (subst (λ set. IsRigOf set c.in-Ok.rig) (c.requires.fits c.args.plan.now c.requires.says).set_is c.in-Ok.ensures.rig)

pub returns-in_default : goal.returns-in_default
returns-in_default g c = record {
  alone = λ not_serve. record {
    source = c.run_alone.result.source;
    ended = c.run_alone.result.ended;
    does = c.run_alone.ensures.does c.args.plan.now c.requires.says;
    status_is = refl;
  };
}
