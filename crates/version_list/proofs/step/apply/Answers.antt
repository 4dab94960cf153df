use Rattle.version_list.specs.Lawful.{IsSized}
use Rattle.version_list.specs.Step.{Step}
use Rattle.version_list.proofs.NamedLemmas.{unnamed}
use Rattle.version_list.proofs.StepLemmas.{IsCanonical-Step, IsCanonical-Answers}
use Rattle.version_list.proofs.step.apply.Goals as goal

pub returns-clause-canonical : goal.returns-clause-canonical
returns-clause-canonical c =
    IsCanonical-Answers (Step c.args.state.now c.args.mode c.args.act.now c.args.id c.args.now) c.args.state.now (IsSized c.args.act.now)
    c.do_act.result c.do_act.ensures.step c.do_act.ensures.sized
    (λ sized reply new due.
    IsCanonical-Step c.args.state.now c.args.mode c.args.act.now c.args.id c.args.now reply new c.requires.canonical
    (unnamed c.args.id c.args.state.now c.requires.fresh)
    c.requires.moment c.requires.lawful sized due)
