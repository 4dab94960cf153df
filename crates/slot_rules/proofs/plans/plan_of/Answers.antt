use Rattle.slot_rules.proofs.OwnPlanLemmas.{plans_none, plans_own}
use Rattle.slot_rules.proofs.plans.plan_of.Goals as goal

pub returns-in_ok-tale-in-None : goal.returns-in_ok-tale-in-None
returns-in_ok-tale-in-None c =
    let told = c.in_ok-tale-in-None in
    plans_none c.args.ready.now c.args.deed.now c.args.ask.now.moment c.args.id c.args.planned told.tale c.requires.planned told.ensures.reply told.ensures.refused c.in-None.is told.ensures.tale

pub returns-in-Ok-tale_of : goal.returns-in-Ok-tale_of
returns-in-Ok-tale_of c =
    let told = c.in-Ok-tale_of in
    let own = c.in-Ok in
    plans_own c.args.ready.now c.args.deed.now c.args.ask.now.moment c.args.id c.args.planned told.tale c.requires.planned told.ensures.reply told.ensures.refused
    c.args.ask.now.site c.args.last c.args.ask.now.put c.in-Some.content own.own c.in-Some.is told.ensures.tale own.ensures.change (own.ensures.own c.args.ask.now.moment)
