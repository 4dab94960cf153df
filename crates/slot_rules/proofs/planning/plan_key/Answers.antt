use Rattle.std.proofs.Common.{Err, subst}
use Rattle.version_list.specs.Answers.{Answers, state_after}
use Rattle.version_list.specs.Step.{Step}
use Rattle.version_list.specs.declared.outcome.ActFault.{ActFault}
use Rattle.slot_rules.specs.Planning.{Applies, IsPlanned}
use Rattle.slot_rules.specs.declared.commit.Commit.TheVariants.{Key}
use Rattle.slot_rules.specs.declared.planning.Planned.{Planned}
use Rattle.slot_rules.proofs.PlanLemmas.{applied_planned, done_answers, if_ok, refused_planned}
use Rattle.slot_rules.proofs.planning.plan_key.Goals as goal

pub plan_applied-requires-clause-done : goal.plan_applied-requires-clause-done
plan_applied-requires-clause-done c =
    done_answers (Step c.args.state.now c.args.mode c.args.act.now c.args.id c.args.now) c.in-Ok.applied.done (state_after c.args.state.now c.in-Ok.applied) c.in-Ok.ensures.step.done

pub returns-in-Ok : goal.returns-in-Ok
returns-in-Ok c at content spells =
    if_ok (λ (p : Planned). Applies c.in-Ok.applied p) (λ (p : Planned). IsPlanned (Key at c.args.mode c.args.act.now) c.args.now c.args.id content p) c.plan_applied.result
    (λ p a. applied_planned at c.args.mode c.args.act.now c.args.id c.args.now c.args.state.now content spells c.state_laws.ensures.injective c.in-Ok.applied p a
    c.in-Ok.ensures.step c.in-Ok.ensures.canonical) c.plan_applied.ensures

pub returns-in-Err-Refused : goal.returns-in-Err-Refused
returns-in-Err-Refused c at content spells =
    let due = Step c.args.state.now c.args.mode c.args.act.now c.args.id c.args.now in
    let step = subst (λ (f : ActFault). Answers due c.args.state.now (Err f)) c.in-Err-Refused.field-0-is c.in-Err-Refused.ensures.step in
    refused_planned at c.args.mode c.args.act.now c.args.id c.args.now c.args.state.now content spells c.state_laws.ensures.injective c.in-Err-Refused.why c.refused.result
    step c.refused.ensures.reply c.refused.ensures.refused c.refused.ensures.content c.refused.ensures.gone
