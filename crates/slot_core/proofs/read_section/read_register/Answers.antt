use Rattle.std.proofs.Common.{List, ℕ, subst, arith}
use Rattle.slot_history.specs.Names.{key_name}
use Rattle.slot_rules.specs.Rules.{longest_for, rule_for}
use Rattle.slot_core.specs.Causes.{LookCause}
use Rattle.slot_core.specs.ReadSection.{KnownRead, PlansRead, ReadGave}
use Rattle.slot_core.specs.Settlement.{numbers_at}
use Rattle.slot_core.proofs.LanesStayLemmas.{files_stay, goes_after_read, read_goes_on, tells_stay}
use Rattle.slot_core.proofs.FinishReadLemmas.{finished_calls, finished_leaves}
use Rattle.slot_core.proofs.SettlingLemmas.{looked_settled}
use Rattle.slot_core.proofs.TurnLemmas.{refusal_calls, refusal_leaves, stands_looked}
use Rattle.slot_core.proofs.read_section.read_register.Goals as goal

pub returns-in-Err-clause-leaves : goal.returns-in-Err-clause-leaves
returns-in-Err-clause-leaves g c holding records state s =
    let D = g.D.Drive in
    let site = c.args.ask.now.site in
    let numbers = numbers_at site c.args.drawn.now in
    refusal_leaves D.tells D.files numbers numbers holding (λ plan late now. KnownRead site.turns c.args.at.now c.args.ask.now.mode c.args.ask.now.pick plan late now)
    c.in-Err.fault c.refusal.result c.look_and_plan.new.lanes records state c.refusal.ensures
    (looked_settled D numbers holding (λ after now. Unit {0}) c.args.lanes.now c.look_and_plan.new.lanes records state
    (omega (arith, c.look_and_plan.auto.lanes)) (files_stay g.D.Drive c.args.lanes.now c.look_and_plan.new.lanes c.in-Err.ensures.lanes_read) (tells_stay g.D.Drive c.args.lanes.now c.look_and_plan.new.lanes c.in-Err.ensures.lanes_read) tt s)
    (λ same. stands_looked D numbers holding c.args.lanes.now c.look_and_plan.new.lanes records state
    (omega (arith, c.look_and_plan.auto.lanes)) (files_stay g.D.Drive c.args.lanes.now c.look_and_plan.new.lanes c.in-Err.ensures.lanes_read) (tells_stay g.D.Drive c.args.lanes.now c.look_and_plan.new.lanes c.in-Err.ensures.lanes_read) s)

pub returns-in-Err-clause-calls : goal.returns-in-Err-clause-calls
returns-in-Err-clause-calls g c =
    let D = g.D.Drive in
    let site = c.args.ask.now.site in
    let at = c.args.at.now in
    let numbers = numbers_at site c.args.drawn.now in
    refusal_calls D numbers numbers (key_name at)
    (λ plan late. ReadGave D numbers numbers at (λ state. PlansRead site.turns at c.args.ask.now.mode c.args.ask.now.pick state plan) late c.args.lanes.now
    c.look_and_plan.new.lanes c.args.disks.now c.look_and_plan.new.disks)
    c.in-Err.fault c.refusal.result c.args.lanes.now c.look_and_plan.new.lanes c.args.disks.now c.look_and_plan.new.disks c.refusal.ensures
    (λ other. subst (λ (n : List ℕ). LookCause D numbers numbers n (rule_for n) (longest_for n) c.in-Err.fault c.args.lanes.now c.look_and_plan.new.lanes
    c.args.disks.now c.look_and_plan.new.disks) c.requires.named (c.in-Err.ensures.looks other))
    (λ same. (files_stay g.D.Drive c.args.lanes.now c.look_and_plan.new.lanes c.in-Err.ensures.lanes_read))

pub returns-in-Ok-clause-leaves : goal.returns-in-Ok-clause-leaves
returns-in-Ok-clause-leaves g c holding records state s =
    let D = g.D.Drive in
    finished_leaves D c.args.ask.now.site c.args.drawn.now c.finish_planned.new.drawn c.args.name.now c.args.at.now c.args.ask.now.mode c.args.ask.now.pick c.in-Ok.planned
    c.finish_planned.result c.args.lanes.now c.look_and_plan.new.lanes c.finish_planned.new.lanes c.args.disks.now c.look_and_plan.new.disks holding records state c.requires.named
    c.in-Ok.ensures.looks (omega (arith, c.look_and_plan.auto.lanes)) (files_stay g.D.Drive c.args.lanes.now c.look_and_plan.new.lanes c.in-Ok.ensures.lanes_read) (tells_stay g.D.Drive c.args.lanes.now c.look_and_plan.new.lanes c.in-Ok.ensures.lanes_read) c.finish_planned.ensures.finishes s

pub returns-in-Ok-clause-calls : goal.returns-in-Ok-clause-calls
returns-in-Ok-clause-calls g c =
    let D = g.D.Drive in
    finished_calls D c.args.ask.now.site c.args.drawn.now c.finish_planned.new.drawn c.args.name.now c.args.at.now c.args.ask.now.mode c.args.ask.now.pick c.in-Ok.planned
    c.finish_planned.result c.args.lanes.now c.look_and_plan.new.lanes c.finish_planned.new.lanes c.args.disks.now c.look_and_plan.new.disks c.requires.named
    c.in-Ok.ensures.looks (files_stay g.D.Drive c.args.lanes.now c.look_and_plan.new.lanes c.in-Ok.ensures.lanes_read) c.finish_planned.ensures.finishes

pub returns-in-Ok-clause-lanes : goal.returns-in-Ok-clause-lanes
returns-in-Ok-clause-lanes g c =
    goes_after_read g.D.Drive c.args.lanes.now c.look_and_plan.new.lanes c.finish_planned.new.lanes c.in-Ok.ensures.lanes_read c.finish_planned.ensures.lanes

pub returns-in-Err-clause-lanes : goal.returns-in-Err-clause-lanes
returns-in-Err-clause-lanes g c = read_goes_on g.D.Drive c.args.lanes.now c.look_and_plan.new.lanes c.in-Err.ensures.lanes_read
