use Rattle.std.proofs.Common.{◌∙◌, ℕ, List, Option, Err, subst, sym, refl, inl, arith}
use Rattle.stamp_id.specs.declared.version.VersionId.{VersionId}
use Rattle.register_core.specs.Found.{content_of}
use Rattle.slot_rules.specs.Deeds.{name_of}
use Rattle.slot_rules.specs.DeedRules.{deed_fault, deed_most}
use Rattle.slot_rules.specs.declared.site.Drawn.{Drawn}
use Rattle.slot_core.specs.CommitOutcome.{IsTold, answer_told, deed_told}
use Rattle.slot_core.specs.CommitCauses.{CommitCause}
use Rattle.slot_core.specs.CommitPlan.{CommitLeaves}
use Rattle.slot_core.specs.RegisterLook.{LooksAt}
use Rattle.slot_core.specs.Settlement.{IsReady, numbers_at}
use Rattle.slot_core.specs.declared.commit_write.Outcome.{Outcome}
use Rattle.slot_core.proofs.LanesStayLemmas.{files_stay, goes_after_read, read_goes_on, tells_stay}
use Rattle.slot_core.proofs.CarryOutLemmas.{gone_none}
use Rattle.slot_core.proofs.CommitCauseLemmas.{finish_cause, look_refused}
use Rattle.slot_core.proofs.FinishLemmas.{deed_most_is, deed_rule, id_drawn, kept_cases, lacks_leaves, look_leaves, read_for, ready_fits}
use Rattle.slot_core.proofs.LandLemmas.{LandLaws}
use Rattle.slot_core.proofs.commit_plan.commit_register.Goals as goal

pub returns-in-Err-clause-leaves : goal.returns-in-Err-clause-leaves
returns-in-Err-clause-leaves g c =
    let T : Type 0 = g.row.D.Denot in
    let D = g.D.Drive in
    let site = c.args.ask.now.site in
    let drawn : Drawn = c.args.drawn.now in
    let deed = c.args.deed.now in
    let trash : List VersionId = c.args.trash.now.items in
    let old : List T = c.args.lanes.now in
    let new : List T = c.look_at.new.lanes in
    let laws : LandLaws = record { ends = c.resting_laws.ensures.end; given_up = c.flight_laws.ensures.given_up; trash = c.hands_laws.ensures.trash; freed = c.hands_laws.ensures.freed } in
    kept_cases (λ (o : Outcome). CommitLeaves {D = T} D.tells D.files site drawn drawn deed c.args.ask.now.put o trash trash old new) c.in-Err.fault c.kept.result c.kept.ensures
    (λ other. look_leaves {D = T} D laws site drawn deed c.args.ask.now.put c.in-Err.fault trash trash old new (omega (arith, c.look_at.auto.lanes)) (files_stay g.D.Drive c.args.lanes.now c.look_at.new.lanes c.in-Err.ensures.lanes_read)
    (tells_stay g.D.Drive c.args.lanes.now c.look_at.new.lanes c.in-Err.ensures.lanes_read) refl)
    (lacks_leaves {D = T} D laws site drawn deed c.args.ask.now.put trash trash old new (omega (arith, c.look_at.auto.lanes)) (files_stay g.D.Drive c.args.lanes.now c.look_at.new.lanes c.in-Err.ensures.lanes_read) (tells_stay g.D.Drive c.args.lanes.now c.look_at.new.lanes c.in-Err.ensures.lanes_read) refl)

pub returns-in-Err-clause-told : goal.returns-in-Err-clause-told
returns-in-Err-clause-told g c =
    kept_cases (λ (o : Outcome). IsTold c.args.deed.now c.args.ask.now.moment o) c.in-Err.fault c.kept.result c.kept.ensures (λ other. other) tt

pub returns-in-Err-clause-gone : goal.returns-in-Err-clause-gone
returns-in-Err-clause-gone g c = gone_none (answer_told c.kept.result) c.args.trash.now.items

pub returns-in-Err-clause-cause : goal.returns-in-Err-clause-cause
returns-in-Err-clause-cause g c =
    let T : Type 0 = g.row.D.Denot in
    let D = g.D.Drive in
    let site = c.args.ask.now.site in
    let drawn : Drawn = c.args.drawn.now in
    let deed = c.args.deed.now in
    let rule : List ℕ → Option ℕ = λ (content : List ℕ). deed_fault c.rule_of_deed-rule.result content in
    let looks = subst (λ (n : List ℕ). LooksAt {D = T} D site drawn n rule (deed_most c.rule_of_deed-rule.result) (Err c.in-Err.fault) c.args.lanes.now c.look_at.new.lanes
    c.args.disks.now c.look_at.new.disks) (sym c.requires.named) c.in-Err.ensures.looks in
    kept_cases (λ (o : Outcome). CommitCause {D = T} D (numbers_at site drawn) (numbers_at site drawn) deed c.args.ask.now.put c.args.ask.now.moment (answer_told o) (deed_told o) c.args.lanes.now
    c.look_at.new.lanes c.args.disks.now c.look_at.new.disks) c.in-Err.fault c.kept.result c.kept.ensures
    (λ other. (
      other,
      inl (look_refused {D = T} D site drawn deed c.args.ask.now.put rule (deed_most c.rule_of_deed-rule.result) c.in-Err.fault c.args.lanes.now c.look_at.new.lanes c.args.disks.now
          c.look_at.new.disks (deed_rule site drawn deed c.args.ask.now.put c.own_ids-ids.result c.rule_of_deed-rule.result c.rule_of_deed-rule.ensures c.own_ids-ids.ensures.alone c.own_ids-ids.ensures.after) looks),
    ))
    (files_stay g.D.Drive c.args.lanes.now c.look_at.new.lanes c.in-Err.ensures.lanes_read)

pub returns-in-Err-plan_deed-clause-leaves : goal.returns-in-Err-plan_deed-clause-leaves
returns-in-Err-plan_deed-clause-leaves g c =
    let D = g.D.Drive in
    let laws : LandLaws = record { ends = c.resting_laws.ensures.end; given_up = c.flight_laws.ensures.given_up; trash = c.hands_laws.ensures.trash; freed = c.hands_laws.ensures.freed } in
    lacks_leaves {D = g.row.D.Denot} D laws c.args.ask.now.site c.args.drawn.now c.args.deed.now c.args.ask.now.put c.args.trash.now.items c.args.trash.now.items c.args.lanes.now
    c.look_at.new.lanes (omega (arith, c.look_at.auto.lanes)) (files_stay g.D.Drive c.args.lanes.now c.look_at.new.lanes c.in-Ok.ensures.lanes_read) (tells_stay g.D.Drive c.args.lanes.now c.look_at.new.lanes c.in-Ok.ensures.lanes_read) refl

pub plan_deed-requires-clause-of_deed : goal.plan_deed-requires-clause-of_deed
plan_deed-requires-clause-of_deed g c =
    c.in-Ok.ensures.most ∙ deed_most_is c.args.deed.now c.own_ids-ids.result c.rule_of_deed-rule.result c.rule_of_deed-rule.ensures

pub plan_deed-requires-clause-read : goal.plan_deed-requires-clause-read
plan_deed-requires-clause-read g c =
    let ready = c.in-Ok.ready in
    let content : List ℕ = content_of ready.looked.base ready.looked.pending in (
      content,
      read_for c.args.deed.now c.own_ids-ids.result c.rule_of_deed-rule.result c.look_at.new.rule ready.first c.id_over-id.result content c.rule_of_deed-rule.ensures c.in-Ok.ensures.most
          c.id_over-id.ensures c.in-Ok.ensures.looks.looks.accepted c.in-Ok.ensures.read,
    )

pub finish-requires-clause-work : goal.finish-requires-clause-work
finish-requires-clause-work g c =
    let T : Type 0 = g.row.D.Denot in
    let D = g.D.Drive in
    let site = c.args.ask.now.site in
    let drawn : Drawn = c.args.drawn.now in
    let deed = c.args.deed.now in
    let ids = c.own_ids-ids in
    let rule = c.rule_of_deed-rule.result in
    let ready = c.in-Ok.ready in
    let content : List ℕ = content_of ready.looked.base ready.looked.pending in
    let looks = subst (λ (n : List ℕ). IsReady {D = T} D site drawn n (λ (content : List ℕ). deed_fault rule content) (deed_most rule) ready c.args.lanes.now
    c.look_at.new.lanes c.args.disks.now c.look_at.new.disks) (sym c.requires.named) c.in-Ok.ensures.looks in
    record {
      fits = ready_fits {D = T} D site drawn (name_of deed) (λ (content : List ℕ). deed_fault rule content) (deed_most rule) ready c.args.lanes.now
          c.look_at.new.lanes c.args.disks.now c.look_at.new.disks deed c.in-Ok.ensures.fits c.requires.may.lanes c.requires.may.short
          (sym (deed_most_is deed ids.result rule c.rule_of_deed-rule.ensures)) looks;
      id_is = id_drawn site drawn.seq c.args.ask.now.put ids.result ready.first c.id_over-id.result c.id_over-id.ensures ids.ensures.alone ids.ensures.after;
      planned_is = c.in-Ok-plan_deed.ensures content
          (read_for deed ids.result rule c.look_at.new.rule ready.first c.id_over-id.result content c.rule_of_deed-rule.ensures c.in-Ok.ensures.most
          c.id_over-id.ensures c.in-Ok.ensures.looks.looks.accepted c.in-Ok.ensures.read);
    }

pub returns-clause-leaves : goal.returns-clause-leaves
returns-clause-leaves g c =
    let T : Type 0 = g.row.D.Denot in
    let D = g.D.Drive in
    let rule : List ℕ → Option ℕ = λ (content : List ℕ). deed_fault c.rule_of_deed-rule.result content in
    let ready = subst (λ (n : List ℕ). IsReady {D = T} D c.args.ask.now.site c.args.drawn.now n rule (deed_most c.rule_of_deed-rule.result) c.in-Ok.ready c.args.lanes.now c.look_at.new.lanes
    c.args.disks.now c.look_at.new.disks) (sym c.requires.named) c.in-Ok.ensures.looks in
    c.finish.ensures.leaves rule (deed_most c.rule_of_deed-rule.result) c.args.lanes.now c.args.disks.now c.look_at.new.disks ready (omega (arith, c.look_at.auto.lanes)) (files_stay g.D.Drive c.args.lanes.now c.look_at.new.lanes c.in-Ok.ensures.lanes_read) (tells_stay g.D.Drive c.args.lanes.now c.look_at.new.lanes c.in-Ok.ensures.lanes_read)

pub returns-clause-cause : goal.returns-clause-cause
returns-clause-cause g c =
    let T : Type 0 = g.row.D.Denot in
    let D = g.D.Drive in
    let rule : List ℕ → Option ℕ = λ (content : List ℕ). deed_fault c.rule_of_deed-rule.result content in
    let ready = subst (λ (n : List ℕ). IsReady {D = T} D c.args.ask.now.site c.args.drawn.now n rule (deed_most c.rule_of_deed-rule.result) c.in-Ok.ready c.args.lanes.now c.look_at.new.lanes
    c.args.disks.now c.look_at.new.disks) (sym c.requires.named) c.in-Ok.ensures.looks in
    let drawn : Drawn = c.args.drawn.now in
    let site = c.args.ask.now.site in
    let deed = c.args.deed.now in
    finish_cause {D = T} D site drawn c.finish.new.drawn c.in-Ok.ready deed c.args.ask.now.put c.args.ask.now.moment rule (deed_most c.rule_of_deed-rule.result) c.args.lanes.now
    c.look_at.new.lanes c.finish.new.lanes c.args.disks.now c.look_at.new.disks (deed_rule site drawn deed c.args.ask.now.put c.own_ids-ids.result c.rule_of_deed-rule.result c.rule_of_deed-rule.ensures c.own_ids-ids.ensures.alone c.own_ids-ids.ensures.after) ready (files_stay g.D.Drive c.args.lanes.now c.look_at.new.lanes c.in-Ok.ensures.lanes_read)
    (omega (arith, c.look_at.auto.lanes)) (tells_stay g.D.Drive c.args.lanes.now c.look_at.new.lanes c.in-Ok.ensures.lanes_read) c.finish.result c.finish.ensures.calls

pub returns-clause-lanes : goal.returns-clause-lanes
returns-clause-lanes g c =
    goes_after_read g.D.Drive c.args.lanes.now c.look_at.new.lanes c.finish.new.lanes c.in-Ok.ensures.lanes_read c.finish.ensures.lanes

pub returns-in-Err-plan_deed-clause-cause : goal.returns-in-Err-plan_deed-clause-cause
returns-in-Err-plan_deed-clause-cause g c = files_stay g.D.Drive c.args.lanes.now c.look_at.new.lanes c.in-Ok.ensures.lanes_read

pub returns-in-Err-plan_deed-clause-lanes : goal.returns-in-Err-plan_deed-clause-lanes
returns-in-Err-plan_deed-clause-lanes g c = read_goes_on g.D.Drive c.args.lanes.now c.look_at.new.lanes c.in-Ok.ensures.lanes_read

pub returns-in-Err-clause-lanes : goal.returns-in-Err-clause-lanes
returns-in-Err-clause-lanes g c = read_goes_on g.D.Drive c.args.lanes.now c.look_at.new.lanes c.in-Err.ensures.lanes_read
