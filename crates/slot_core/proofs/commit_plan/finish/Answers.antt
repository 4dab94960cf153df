use Rattle.std.proofs.Common.{◌≡◌, ◌∙◌, ℕ, List, subst, sym, refl, inr}
use Rattle.stamp_id.specs.declared.version.VersionId.{VersionId}
use Rattle.slot_rules.specs.Deeds.{name_of}
use Rattle.slot_rules.specs.Plans.{IsPlan}
use Rattle.slot_core.specs.CommitOutcome.{EntryLeaves, answer_told, entry_told, kept_with}
use Rattle.slot_core.specs.Commits.{MayCommitData, ShowsTrash}
use Rattle.slot_core.specs.Settlement.{numbers_at}
use Rattle.slot_core.proofs.FinishLemmas.{lacks_leaves, plan_can}
use Rattle.slot_core.proofs.LandLemmas.{LandLaws}
use Rattle.slot_core.proofs.commit_plan.finish.Goals as goal

pub returns-in-Err-clause-leaves : goal.returns-in-Err-clause-leaves
returns-in-Err-clause-leaves g c rule longest old disks disks_after ready long stay told holding rest records state held s lands fits was =
    let D = g.D.Drive in
    let laws : LandLaws = record { ends = c.resting_laws.ensures.end; given_up = c.flight_laws.ensures.given_up; trash = c.hands_laws.ensures.trash; freed = c.hands_laws.ensures.freed } in
    lacks_leaves {D = g.row.D.Denot} D laws c.args.ask.now.site c.args.drawn.now c.args.deed.now c.args.ask.now.put c.args.trash.now.items c.args.trash.now.items old c.args.lanes.now
    long stay told refl holding rest records state held s lands fits was

pub returns-in-Err-make_room-clause-leaves : goal.returns-in-Err-make_room-clause-leaves
returns-in-Err-make_room-clause-leaves g c rule longest old disks disks_after ready long stay told holding rest records state held s lands fits was =
    let D = g.D.Drive in
    let laws : LandLaws = record { ends = c.resting_laws.ensures.end; given_up = c.flight_laws.ensures.given_up; trash = c.hands_laws.ensures.trash; freed = c.hands_laws.ensures.freed } in
    lacks_leaves {D = g.row.D.Denot} D laws c.args.ask.now.site c.args.drawn.now c.args.deed.now c.args.ask.now.put c.args.trash.now.items c.make_room.new.trash.items old
    c.args.lanes.now long stay told c.make_room.ensures.items holding rest records state held s lands fits was

pub carry_out-requires-clause-plan : goal.carry_out-requires-clause-plan
carry_out-requires-clause-plan g c =
    let ready = c.args.work.ready in
    let plan = subst (λ (n : ℕ). IsPlan c.args.ask.now.site n ready c.args.deed.now c.args.ask.now.put c.args.ask.now.moment c.in-Ok.plan) c.last_over-last.ensures c.in-Ok.ensures in
    plan_can c.args.ask.now.site c.args.drawn.now.seq ready c.args.deed.now c.args.ask.now.put c.args.ask.now.moment c.in-Ok.plan c.requires.work.fits plan

pub returns-clause-leaves : goal.returns-clause-leaves
returns-clause-leaves g c rule longest old disks disks_after ready long stay told holding rest records state held s lands fits was =
    let T : Type 0 = g.row.D.Denot in
    let D = g.D.Drive in
    let site = c.args.ask.now.site in
    let deed = c.args.deed.now in
    let outcome = c.carry_out.result in
    let trash_new : List VersionId = c.carry_out.new.trash.items in
    let same : c.make_room.new.trash.items ≡ c.args.trash.now.items = c.make_room.ensures.items in
    let plan = subst (λ (n : ℕ). IsPlan site n c.args.work.ready deed c.args.ask.now.put c.args.ask.now.moment c.in-Ok.plan) c.last_over-last.ensures c.in-Ok.ensures in
    subst (λ (t : List VersionId). EntryLeaves {D = T} D.tells D.files (numbers_at site c.args.drawn.now) (numbers_at site c.carry_out.new.drawn) holding (kept_with holding rest trash_new)
    c.carry_out.new.lanes (entry_told site.turns (name_of deed) outcome) (λ before after. ShowsTrash deed (answer_told outcome) t trash_new before after)
    (λ disks hands less. MayCommitData deed (kept_with holding rest trash_new) disks hands less) records state) same
    (c.carry_out.ensures.leaves deed c.args.ask.now.put c.args.ask.now.moment rule longest old disks disks_after holding rest records state plan c.requires.named ready long stay told held s lands fits
    (was ∙ sym same))

pub returns-clause-calls : goal.returns-clause-calls
returns-clause-calls g c =
    let plan = subst (λ (n : ℕ). IsPlan c.args.ask.now.site n c.args.work.ready c.args.deed.now c.args.ask.now.put c.args.ask.now.moment c.in-Ok.plan) c.last_over-last.ensures c.in-Ok.ensures in
    inr (record { plan = c.in-Ok.plan; is = plan; calls = c.carry_out.ensures.calls })
