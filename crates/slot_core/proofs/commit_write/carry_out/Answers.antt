use Rattle.std.proofs.Common.{◌+◌, ℕ, List, Option, None, Ok, Err, ap, subst, sym, refl, inl}
use Rattle.audit_trail.specs.declared.entry.Deed.TheVariants.{Done as DoneDeed, Kept as KeptDeed}
use Rattle.audit_trail.specs.declared.entry.Entry.{Entry}
use Rattle.stamp_id.specs.declared.version.VersionId.{VersionId}
use Rattle.register_core.specs.Found.{content_of}
use Rattle.register_core.specs.declared.faults.QuorumFault.{QuorumFault}
use Rattle.slot_history.specs.Standing.{Records}
use Rattle.slot_history.specs.State.{Register, State}
use Rattle.slot_rules.specs.Deeds.{name_of}
use Rattle.slot_rules.specs.Owning.{again_takes, base_after}
use Rattle.slot_rules.specs.Planning.{IsGoneBy}
use Rattle.slot_rules.specs.declared.site.Drawn.{Drawn}
use Rattle.slot_core.specs.CommitOutcome.{EntryLeaves, answer_of, answer_told, deed_told, kept_with}
use Rattle.slot_core.specs.Commits.{MayCommitData, ShowsTrash}
use Rattle.slot_core.specs.Settlement.{SettledOn, SettlesAfter, numbers_at}
use Rattle.slot_core.specs.declared.commit_write.Outcome.TheVariants.{Done, Kept}
use Rattle.slot_core.proofs.LanesStayLemmas.{goes_twice}
use Rattle.slot_core.proofs.CarryLemmas.{entry_leaves, finds_leaves, kept_leaves}
use Rattle.slot_core.proofs.CarryOutLemmas.{gone_none, mid_low, none_told, own_over, plan_fits, plan_none, plan_own, writes_calls, writes_entry, writes_told}
use Rattle.slot_core.proofs.LandLemmas.{LandLaws}
use Rattle.slot_core.proofs.TurnLemmas.{forward_has_memory}
use Rattle.slot_core.proofs.commit_write.carry_out.Goals as goal

pub returns-in-Err-clause-leaves : goal.returns-in-Err-clause-leaves
returns-in-Err-clause-leaves g c deed put now rule longest old disks disks_after holding rest records state plan named ready long stay tells_stay held s lands fits was =
    let T : Type 0 = g.row.D.Denot in
    let D = g.D.Drive in
    let site = c.args.site.now in
    let drawn : Drawn = c.args.drawn.now in
    let mid : Drawn = c.forward.new.drawn in
    let lanes : List T = c.forward.new.lanes in
    let trash : List VersionId = c.args.trash.now.items in
    let laws : LandLaws = record { ends = c.resting_laws.ensures.end; given_up = c.flight_laws.ensures.given_up; trash = c.hands_laws.ensures.trash; freed = c.hands_laws.ensures.freed } in
    let settles = subst (λ (n : List ℕ). SettlesAfter {D = T} D {E = QuorumFault} site drawn mid n c.args.ready (Err c.in-Err.fault) c.args.lanes.now lanes)
    (sym named) c.in-Err.ensures.settles in
    let settled = settles rule longest old disks disks_after holding records state ready long stay tells_stay held s in
    entry_leaves {D = T} D.tells D.files site drawn mid mid holding (kept_with holding rest trash) (name_of deed) None KeptDeed site.turns (λ after now. Unit {0}) lanes lanes
    (λ before after. Unit {0}) (λ disks hands less. MayCommitData deed (kept_with holding rest trash) disks hands less) records state (λ after now known. tt) settled
    (kept_leaves {D = T} D.tells D.files laws site mid deed holding rest put trash trash lanes settled.after settled.now settled.stands lands was refl)

pub returns-in-Err-clause-told : goal.returns-in-Err-clause-told
returns-in-Err-clause-told g c deed put now plan =
    let D = g.D.Drive in
    λ same. forward_has_memory D c.args.site.now c.args.drawn.now c.forward.new.drawn c.args.ready.first c.in-Err.fault c.args.lanes.now c.forward.new.lanes
    c.in-Err.ensures.calls same

pub returns-in-Err-clause-gone : goal.returns-in-Err-clause-gone
returns-in-Err-clause-gone g c = gone_none (answer_told (Kept c.in-Err.fault)) c.args.trash.now.items

pub returns-in-None-clause-leaves : goal.returns-in-None-clause-leaves
returns-in-None-clause-leaves g c deed put now rule longest old disks disks_after holding rest records state plan named ready long stay tells_stay held s lands fits was =
    let T : Type 0 = g.row.D.Denot in
    let D = g.D.Drive in
    let site = c.args.site.now in
    let drawn : Drawn = c.args.drawn.now in
    let mid : Drawn = c.forward.new.drawn in
    let lanes : List T = c.forward.new.lanes in
    let trash : List VersionId = c.args.trash.now.items in
    let late = c.in-Ok.late in
    let looked = c.args.ready.looked in
    let base = base_after looked.base c.args.ready.first in
    let content : List ℕ = content_of looked.base looked.pending in
    let tale = c.args.plan.tale in
    let laws : LandLaws = record { ends = c.resting_laws.ensures.end; given_up = c.flight_laws.ensures.given_up; trash = c.hands_laws.ensures.trash; freed = c.hands_laws.ensures.freed } in
    let settles = subst (λ (n : List ℕ). SettlesAfter {D = T} D {E = QuorumFault} site drawn mid n c.args.ready (Ok late) c.args.lanes.now lanes)
    (sym named) c.in-Ok.ensures.settles in
    let settled = settles rule longest old disks disks_after holding records state ready long stay tells_stay held s in
    let none = plan_none site (drawn.seq + again_takes c.args.ready.first) c.args.ready deed put now c.args.plan c.in-None.is plan in
    entry_leaves {D = T} D.tells D.files site drawn mid mid holding (kept_with holding rest trash) (name_of deed) late (DoneDeed tale.audit.call tale.audit.reply) site.turns
    (λ (after : Records) (now : State). SettledOn (name_of deed) base content late after now) lanes lanes
    (λ before after. ShowsTrash deed (answer_of tale tale.refused) trash trash before after) (λ disks hands less. MayCommitData deed (kept_with holding rest trash) disks hands less)
    records state (λ after now known. known.is_last) settled
    (finds_leaves {D = T} D.tells D.files laws site mid deed now tale none.id content holding rest put trash trash lanes settled.after settled.now none.tale
    (ap (λ (r : Register). r.content) settled.known.register_is) settled.known.held none.does none.gone settled.stands lands was refl)

pub returns-in-None-clause-told : goal.returns-in-None-clause-told
returns-in-None-clause-told g c deed put now plan =
    none_told c.args.ready deed now c.args.plan
    (plan_none c.args.site.now (c.args.drawn.now.seq + again_takes c.args.ready.first) c.args.ready deed put now c.args.plan c.in-None.is plan)

pub returns-in-None-clause-calls : goal.returns-in-None-clause-calls
returns-in-None-clause-calls g c = (refl, inl (c.in-None.is, c.in-Ok.ensures.calls))

pub returns-in-None-clause-gone : goal.returns-in-None-clause-gone
returns-in-None-clause-gone g c = gone_none (answer_told (Done c.args.plan.tale c.in-Ok.late)) c.args.trash.now.items

pub write_own-requires-clause-fits : goal.write_own-requires-clause-fits
write_own-requires-clause-fits g c = (plan_fits c.args.site.now.set c.args.drawn.now.seq c.args.plan c.in-Some.own c.in-Some.is c.requires.plan).0.draft

pub write_own-requires-clause-served : goal.write_own-requires-clause-served
write_own-requires-clause-served g c = (plan_fits c.args.site.now.set c.args.drawn.now.seq c.args.plan c.in-Some.own c.in-Some.is c.requires.plan).1

pub returns-clause-leaves : goal.returns-clause-leaves
returns-clause-leaves g c deed put now rule longest old disks disks_after holding rest records state plan named ready long stay tells_stay held s lands fits was =
    let T : Type 0 = g.row.D.Denot in
    let D = g.D.Drive in
    let site = c.args.site.now in
    let drawn : Drawn = c.args.drawn.now in
    let mid : Drawn = c.forward.new.drawn in
    let later : Drawn = c.write_own.new.drawn in
    let lanes : List T = c.forward.new.lanes in
    let new : List T = c.write_own.new.lanes in
    let outcome = c.write_own.result in
    let trash : List VersionId = c.args.trash.now.items in
    let trash_new : List VersionId = c.write_own.new.trash.items in
    let late = c.in-Ok.late in
    let looked = c.args.ready.looked in
    let base = base_after looked.base c.args.ready.first in
    let content : List ℕ = content_of looked.base looked.pending in
    let last : ℕ = drawn.seq + again_takes c.args.ready.first in
    let own = c.in-Some.own in
    let tale = c.args.plan.tale in
    let settles = subst (λ (n : List ℕ). SettlesAfter {D = T} D {E = QuorumFault} site drawn mid n c.args.ready (Ok late) c.args.lanes.now lanes)
    (sym named) c.in-Ok.ensures.settles in
    let settled = settles rule longest old disks disks_after holding records state ready long stay tells_stay held s in
    let mine = plan_own site last c.args.ready deed put now c.args.plan own c.in-Some.is plan in
    let over = own_over site last c.args.ready deed put now tale.reply own ready.ballot ready.first ready.looks.named mine.is in
    let low = mid_low {D = T} D site drawn mid c.args.ready.first late c.args.lanes.now lanes c.in-Ok.ensures.draws.few_seq c.in-Ok.ensures.calls in
    let gone = subst (λ (l : List VersionId). IsGoneBy deed content mine.is.next.content l) (sym c.deref.ensures.value) mine.gone in
    let leaves = c.write_own.ensures.leaves deed put now last base content mine.is.next holding rest settled.after settled.now low mine.tale over gone settled.stands settled.known
    lands fits was in
    subst (λ (e : Option Entry). EntryLeaves {D = T} D.tells D.files (numbers_at site drawn) (numbers_at site later) holding (kept_with holding rest trash_new) new e
    (λ before after. ShowsTrash deed (answer_told outcome) trash trash_new before after) (λ disks hands less. MayCommitData deed (kept_with holding rest trash_new) disks hands less) records state)
    (writes_entry {D = T} D site mid later own late tale outcome lanes new site.turns (name_of deed) c.write_own.ensures.calls)
    (entry_leaves {D = T} D.tells D.files site drawn mid later holding (kept_with holding rest trash_new) (name_of deed) late (deed_told outcome) site.turns
    (λ (after : Records) (now : State). SettledOn (name_of deed) base content late after now) lanes new
    (λ before after. ShowsTrash deed (answer_told outcome) trash trash_new before after) (λ disks hands less. MayCommitData deed (kept_with holding rest trash_new) disks hands less)
    records state (λ after now known. known.is_last) settled leaves)

pub returns-clause-told : goal.returns-clause-told
returns-clause-told g c deed put now plan =
    let T : Type 0 = g.row.D.Denot in
    let D = g.D.Drive in
    let last : ℕ = c.args.drawn.now.seq + again_takes c.args.ready.first in
    let mine = plan_own c.args.site.now last c.args.ready deed put now c.args.plan c.in-Some.own c.in-Some.is plan in
    writes_told {D = T} D c.args.site.now c.forward.new.drawn c.write_own.new.drawn c.in-Some.own c.in-Ok.late c.args.plan.tale c.write_own.result c.forward.new.lanes
    c.write_own.new.lanes deed now mine.tale mine.served c.write_own.ensures.calls

pub returns-clause-calls : goal.returns-clause-calls
returns-clause-calls g c =
    let T : Type 0 = g.row.D.Denot in
    let D = g.D.Drive in
    writes_calls {D = T} D c.args.site.now c.args.drawn.now c.forward.new.drawn c.write_own.new.drawn c.args.ready.first c.args.plan c.in-Some.own c.in-Ok.late
    c.write_own.result c.args.lanes.now c.forward.new.lanes c.write_own.new.lanes c.in-Some.is c.write_own.ensures.draws.seq c.in-Ok.ensures.calls c.write_own.ensures.calls

pub returns-clause-lanes : goal.returns-clause-lanes
returns-clause-lanes g c =
    goes_twice g.D.Drive c.args.lanes.now c.forward.new.lanes c.write_own.new.lanes c.in-Ok.ensures.lanes c.write_own.ensures.lanes
