use Rattle.std.proofs.Common.{◌≡◌, ◌∙◌, Result, ap, subst, subst₂, sym, refl}
use Rattle.audit_trail.specs.declared.entry.Deed.{Deed}
use Rattle.slot_rules.specs.Deeds.{name_of}
use Rattle.slot_rules.specs.declared.commit.Committed.{Committed}
use Rattle.slot_core.specs.CommitOutcome.{deed_told}
use Rattle.slot_core.specs.CommitCauses.{CommitCause, deed_in}
use Rattle.slot_core.specs.Commits.{GoneByAnswer, SaysCommit, ShowsTrash}
use Rattle.slot_core.specs.Settlement.{numbers_at}
use Rattle.slot_core.specs.Stubs.{entry_of}
use Rattle.slot_core.specs.declared.slot.SlotFault.{SlotFault}
use Rattle.slot_core.proofs.AuditLemmas.{audit_since}
use Rattle.slot_core.proofs.CommitLemmas.{lost_cause, lost_entry, lost_gone, lost_leaves, lost_not_missing, lost_says, lost_turns, outcome_leaves}
use Rattle.slot_core.proofs.ConcludeLemmas.{entry_is, never_missing, never_spent, outcome_counts, outcome_says, told_deed, told_twice}
use Rattle.slot_core.proofs.LandLemmas.{LandLaws}
use Rattle.slot_core.proofs.commit_section.commit_landed.Goals as goal

pub returns-in-Err-clause-turns : goal.returns-in-Err-clause-turns
returns-in-Err-clause-turns g c =
    lost_turns c.args.ask.now.site c.args.drawn.now c.in-Err.why c.unreserved.result _ _ _ _ c.unreserved.ensures c.in-Err.ensures.entries c.in-Err.ensures.reserves

pub returns-in-Err-clause-says : goal.returns-in-Err-clause-says
returns-in-Err-clause-says g c = lost_says c.args.ask.now.site c.in-Err.why c.unreserved.result (SaysCommit c.args.deed.now c.args.ask.now.moment c.unreserved.result.answer) c.unreserved.ensures

pub returns-in-Err-clause-leaves : goal.returns-in-Err-clause-leaves
returns-in-Err-clause-leaves g c holding rest lands fits was =
    let T : Type 0 = g.row.D.Denot in
    let D = g.D.Drive in
    let trash = c.args.trash.now.items in
    let laws : LandLaws = record { ends = c.resting_laws.ensures.end; given_up = c.flight_laws.ensures.given_up; trash = c.hands_laws.ensures.trash; freed = c.hands_laws.ensures.freed } in
    lost_leaves {D = T} D laws c.args.ask.now.site c.args.drawn.now c.args.deed.now c.args.ask.now.put trash trash c.args.lanes.now c.unreserved.result.stub
    (ShowsTrash c.args.deed.now c.unreserved.result.answer trash trash) holding rest (lost_entry c.args.ask.now.site c.in-Err.why c.unreserved.result c.unreserved.ensures) lands was refl

pub returns-in-Err-clause-cause : goal.returns-in-Err-clause-cause
returns-in-Err-clause-cause g c =
    let T : Type 0 = g.row.D.Denot in
    let D = g.D.Drive in
    lost_cause {D = T} D (numbers_at c.args.ask.now.site c.args.drawn.now) (numbers_at c.args.ask.now.site c.args.drawn.now) c.args.deed.now c.args.ask.now.put c.args.ask.now.moment
    c.args.ask.now.site c.in-Err.why c.unreserved.result (deed_in (entry_of c.unreserved.result.stub)) c.args.lanes.now c.args.disks.now c.args.disks.now c.unreserved.ensures

pub returns-in-Err-clause-gone : goal.returns-in-Err-clause-gone
returns-in-Err-clause-gone g c = lost_gone c.args.ask.now.site c.in-Err.why c.unreserved.result c.args.trash.now.items c.unreserved.ensures

pub returns-in-Err-clause-checks : goal.returns-in-Err-clause-checks
returns-in-Err-clause-checks g c id same = lost_not_missing c.args.ask.now.site c.in-Err.why c.unreserved.result id c.unreserved.ensures same

pub conclude-requires-clause-same : goal.conclude-requires-clause-same
conclude-requires-clause-same g c = let kept = c.in-Ok.ensures.opening.entries in kept.stub_is ∙ sym kept.audit_is

pub conclude-requires-clause-twice : goal.conclude-requires-clause-twice
conclude-requires-clause-twice g c = told_twice c.args.deed.now c.args.ask.now.moment c.commit_register-outcome.result c.commit_register-outcome.ensures.told

pub returns-clause-turns : goal.returns-clause-turns
returns-clause-turns g c = record {
  stub_is = c.conclude.ensures.stub c.args.drawn.now;
  audit = audit_since c.conclude.result.stub _ _ _ c.in-Ok.ensures.entries c.conclude.ensures.entries;
  faults = outcome_counts c.commit_register-outcome.result c.conclude.result.answer _ _ c.conclude.ensures.answer (c.conclude.ensures.count ∙ c.in-Ok.ensures.reserves);
  unspent = never_spent c.commit_register-outcome.result c.conclude.result.answer c.conclude.ensures.answer;
}

pub returns-clause-says : goal.returns-clause-says
returns-clause-says g c =
    let outcome = c.commit_register-outcome.result in
    outcome_says c.args.deed.now c.args.ask.now.moment c.args.ask.now.site.turns outcome c.conclude.result.answer c.conclude.result.stub c.conclude.ensures.answer
    (c.conclude.ensures.entry ∙ entry_is c.args.ask.now.site.turns (name_of c.args.deed.now) c.in-Ok.opening.entries.audit outcome c.in-Ok.ensures.opening.entries.audit_is)
    c.commit_register-outcome.ensures.told

pub returns-clause-checks : goal.returns-clause-checks
returns-clause-checks g c id same = never_missing c.commit_register-outcome.result c.conclude.result.answer id c.conclude.ensures.answer same

pub returns-clause-leaves : goal.returns-clause-leaves
returns-clause-leaves g c holding rest lands fits was =
    let T : Type 0 = g.row.D.Denot in
    let D = g.D.Drive in
    let outcome = c.commit_register-outcome.result in
    let new = c.commit_register-outcome.new in
    outcome_leaves {D = T} D c.args.ask.now.site c.args.drawn.now new.drawn c.args.deed.now c.args.ask.now.put outcome c.args.trash.now.items new.trash.items c.args.lanes.now new.lanes
    c.conclude.result.answer c.conclude.result.stub holding rest c.requires.no_part c.conclude.ensures.answer
    (c.conclude.ensures.entry ∙ entry_is c.args.ask.now.site.turns (name_of c.args.deed.now) c.in-Ok.opening.entries.audit outcome c.in-Ok.ensures.opening.entries.audit_is)
    c.commit_register-outcome.ensures.leaves lands fits was

pub returns-clause-cause : goal.returns-clause-cause
returns-clause-cause g c =
    let T : Type 0 = g.row.D.Denot in
    let D = g.D.Drive in
    let new = c.commit_register-outcome.new in
    let outcome = c.commit_register-outcome.result in
    let name = name_of c.args.deed.now in
    let told : deed_in (entry_of c.conclude.result.stub) ≡ deed_told outcome =
    ap deed_in (c.conclude.ensures.entry ∙ entry_is c.args.ask.now.site.turns name c.in-Ok.opening.entries.audit outcome c.in-Ok.ensures.opening.entries.audit_is)
    ∙ told_deed c.args.ask.now.site.turns name outcome in
    subst₂ (λ (a : Result Committed SlotFault) (d : Deed). CommitCause {D = T} D (numbers_at c.args.ask.now.site c.args.drawn.now)
    (numbers_at c.args.ask.now.site new.drawn) c.args.deed.now c.args.ask.now.put c.args.ask.now.moment a d c.args.lanes.now new.lanes c.args.disks.now new.disks)
    (sym c.conclude.ensures.answer) (sym told) c.commit_register-outcome.ensures.cause

pub returns-clause-gone : goal.returns-clause-gone
returns-clause-gone g c =
    let gone = c.commit_register-outcome.ensures.gone in
    (gone.0, gone.1, subst (λ (a : Result Committed SlotFault). GoneByAnswer a gone.0) (sym c.conclude.ensures.answer) gone.2)
