use Rattle.std.proofs.Common.{◌∙◌, None, ap, sym, inl, inr}
use Rattle.audit_trail.specs.declared.entry.Entry.{Entry}
use Rattle.slot_core.specs.AuditEntry.{has_late}
use Rattle.slot_core.proofs.CommitLemmas.{lost_turns, missing_turns}
use Rattle.slot_core.proofs.TurnLemmas.{written_entry}
use Rattle.slot_core.proofs.commit_section.commit_missing.Goals as goal

pub returns-in-Err-clause-turns : goal.returns-in-Err-clause-turns
returns-in-Err-clause-turns g c drawn =
    lost_turns c.args.site.now drawn c.in-Err.why c.unreserved.result _ _ _ _ c.unreserved.ensures c.in-Err.ensures.entries c.in-Err.ensures.reserves

pub returns-in-Err-clause-missed : goal.returns-in-Err-clause-missed
returns-in-Err-clause-missed g c = inl (c.in-Err.why, c.unreserved.ensures)

pub refuse-requires-clause-same : goal.refuse-requires-clause-same
refuse-requires-clause-same g c = let kept = c.in-Ok.ensures.opening.entries in kept.stub_is ∙ sym kept.audit_is

pub returns-clause-turns : goal.returns-clause-turns
returns-clause-turns g c drawn =
    let made = c.refuse.ensures.stub in
    missing_turns c.args.site.now drawn c.args.id (has_late c.in-Ok.opening.entries.audit None) c.refuse.result made.0 _ _ _ _ _ c.refuse.ensures.answer made.1 made.2
    (ap (λ (e : Entry). e.ticket) c.in-Ok.ensures.opening.entries.audit_is) c.in-Ok.ensures.entries c.refuse.ensures.entries (c.refuse.ensures.count ∙ c.in-Ok.ensures.reserves)

pub returns-clause-missed : goal.returns-clause-missed
returns-clause-missed g c =
    let made = c.refuse.ensures.stub in
    inr (
      c.refuse.ensures.answer,
      written_entry c.args.site.now.turns _ None c.in-Ok.opening.entries.audit c.refuse.result.stub made.0 c.in-Ok.ensures.opening.entries.audit_is made.1 made.2.entry_is,
    )
