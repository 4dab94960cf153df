use Rattle.std.proofs.Common.{rules, ◌≡◌, ◌≤◌, None, Some, Ok, ap, arith}
use Rattle.audit_trail.specs.declared.entry.Entry.{Entry}
use Rattle.slot_history.specs.Standing.{Records}
use Rattle.slot_history.specs.State.{State}
use Rattle.slot_core.specs.PeekSection.{KnownContent}
use Rattle.slot_core.specs.Sections.{ShowsContent}
use Rattle.slot_core.specs.AuditEntry.{has_late}
use Rattle.slot_core.specs.Settlement.{numbers_at}
use Rattle.slot_core.specs.Stubs.{completed_by, late_in}
use Rattle.slot_core.specs.Views.{last_of}
use Rattle.slot_core.specs.declared.slot.SlotFault.TheVariants.{Quorum}
use Rattle.slot_core.proofs.PeekLemmas.{told_cause}
use Rattle.slot_core.proofs.TurnLemmas.{kept_turn, late_entry, no_turn, shows_refused, wrote_turn, written_entry}
use Rattle.slot_core.proofs.peek_section.peek_at.Goals as goal

pub returns-in-Found-clause-leaves : goal.returns-in-Found-clause-leaves
returns-in-Found-clause-leaves g c holding records state s =
    let D = g.D.Drive in
    let site = c.args.site.now in
    let name = c.args.name.now in
    let content = c.in-Found.content in
    let late = c.in-Found.late in
    kept_turn D.tells D.files (numbers_at site c.args.drawn.now) (numbers_at site c.peek_register.new.drawn) holding name late
    (λ (after : Records) (now : State). KnownContent name content late now)
    (λ (before after : State). content ≡ (before.registers name).content) c.peek_register.new.lanes (Some c.write_down.result) site.turns records state
    (late_entry site.turns name late c.in-Ok.entries.audit c.write_down.result.entry c.in-Ok.ensures.audit_is c.write_down.ensures.stub.entry_is)
    (λ after now known. known.is_last) (λ after now known. known.content_is) (c.in-Found.ensures.leaves holding records state s)

pub returns-in-Refused-clause-leaves : goal.returns-in-Refused-clause-leaves
returns-in-Refused-clause-leaves g c holding records state s =
    let D = g.D.Drive in
    let site = c.args.site.now in
    let name = c.args.name.now in
    let stub = c.refuse.ensures.stub in
    kept_turn D.tells D.files (numbers_at site c.args.drawn.now) (numbers_at site c.peek_register.new.drawn) holding name None
    (λ (after : Records) (now : State). Unit {0})
    (λ (before after : State). ShowsContent name c.refuse.result.answer before after) c.peek_register.new.lanes c.refuse.result.stub site.turns records state
    (written_entry site.turns name None c.in-Ok.entries.audit c.refuse.result.stub stub.0 c.in-Ok.ensures.audit_is stub.1 stub.2.entry_is)
    (λ after now known. tt) (λ after now known. shows_refused name c.refuse.result.answer (Quorum c.in-Refused.fault) now now c.refuse.ensures.answer)
    (c.in-Refused.ensures.leaves holding records state s)

pub returns-in-LacksMemory-clause-leaves : goal.returns-in-LacksMemory-clause-leaves
returns-in-LacksMemory-clause-leaves g c holding records state s =
    let D = g.D.Drive in
    let site = c.args.site.now in
    let numbers = numbers_at site c.args.drawn.now in
    let later = numbers_at site c.peek_register.new.drawn in
    let low : last_of numbers ≤ last_of later = (let rises = c.in-LacksMemory.ensures.draws.seq in omega arith) in
    no_turn D.tells D.files numbers later holding (ShowsContent c.args.name.now c.no_memory-in-LacksMemory.result.answer) c.peek_register.new.lanes
    c.no_memory-in-LacksMemory.result.stub records state c.no_memory-in-LacksMemory.ensures.stub low (c.in-LacksMemory.ensures.leaves holding records state s)

pub returns-in-Found-clause-cause : goal.returns-in-Found-clause-cause
returns-in-Found-clause-cause g c =
    let D = g.D.Drive in
    let site = c.args.site.now in
    told_cause D (numbers_at site c.args.drawn.now) (numbers_at site c.peek_register.new.drawn) c.args.name.now (Ok c.in-Found.content) c.in-Found.late
    (completed_by (Some c.write_down.result)) c.args.lanes.now c.peek_register.new.lanes c.args.disks.now c.peek_register.new.disks (ap late_in c.write_down.ensures.stub.entry_is)
    c.in-Found.ensures.calls

pub returns-in-Found-clause-turns : goal.returns-in-Found-clause-turns
returns-in-Found-clause-turns g c =
    wrote_turn c.args.site.now c.args.drawn.now (has_late c.in-Ok.entries.audit c.in-Found.late) c.write_down.result c.in-Found.content
    (g.A.Audit.entries c.args.audit.now) (g.A.Audit.entries c.write_down.new.audit) (g.A.Audit.count c.args.audit.now) (g.A.Audit.count c.write_down.new.audit)
    (ap (λ (e : Entry). e.ticket) c.in-Ok.ensures.audit_is) c.write_down.ensures.stub (search rules) (search rules)
