use Rattle.std.proofs.Common.{◌≤◌, ◌∙◌, Option, List, None, ap, arith}
use Rattle.audit_trail.specs.Entries.{with_entry}
use Rattle.audit_trail.specs.declared.entry.Entry.{Entry}
use Rattle.slot_history.specs.Names.{key_name}
use Rattle.slot_history.specs.Standing.{Records}
use Rattle.slot_history.specs.State.{State}
use Rattle.slot_core.specs.AuditEntry.{has_late}
use Rattle.slot_core.specs.ReadSection.{entries_of}
use Rattle.slot_core.specs.Sections.{ShowsNoMore}
use Rattle.slot_core.specs.Settlement.{numbers_at}
use Rattle.slot_core.specs.Views.{last_of}
use Rattle.slot_core.specs.declared.slot.SlotFault.TheVariants.{NoMemory, Quorum}
use Rattle.slot_core.proofs.ReadTurnLemmas.{begun_cause, begun_leaves, begun_pins, begun_says, begun_turns, refused_kept}
use Rattle.slot_core.proofs.TurnLemmas.{kept_turn, no_turn, written_entry}
use Rattle.slot_core.proofs.read_section.read_at.Goals as goal

pub returns-in-Found-clause-turns : goal.returns-in-Found-clause-turns
returns-in-Found-clause-turns g c =
    let A = g.A.Audit in
    let plan = c.in-Found.plan in
    let late = c.in-Found.late in
    let gave = c.in-Found.ensures.calls in
    begun_turns c.args.ask.now.site c.args.drawn.now c.args.at.now c.args.ask.now.mode c.args.ask.now.pick gave.state plan late c.begin_planned.result c.prepare.new.pins.items
    c.begin_planned.new.pins.items (A.entries c.args.audit.now) (A.entries c.begin_planned.new.audit) (A.count c.args.audit.now) (A.count c.begin_planned.new.audit)
    c.begin_planned.ensures.begins gave.due
    (c.begin_planned.ensures.entries ∙ ap (λ (a : Option (List Entry)). with_entry a (has_late (entries_of plan).audit late)) c.reserve.ensures.entries)
    (c.begin_planned.ensures.count ∙ c.in-Ok-reserve.ensures.reserves)

pub returns-in-Found-clause-says : goal.returns-in-Found-clause-says
returns-in-Found-clause-says g c =
    let gave = c.in-Found.ensures.calls in
    begun_says c.args.ask.now.site c.args.drawn.now c.args.at.now c.args.ask.now.mode c.args.ask.now.pick gave.state c.in-Found.plan c.in-Found.late c.begin_planned.result
    c.prepare.new.pins.items c.begin_planned.new.pins.items c.begin_planned.ensures.begins gave.due

pub returns-in-Found-clause-pins : goal.returns-in-Found-clause-pins
returns-in-Found-clause-pins g c =
    let gave = c.in-Found.ensures.calls in
    begun_pins c.args.ask.now.site c.args.drawn.now c.args.at.now c.args.ask.now.mode c.args.ask.now.pick gave.state c.in-Found.plan c.in-Found.late c.begin_planned.result
    c.prepare.new.pins.items c.args.pins.now.items c.begin_planned.new.pins.items c.prepare.ensures.pins c.begin_planned.ensures.begins gave.due

pub returns-in-Found-clause-leaves : goal.returns-in-Found-clause-leaves
returns-in-Found-clause-leaves g c holding kept holds fresh records state s =
    begun_leaves g.D.Drive.tells g.D.Drive.files c.pin_laws.ensures.begin c.args.ask.now.site c.args.drawn.now c.read_register.new.drawn holding kept c.args.at.now c.args.ask.now.mode
    c.args.ask.now.pick c.in-Found.plan c.in-Found.late c.read_register.new.lanes c.begin_planned.result c.prepare.new.pins.items c.begin_planned.new.pins.items records state
    c.begin_planned.ensures.begins holds fresh (c.in-Found.ensures.leaves holding records state s)

pub returns-in-Found-clause-cause : goal.returns-in-Found-clause-cause
returns-in-Found-clause-cause g c =
    let D = g.D.Drive in
    let site = c.args.ask.now.site in
    begun_cause D site (numbers_at site c.args.drawn.now) (numbers_at site c.read_register.new.drawn) c.args.at.now c.args.ask.now.mode c.args.ask.now.pick
    c.in-Found.plan c.in-Found.late c.begin_planned.result c.prepare.new.pins.items c.begin_planned.new.pins.items c.args.lanes.now c.read_register.new.lanes
    c.args.disks.now c.read_register.new.disks c.begin_planned.ensures.begins c.in-Found.ensures.calls

pub returns-in-Refused-clause-leaves : goal.returns-in-Refused-clause-leaves
returns-in-Refused-clause-leaves g c holding kept holds fresh records state s =
    let D = g.D.Drive in
    let site = c.args.ask.now.site in
    let at = c.args.at.now in
    let stub = c.refuse.ensures.stub in
    let numbers = numbers_at site c.args.drawn.now in
    let later = numbers_at site c.read_register.new.drawn in
    refused_kept D.tells D.files numbers later at c.refuse.result.answer (Quorum c.in-Refused.fault) holding kept c.read_register.new.lanes c.refuse.result.stub records state
    c.refuse.ensures.answer holds
    (kept_turn D.tells D.files numbers later holding (key_name at) None (λ (after : Records) (now : State). Unit {0}) ShowsNoMore c.read_register.new.lanes c.refuse.result.stub
    site.turns records state
    (written_entry site.turns (key_name at) None c.in-Ok.made.entries.audit c.refuse.result.stub stub.0 c.in-Ok.ensures.kept.audit_is stub.1 stub.2.entry_is)
    (λ after now known. tt) (λ after now known. tt) (c.in-Refused.ensures.leaves holding records state s))

pub returns-clause-leaves : goal.returns-clause-leaves
returns-clause-leaves g c holding kept holds fresh records state s =
    let D = g.D.Drive in
    let site = c.args.ask.now.site in
    let numbers = numbers_at site c.args.drawn.now in
    let later = numbers_at site c.read_register.new.drawn in
    let low : last_of numbers ≤ last_of later = (let rises = c.in-LacksMemory.ensures.draws.seq in omega arith) in
    refused_kept D.tells D.files numbers later c.args.at.now c.no_memory-in-LacksMemory.result.answer NoMemory holding kept c.read_register.new.lanes
    c.no_memory-in-LacksMemory.result.stub records state c.no_memory-in-LacksMemory.ensures.answer holds
    (no_turn D.tells D.files numbers later holding ShowsNoMore c.read_register.new.lanes c.no_memory-in-LacksMemory.result.stub records state
    c.no_memory-in-LacksMemory.ensures.stub low (c.in-LacksMemory.ensures.leaves holding records state s))
