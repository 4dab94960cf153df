use Rattle.std.proofs.Common.{None}
use Rattle.audit_trail.specs.declared.entry.Deed.TheVariants.{Done as DoneDeed, Refused as RefusedDeed}
use Rattle.slot_core.specs.PutEnds.{entry_with}
use Rattle.slot_core.proofs.ConcludeLemmas.{done_stub, quorum_stub}
use Rattle.slot_core.proofs.commit_entry.conclude.Goals as goal

pub returns-in-Done-clause-stub : goal.returns-in-Done-clause-stub
returns-in-Done-clause-stub g c drawn =
    let made = c.done_turn.ensures.stub in
    let tale = c.in-Done.tale in
    done_stub c.args.site.now drawn tale (entry_with c.args.entries.audit (DoneDeed tale.audit.call tale.audit.reply) c.in-Done.late) c.done_turn.result.answer c.done_turn.result.stub
    made.0 tale.refused c.done_turn.ensures.answer made.1 made.2 c.requires.ticket

pub returns-in-Begun-clause-stub : goal.returns-in-Begun-clause-stub
returns-in-Begun-clause-stub g c drawn =
    let made = c.begun_turn.ensures.stub in
    let told = c.in-Begun in
    quorum_stub c.args.site.now drawn told.fault (entry_with c.args.entries.audit (RefusedDeed told.change told.tale.audit.call) told.late) c.begun_turn.result.answer
    c.begun_turn.result.stub made.0 c.begun_turn.ensures.answer made.1 made.2 c.requires.ticket

pub returns-in-Kept-clause-stub : goal.returns-in-Kept-clause-stub
returns-in-Kept-clause-stub g c drawn =
    let made = c.refuse.ensures.stub in
    quorum_stub c.args.site.now drawn c.in-Kept.fault (entry_with c.args.entries.audit c.args.entries.audit.deed None) c.refuse.result.answer c.refuse.result.stub made.0
    c.refuse.ensures.answer made.1 made.2 c.requires.ticket
