use Rattle.std.proofs.Common.{refl}
use Rattle.slot_core.proofs.FinishReadLemmas.{refusal_finishes}
use Rattle.slot_core.proofs.read_section.finish_planned.Goals as goal

pub returns-in-Ok-clause-finishes : goal.returns-in-Ok-clause-finishes
returns-in-Ok-clause-finishes g c = (refl, c.in-Ok.ensures.late, c.in-Ok.ensures.settles, c.in-Ok.ensures.calls)

pub returns-in-Err-clause-finishes : goal.returns-in-Err-clause-finishes
returns-in-Err-clause-finishes g c =
    let D = g.D.Drive in
    refusal_finishes D c.args.site.now c.args.drawn.now c.forward.new.drawn c.args.name.now (record { ready = c.args.ready.now; plan = c.args.plan }) c.in-Err.fault c.refusal.result
    c.args.lanes.now c.forward.new.lanes c.refusal.ensures c.in-Err.ensures.settles c.in-Err.ensures.calls
