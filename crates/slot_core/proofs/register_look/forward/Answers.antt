use Rattle.std.proofs.Common.{◌+◌, refl, arith}
use Rattle.std.specs.Prelude.{Ok, Err}
use Rattle.call_types.specs.declared.why.Whys.{Whys}
use Rattle.register_core.specs.declared.faults.QuorumFault.{QuorumFault}
use Rattle.slot_rules.specs.declared.site.Drawn.{Drawn}
use Rattle.slot_core.proofs.SettlingLemmas.{settled_none, settled_wrote}
use Rattle.slot_core.proofs.register_look.forward.Goals as goal

pub returns-in-None-clause-settles : goal.returns-in-None-clause-settles
returns-in-None-clause-settles g c rule longest old disks disks_after holding records state is long stay tells_stay named s =
    let D = g.D.Drive in
    settled_none D c.args.site.now c.args.drawn.now c.args.name.now rule longest c.args.ready.now old c.args.lanes.now disks disks_after holding
    records state is long stay tells_stay named s c.in-None.is

pub returns-in-Ok-clause-settles : goal.returns-in-Ok-clause-settles
returns-in-Ok-clause-settles g c rule longest old disks disks_after holding records state is long stay tells_stay named s =
    let D = g.D.Drive in
    let later : Drawn = record { seq = c.args.drawn.now.seq + 1; count = c.write_both.new.count } in
    settled_wrote D {T = Whys} {E = QuorumFault} c.value_laws.ensures.drawing c.calm_laws.ensures.fresh c.fresh_laws.ensures.above c.args.site.now
    c.args.drawn.now later c.args.name.now rule longest c.args.ready.now c.in-Some.draft (Ok c.in-Ok.field-0) old c.args.lanes.now c.write_both.new.lanes disks disks_after
    holding records state is long (omega (arith, c.write_both.auto.lanes)) stay tells_stay named s c.in-Some.is refl c.in-Ok.ensures.wrote c.in-Ok.ensures.drives

pub returns-in-Ok-clause-calls : goal.returns-in-Ok-clause-calls
returns-in-Ok-clause-calls g c = (c.in-Ok.field-0, record { draft = c.in-Some.draft; is = c.in-Some.is; seq = refl; writes = c.in-Ok.ensures.calls })

pub returns-in-Err-clause-settles : goal.returns-in-Err-clause-settles
returns-in-Err-clause-settles g c rule longest old disks disks_after holding records state is long stay tells_stay named s =
    let D = g.D.Drive in
    let later : Drawn = record { seq = c.args.drawn.now.seq + 1; count = c.write_both.new.count } in
    settled_wrote D {T = Whys} {E = QuorumFault} c.value_laws.ensures.drawing c.calm_laws.ensures.fresh c.fresh_laws.ensures.above c.args.site.now
    c.args.drawn.now later c.args.name.now rule longest c.args.ready.now c.in-Some.draft (Err c.in-Err.fault) old c.args.lanes.now c.write_both.new.lanes disks disks_after
    holding records state is long (omega (arith, c.write_both.auto.lanes)) stay tells_stay named s c.in-Some.is refl c.in-Err.ensures.wrote c.in-Err.ensures.drives

pub returns-in-Err-clause-calls : goal.returns-in-Err-clause-calls
returns-in-Err-clause-calls g c = record { draft = c.in-Some.draft; is = c.in-Some.is; seq = refl; writes = c.in-Err.ensures.calls }
