use Rattle.std.proofs.Common.{◌≡◌, false, ap, inr, sym}
use Rattle.register_core.specs.Found.{content_of}
use Rattle.slot_rules.specs.Rules.{IsRegisterName, is_bucket_name}
use Rattle.slot_core.proofs.CauseLemmas.{look_cause, ready_at}
use Rattle.slot_core.proofs.ReadTurnLemmas.{spelled}
use Rattle.slot_core.proofs.read_section.look_and_plan.Goals as goal

pub returns-in-Err-clause-looks : goal.returns-in-Err-clause-looks
returns-in-Err-clause-looks g c =
    let D = g.D.Drive in
    let register : IsRegisterName c.args.name.now = inr (c.args.at.now, c.requires.named) in
    let is : false ≡ is_bucket_name c.args.name.now = ap is_bucket_name (sym c.requires.named) in
    λ other. look_cause D c.args.ask.now.site c.args.drawn.now c.args.name.now false c.in-Err.fault c.args.lanes.now c.look_at.new.lanes
    c.args.disks.now c.look_at.new.disks register is c.in-Err.ensures.looks

pub returns-in-Ok-plan_read-clause-looks : goal.returns-in-Ok-plan_read-clause-looks
returns-in-Ok-plan_read-clause-looks g c =
    let D = g.D.Drive in
    let register : IsRegisterName c.args.name.now = inr (c.args.at.now, c.requires.named) in
    let is : false ≡ is_bucket_name c.args.name.now = ap is_bucket_name (sym c.requires.named) in
    let ready = c.in-Ok.ready in
    let rule = c.look_at.new.rule in (
      ready_at D c.args.ask.now.site c.args.drawn.now c.args.name.now false ready c.args.lanes.now c.look_at.new.lanes
          c.args.disks.now c.look_at.new.disks register is c.in-Ok.ensures.looks,
      record {
        state = c.in-Some.state;
        spells = spelled rule.state rule.first rule.second (content_of ready.looked.base ready.looked.pending) c.in-Some.state c.in-Ok.ensures.read c.in-Some.is;
        plans = c.in-Ok-plan_read.ensures;
      },
    )
