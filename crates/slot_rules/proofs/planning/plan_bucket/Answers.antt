use Rattle.std.proofs.Common.{None, refl}
use Rattle.slot_rules.specs.declared.planning.Planned.{Planned}
use Rattle.slot_rules.proofs.PlanLemmas.{bucket_planned}
use Rattle.slot_rules.proofs.planning.plan_bucket.Goals as goal

pub returns-in-Ok : goal.returns-in-Ok
returns-in-Ok c deed id content is spells =
    let step = c.apply-changed.result in
    let planned : Planned = record { reply = step.reply; refused = None; content = c.in-Ok.content; gone = c.new.result } in
    bucket_planned c.args.act c.args.now c.args.row.now content spells c.row_laws.ensures.injective step planned c.apply-changed.ensures.step
    (c.apply-changed.ensures.canonical c.requires.canonical c.requires.moment) c.in-Ok.ensures refl refl c.new.ensures.items deed id is
