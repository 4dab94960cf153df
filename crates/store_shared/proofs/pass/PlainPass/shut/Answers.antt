use Rattle.std.proofs.Common.{arith}
use Rattle.store_shared.proofs.ShutLemmas.{is_shut, shut_apart}
use Rattle.store_shared.proofs.pass.PlainPass.shut.Goals as goal

pub returns-clause-shut : goal.returns-clause-shut
returns-clause-shut g c =
    let parts = c.into_parts-slots in
    is_shut c.args.self parts.result.slots.items c.turn_round.new.items.items c.args.home.items
    (record { disks = parts.result.disks; slots = c.close_each.new.home }) parts.ensures.slots c.turn_round.ensures.items c.requires.none c.close_each.ensures
    parts.ensures.disks

pub returns-clause-apart : goal.returns-clause-apart
returns-clause-apart g c =
    let parts = c.into_parts-slots in
    shut_apart g.D.Drive g.A.Audit.entries g.A.Audit.count c.args.self (record { disks = parts.result.disks; slots = c.close_each.new.home })
    (is_shut c.args.self parts.result.slots.items c.turn_round.new.items.items c.args.home.items
    (record { disks = parts.result.disks; slots = c.close_each.new.home }) parts.ensures.slots c.turn_round.ensures.items c.requires.none c.close_each.ensures
    parts.ensures.disks)
