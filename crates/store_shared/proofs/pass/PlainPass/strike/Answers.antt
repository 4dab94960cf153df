use Rattle.std.proofs.Common.{◌<◌, ◌∙◌, sym, subst, arith}
use Rattle.drive_base.specs.declared.plan.SetPlan.{SetPlan}
use Rattle.store_shared.proofs.StrikingLemmas.{struck_index, struck_set}
use Rattle.store_shared.proofs.pass.PlainPass.strike.Goals as goal

pub strike_slots-requires : goal.strike_slots-requires
strike_slots-requires g c = λ k d inside.
    subst (λ (plan : SetPlan). c.args.index < plan.drives) (sym (c.args.self.now.of_set k d inside)) c.requires

pub strike_disk-requires : goal.strike_disk-requires
strike_disk-requires g c = (let drives = c.args.self.now.drives in let low = c.requires in omega (arith, drives, low))

pub invariant_of-self-clause-count : goal.invariant_of-self-clause-count
invariant_of-self-clause-count g c = c.strike_slots.ensures.count ∙ c.args.self.now.count

pub invariant_of-self-clause-index : goal.invariant_of-self-clause-index
invariant_of-self-clause-index g c =
    struck_index g.D.Drive g.T.Trouble.befalls c.args.index c.args.trouble.now c.args.self.now.slots.items c.strike_slots.new.slots.items c.strike_slots.ensures
    c.args.self.now.index

pub invariant_of-self-clause-of_set : goal.invariant_of-self-clause-of_set
invariant_of-self-clause-of_set g c =
    struck_set g.D.Drive g.T.Trouble.befalls c.args.index c.args.trouble.now c.args.self.now.slots.items c.strike_slots.new.slots.items c.strike_slots.ensures
    c.args.self.now.set c.args.self.now.of_set

pub invariant_of-self-clause-drives : goal.invariant_of-self-clause-drives
invariant_of-self-clause-drives g c = c.strike_disk.ensures.strikes.counted ∙ c.args.self.now.drives
