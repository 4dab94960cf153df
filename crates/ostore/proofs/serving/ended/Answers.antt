use Rattle.std.proofs.Common.{Some, refl, sym, subst}
use Rattle.ostore.specs.Served.{IsHanded}
use Rattle.ostore.proofs.serving.ended.Goals as goal

pub returns-clause-rig : goal.returns-clause-rig
returns-clause-rig g c = subst (λ parts. IsHanded c.args.away.set parts (Some c.close.result)) (sym c.in-Some.is)
    (c.new.result, c.close.result, c.new.ensures.slots, c.new.ensures.disks, refl, c.close.ensures)
