use Rattle.std.proofs.Common.{inl, refl}
use Rattle.list_ops.proofs.after.ask_on.Goals as goal

pub returns-then-work-lt63-clause-asks : goal.returns-then-work-lt63-clause-asks
returns-then-work-lt63-clause-asks c = inl (c.if-work-lt63.true, (_, refl, refl))
