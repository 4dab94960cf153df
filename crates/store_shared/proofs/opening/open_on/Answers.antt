use Rattle.std.proofs.Common.{inl, subst}
use Rattle.store_shared.specs.Opening.{OpensBehind}
use Rattle.store_shared.proofs.opening.open_on.Goals as goal

pub returns-in-Err-open_rest-clause-opens : goal.returns-in-Err-open_rest-clause-opens
returns-in-Err-open_rest-clause-opens g c =
    let x = c.in-Err-open_rest.ensures in
    inl (record {
      opened = c.in-Ok.opened;
      taken = record { opens = c.in-Ok.ensures.outcome; fresh = c.in-Ok.ensures.fresh };
      front = x.0;
      behind = subst (λ plan. OpensBehind g.A.Audit.entries g.A.Audit.count plan c.in-Ok.opened.term c.args.left.now.items x.0 c.open_rest.new.slots.items)
          c.with_out-set.ensures x.1;
      keeps = x.2;
    })
