use Rattle.std.proofs.Common.{◌≡◌, ◌∙◌, ap₂, length, refl, subst, sym, arith}
use Rattle.slot_core.specs.Opening.{IsOpened}
use Rattle.store_shared.proofs.OpeningLemmas.{refuses}
use Rattle.store_shared.specs.Opening.{AuditRefuses, refusal_by}
use Rattle.store_shared.proofs.opening.open_last.Goals as goal

pub returns-in-Ok-clause-opens : goal.returns-in-Ok-clause-opens
returns-in-Ok-clause-opens g c =
    let counted = c.len.ensures in
    let same : c.len.result ≡ length c.pop.new.self.items = omega (arith, counted) in
    record {
      parts = c.in-Some.parts;
      slot = c.in-Ok.slot;
      old_is = c.in-Some.ensures.items;
      slots_are = c.push_reserved.ensures.items;
      opened = subst (λ n. IsOpened g.A.Audit.entries g.A.Audit.count c.args.set.now n c.args.term c.in-Some.parts c.in-Ok.slot) same c.in-Ok.ensures;
    }

pub returns-in-Err-clause-opens : goal.returns-in-Err-clause-opens
returns-in-Err-clause-opens g c =
    let fault = c.in-Err.back.fault in
    let before = g.A.Audit.count c.in-Some.parts.audit in
    let after = g.A.Audit.count c.in-Err.back.parts.audit in (
      record {
        front = c.pop.new.self.items;
        was = c.in-Some.parts;
        now = c.in-Err.back.parts;
        old_is = c.in-Some.ensures.items;
        new_is = c.push_reserved-in-Err.ensures.items;
        lanes = c.in-Err.ensures.lanes;
        entries_stay = c.in-Err.ensures.entries_stay;
        cause = subst (λ why. AuditRefuses why before after)
            (sym (c.refusal_of-why.ensures ∙ ap₂ (λ a b. refusal_by fault a b) c.faults-before.ensures c.faults.ensures))
            (refuses fault before after c.in-Err.ensures.counted);
      },
      refl,
    )
