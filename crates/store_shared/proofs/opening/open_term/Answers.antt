use Rattle.std.proofs.Common.{◌∙◌, subst₂, sym}
use Rattle.std.specs.Prelude.{IfOk}
use Rattle.drive_base.specs.View.{views}
use Rattle.term_gate.specs.Opening.{Opens}
use Rattle.term_gate.specs.Terms.{IsFresh}
use Rattle.store_shared.proofs.OrderLemmas.{whole_slice}
use Rattle.store_shared.proofs.opening.open_term.Goals as goal

pub returns-clause-outcome : goal.returns-clause-outcome
returns-clause-outcome g c =
    let are = whole_slice c.open_set.new.disks c.args.disks.now.items c.args.disks.now.len (c.open_set.auto.disks ∙ c.as_mut_slice.ensures.len) in
    subst₂ (λ old new. Opens c.args.set.now c.open_set.result (views g.D.Drive old) (views g.D.Drive new)) c.as_mut_slice.ensures.value (sym are) c.open_set.ensures.outcome

pub returns-clause-fresh : goal.returns-clause-fresh
returns-clause-fresh g c =
    let are = whole_slice c.open_set.new.disks c.args.disks.now.items c.args.disks.now.len (c.open_set.auto.disks ∙ c.as_mut_slice.ensures.len) in
    subst₂ (λ old new. IfOk c.open_set.result (λ opened. IsFresh c.args.set.now opened (views g.D.Drive old) (views g.D.Drive new))) c.as_mut_slice.ensures.value
    (sym are) c.open_set.ensures.fresh
