use Rattle.std.proofs.Common.{sym, subst}
use Rattle.std.proofs.lemmas.Option.{get_or_from_slice_get}
use Rattle.call_types.specs.declared.why.FileKind.TheVariants.{Format}
use Rattle.call_types.specs.declared.why.Why.{Why}
use Rattle.call_types.specs.declared.why.Why.TheVariants.{Lacks}
use Rattle.term_gate.specs.Deciding.{HasIfAbsent}
use Rattle.term_gate.proofs.DecidingLemmas.{absent_more}
use Rattle.term_gate.proofs.deciding.absent_of.Goals as goal

pub loop-index-preserved : goal.loop-index-preserved
loop-index-preserved c =
    let whys = c.args.whys.now in
    let i = c.loop-index.index in
    let old = c.loop-index.absent in
    let new = c.with_absent-absent.result in
    absent_more whys old new i
    (subst (λ (why : Why). HasIfAbsent old i why new) (sym (get_or_from_slice_get whys i c.get.result (Lacks Format) c.get.ensures)) c.with_absent-absent.ensures)
    c.loop-index.invariant
