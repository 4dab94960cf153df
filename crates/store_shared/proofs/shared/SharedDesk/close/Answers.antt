use Rattle.std.proofs.Common.{refl}
use Rattle.std.proofs.lemmas.Bool.{false≢true}
use Rattle.store_shared.proofs.ApartLemmas.{has_parts, is_apart, lacks_parts}
use Rattle.store_shared.proofs.shared.SharedDesk.close.Goals as goal

pub returns-then-lacks_any-clause-err : goal.returns-then-lacks_any-clause-err
returns-then-lacks_any-clause-err g c =
    (lacks_parts c.args.pass c.as_slice.result.now c.as_slice.ensures.value (c.if-lacks_any.ensures.lacks refl), refl, refl)

pub close_all-requires-clause-parts : goal.close_all-requires-clause-parts
close_all-requires-clause-parts g c =
    has_parts c.args.pass c.as_slice.result.now c.as_slice.ensures.value (c.if-lacks_any.ensures.has (λ yes. false≢true yes))

pub returns-clause-ok : goal.returns-clause-ok
returns-clause-ok g c = is_apart c.args.self c.args.pass c.close_all.new.slots.items c.close_all.ensures.closed _ refl refl refl
