use Rattle.std.proofs.Common.{◌≡◌, length, refl, rules}
use Rattle.stamp_id.proofs.IdTests.{is_id-yes, is_id-no}
use Rattle.stamp_id.proofs.field.id_of.Goals as goal

pub returns-in-Ok : goal.returns-in-Ok
returns-in-Ok c = (is_id-yes c.args.bytes (c.in-Ok.ensures.layout.0 refl), c.in-Ok.ensures.ok)

pub returns-in-Err : goal.returns-in-Err
returns-in-Err c =
    let sized : length c.args.bytes ≡ 16 = search rules in
    (is_id-no c.args.bytes sized (λ h. let e = c.in-Err.ensures.layout.1 h in absurd cc), refl)
