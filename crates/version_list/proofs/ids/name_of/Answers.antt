use Rattle.std.proofs.Common.{◌≡◌, false, length, refl, sym, ◌∙◌, rules}
use Rattle.stamp_id.proofs.IdTests.{is_id-yes, is_id-no}
use Rattle.version_list.specs.Layout.{is_no_id}
use Rattle.version_list.proofs.ids.name_of.Goals as goal

pub returns-in-Ok : goal.returns-in-Ok
returns-in-Ok c =
    let none : is_no_id c.args.bytes ≡ false = sym c.is_no_id.ensures.value ∙ c.if-is_no_id.false in
    (rw none (is_id-yes c.args.bytes (c.in-Ok.ensures.layout.0 refl)), c.in-Ok.ensures.ok)

pub returns-in-Err : goal.returns-in-Err
returns-in-Err c =
    let none : is_no_id c.args.bytes ≡ false = sym c.is_no_id.ensures.value ∙ c.if-is_no_id.false in
    let sized : length c.args.bytes ≡ 16 = search rules in
    rw none (is_id-no c.args.bytes sized (λ h. let e = c.in-Err.ensures.layout.1 h in absurd cc))
