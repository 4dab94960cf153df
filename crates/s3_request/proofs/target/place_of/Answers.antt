use Rattle.std.proofs.Common.{ap, sym, subst, ◌∙◌}
use Rattle.std.specs.Str.{IsUtf8}
use Rattle.percent_encoding.specs.Percent.{percent_decode}
use Rattle.form_urlencoded.specs.Form.{split_once}
use Rattle.s3_request.specs.Refusing.{Gives}
use Rattle.s3_request.proofs.TargetLemmas.{placed, no_path}
use Rattle.s3_request.proofs.target.place_of.Goals as goal

pub returns-in-Ok : goal.returns-in-Ok
returns-in-Ok c =
    let decoded = c.percent_decode.ensures.bytes ∙ ap percent_decode (c.cut.ensures.before ∙ ap (λ t. (split_once 63 t).0) c.behind_slash.ensures) in
    let path = c.as_bytes.ensures.value ∙ (c.as_str.ensures.value ∙ (c.in-Ok.ensures.value ∙ decoded)) in
    subst (λ a. Gives a c.place_in.result)
    (sym (placed c.args.target.now c.as_bytes.result.now (sym c.begins_with_slash.ensures ∙ c.if-not-begins_with_slash.false) path
    (subst IsUtf8 decoded c.in-Ok.ensures.ok_only_if_utf8)))
    c.place_in.ensures

pub returns-in-Err-Utf8 : goal.returns-in-Err-Utf8
returns-in-Err-Utf8 c =
    let decoded = c.percent_decode.ensures.bytes ∙ ap percent_decode (c.cut.ensures.before ∙ ap (λ t. (split_once 63 t).0) c.behind_slash.ensures) in
    no_path c.args.target.now (sym c.begins_with_slash.ensures ∙ c.if-not-begins_with_slash.false)
    (λ utf8. let other = c.in-Err-Utf8.ensures.utf8 (subst IsUtf8 (sym decoded) utf8) in absurd (cc (other, c.in-Err-Utf8.field-0-is)))
