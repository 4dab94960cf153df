use Rattle.std.proofs.Common.{◌≤◌, length, sym, ap₂, subst, ◌∙◌}
use Rattle.slot_history.specs.Names.{key_name}
use Rattle.list_ops.proofs.FindLemmas.{name_is, name_short}
use Rattle.list_ops.proofs.seeking.wanted_at.Goals as goal

pub invariant_of-result-clause-named : goal.invariant_of-result-clause-named
invariant_of-result-clause-named c =
    let bucket = c.args.target.now.bucket in
    let bytes = c.as_bytes.result.now in
    c.in_ok-name.ensures.ok ∙ (sym c.as_bytes.ensures.value ∙ (name_is bucket bytes c.in-Some.ensures.0
    ∙ ap₂ (λ b k. key_name (record { bucket = b; key = k })) (sym (c.in_ok-bucket.ensures ∙ c.as_slice-2.ensures))
    (sym (c.in_ok-key.ensures ∙ c.in-Some.ensures.1))))

pub invariant_of-result-clause-short : goal.invariant_of-result-clause-short
invariant_of-result-clause-short c =
    subst (λ n. length n ≤ 1129) (sym (c.in_ok-name.ensures.ok ∙ sym c.as_bytes.ensures.value))
    (name_short c.args.target.now.bucket c.as_bytes.result.now c.args.target.now.short c.in-Some.ensures.0)
