use Rattle.std.proofs.Common.{◌≡◌, Some, true, false, length, refl, sym, ap, ◌∙◌, arith}
use Rattle.std.specs.List.{list_any}
use Rattle.version_list.specs.declared.state.KeyState.{KeyState}
use Rattle.version_list.specs.Naming.{has_name, kept}
use Rattle.version_list.proofs.LeavesLemmas.{Leaves-same, Leaves-new, state_by_parts, kept_not_there, kept-fewer}
use Rattle.version_list.proofs.change.remove_version.Goals as goal

pub returns-then-not-any_named : goal.returns-then-not-any_named
returns-then-not-any_named c =
    let none : list_any (has_name c.args.name) c.args.state.now.versions ≡ false =
    ap (list_any (has_name c.args.name)) (sym c.as_slice-versions.ensures) ∙ sym c.any_named.ensures ∙ c.if-not-any_named.true in
    Leaves-same _ _ c.none.result c.none.ensures.state c.none.ensures.gone
    (state_by_parts _ _ c.args.state.now (kept_not_there c.args.name _ none) refl)

pub returns : goal.returns
returns c =
    let some : list_any (has_name c.args.name) c.args.state.now.versions ≡ true =
    ap (list_any (has_name c.args.name)) (sym c.as_slice-versions.ensures) ∙ sym c.any_named.ensures ∙ c.if-not-any_named.false in
    let fewer = kept-fewer c.args.name c.args.state.now.versions some in
    Leaves-new _ _ c.as_slice-versions.result.now _ _ _ c.as_slice-versions.ensures
    (c.in_ok-edited.ensures.versions ∙ ap (kept (Some c.args.name)) c.as_slice-versions.ensures)
    c.in_ok-uploads.ensures c.in_ok-edited.ensures.gone
    (λ same. let long = ap (λ (s : KeyState). length s.versions) same in absurd (omega arith))
