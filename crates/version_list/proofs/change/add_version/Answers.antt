use Rattle.std.proofs.Common.{◌≡◌, List, ◌∷◌, subst, refl}
use Rattle.call_types.specs.declared.version.Version.{Version}
use Rattle.version_list.specs.Naming.{kept}
use Rattle.version_list.proofs.LeavesLemmas.{Leaves-same, state_by_parts}
use Rattle.version_list.proofs.change.add_version.Goals as goal

pub returns-then-is_unchanged_by : goal.returns-then-is_unchanged_by
returns-then-is_unchanged_by c =
    let P : List Version → Type 0 = λ s. c.args.front ∷ kept c.args.goes s ≡ s in
    let same = subst P c.as_slice-versions.ensures (c.is_unchanged_by.ensures.0 c.if-is_unchanged_by.true) in
    Leaves-same _ _ c.none.result c.none.ensures.state c.none.ensures.gone (state_by_parts _ _ c.args.state.now same refl)
