use Rattle.std.proofs.Common.{List, ◌++◌, ◌∷◌, [], length, refl, ap, ◌∙◌, arith, length-append}
use Rattle.call_types.specs.declared.version.Upload.{Upload}
use Rattle.version_list.specs.declared.state.KeyState.{KeyState}
use Rattle.version_list.proofs.LeavesLemmas.{Leaves-uploads}
use Rattle.version_list.proofs.change.open_upload.Goals as goal

pub returns : goal.returns
returns c =
    Leaves-uploads _ _ _ _ _ c.in_ok-versions.ensures refl
    (c.in_ok-uploads.ensures ∙ ap (λ (us : List Upload). us ++ c.args.opened ∷ []) c.as_slice.ensures) c.empty.ensures
    (λ same. let long = ap (λ (s : KeyState). length s.uploads) same in
    absurd (omega (arith, length-append c.args.state.now.uploads (c.args.opened ∷ []))))
