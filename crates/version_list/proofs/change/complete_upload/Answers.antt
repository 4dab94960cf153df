use Rattle.std.proofs.Common.{List, ◌∷◌, length, ap, ◌∙◌, arith}
use Rattle.call_types.specs.declared.version.Version.{Version}
use Rattle.version_list.specs.declared.state.KeyState.{KeyState}
use Rattle.version_list.specs.Naming.{kept, still_open}
use Rattle.version_list.proofs.LeavesLemmas.{Leaves-new, still_open-fewer}
use Rattle.version_list.proofs.change.complete_upload.Goals as goal

pub returns : goal.returns
returns c =
    let fewer = still_open-fewer c.args.upload c.args.state.now.uploads c.requires in
    Leaves-new _ _ c.as_slice-versions.result.now _ _ _ c.as_slice-versions.ensures
    (c.in_ok-edited.ensures.versions ∙ ap (λ (vs : List Version). c.args.front ∷ kept c.args.goes vs) c.as_slice-versions.ensures)
    (c.in_ok-uploads.ensures ∙ ap (still_open c.args.upload) c.as_slice.ensures) c.in_ok-edited.ensures.gone
    (λ same. let long = ap (λ (s : KeyState). length s.uploads) same in absurd (omega arith))
