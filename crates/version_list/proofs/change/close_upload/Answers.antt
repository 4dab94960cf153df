use Rattle.std.proofs.Common.{length, refl, ap, ◌∙◌, arith}
use Rattle.version_list.specs.declared.state.KeyState.{KeyState}
use Rattle.version_list.specs.Naming.{still_open}
use Rattle.version_list.proofs.LeavesLemmas.{Leaves-uploads, still_open-fewer}
use Rattle.version_list.proofs.change.close_upload.Goals as goal

pub returns : goal.returns
returns c =
    let fewer = still_open-fewer c.args.upload c.args.state.now.uploads c.requires in
    Leaves-uploads _ _ _ _ _ c.in_ok-versions.ensures refl
    (c.in_ok-uploads.ensures ∙ ap (still_open c.args.upload) c.as_slice.ensures) c.empty.ensures
    (λ same. let long = ap (λ (s : KeyState). length s.uploads) same in absurd (omega arith))
