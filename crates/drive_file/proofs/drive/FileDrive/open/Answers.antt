use Rattle.std.proofs.Common.{List, ℕ, ap, codes, string_bytes, subst, sym, ◌∙◌}
use Rattle.drive_file.specs.Opening.{IsFolderGiven, Opens}
use Rattle.drive_file.specs.Paths.{path_below}
use Rattle.drive_file.proofs.drive.FileDrive.open.Goals as goal

pub returns-clause-folder : goal.returns-clause-folder
returns-clause-folder g c = subst (λ (text : List ℕ). IsFolderGiven c.args.folder.now text) (sym c.in_ok-folder.ensures.ok) c.without_slashes.ensures

pub returns-clause-loose : goal.returns-clause-loose
returns-clause-loose g c = c.in_ok-loose.ensures ∙ ap (λ (text : List ℕ). path_below text (codes "loose")) c.as_str.ensures.value

pub returns-clause-asked : goal.returns-clause-asked
returns-clause-asked g c =
    let old = g.F.Folder.calls c.args.system in
    let new = g.F.Folder.calls c.prepare.new.system in
    subst (λ (folder : List ℕ). Opens folder (string_bytes c.in_ok-loose.loose) old new) c.as_str-2.ensures.value
    (subst (λ (loose : List ℕ). Opens c.as_str-2.result.now loose old new) c.as_str-3.ensures.value c.in_ok-names.ensures)
