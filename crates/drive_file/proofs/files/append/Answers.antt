use Rattle.std.proofs.Common.{◌≡◌, ◌∷◌, List, ℕ, ap, map, string_bytes, ◌∙◌}
use Rattle.drive_file.specs.Folder.{AskAppend}
use Rattle.drive_file.specs.Paths.{inner_folders, path_in}
use Rattle.drive_file.proofs.AskLemmas.{appending_asked, appending_made}
use Rattle.drive_file.proofs.files.append.Goals as goal

pub returns-in_err-make-clause-only : goal.returns-in_err-make-clause-only
returns-in_err-make-clause-only g c =
    let folders = inner_folders c.args.folder.now c.args.name.now in
    let same : map string_bytes c.as_slice.result.now ≡ folders = ap (map string_bytes) c.as_slice.ensures.value ∙ c.in-Ok-folders_of.ensures in
    appending_made c.from_residual.result (map string_bytes c.as_slice.result.now) folders (path_in c.args.folder.now c.args.name.now) c.args.bytes.now same
    (g.F.Folder.calls c.args.system.now) (g.F.Folder.calls c.make.new.system) c.make.ensures.only

pub returns-clause-only : goal.returns-clause-only
returns-clause-only g c =
    let folders = inner_folders c.args.folder.now c.args.name.now in
    let path = path_in c.args.folder.now c.args.name.now in
    let same : map string_bytes c.as_slice.result.now ≡ folders = ap (map string_bytes) c.as_slice.ensures.value ∙ c.in-Ok-folders_of.ensures in
    let at : c.as_str.result.now ≡ path = c.as_str.ensures.value ∙ c.in-Ok.ensures in
    appending_asked c.append.result (map string_bytes c.as_slice.result.now) folders path c.args.bytes.now same
    c.append.result (g.F.Folder.calls c.args.system.now) (g.F.Folder.calls c.make.new.system) (g.F.Folder.calls c.append.new.self) c.make.ensures.only
    (c.append.ensures.calls ∙ ap (λ (p : List ℕ). AskAppend p c.args.bytes.now c.append.result ∷ g.F.Folder.calls c.make.new.system) at)
