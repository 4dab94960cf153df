use Rattle.std.proofs.Common.{◌∙◌, ap}
use Rattle.std.specs.Prelude.{position}
use Rattle.version_list.specs.Naming.{is_upload}
use Rattle.version_list.proofs.UploadLemmas.{finds_upload}
use Rattle.version_list.proofs.uploads.find_upload.Goals as goal

pub returns-clause-found : goal.returns-clause-found
returns-clause-found c =
    finds_upload c.args.id c.args.state.now.uploads c.place_of.result (c.place_of.ensures ∙ ap (position (is_upload c.args.id)) c.as_slice.ensures)
