use Rattle.std.proofs.Common.{sym}
use Rattle.version_list.specs.Rows.{rows_of}
use Rattle.version_list.proofs.SizeLemmas.{long_form-size}
use Rattle.version_list.proofs.sizes.state_size.Goals as goal

pub returns : goal.returns
returns c =
    rw (c.versions_size.ensures.value, c.uploads_size.ensures.value, c.as_slice.ensures, c.as_slice-2.ensures)
    (sym (long_form-size (rows_of c.args.state.now).versions (rows_of c.args.state.now).uploads))
