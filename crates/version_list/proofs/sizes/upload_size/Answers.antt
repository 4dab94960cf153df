use Rattle.std.proofs.Common.{sym}
use Rattle.version_list.proofs.SizeLemmas.{upload_bytes-size}
use Rattle.version_list.proofs.sizes.upload_size.Goals as goal

pub returns-clause-value : goal.returns-clause-value
returns-clause-value c = rw c.as_slice.ensures (sym (upload_bytes-size c.args.upload.now))
