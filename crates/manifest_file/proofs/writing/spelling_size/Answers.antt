use Rattle.std.proofs.Common.{sym}
use Rattle.manifest_file.proofs.Sizes.{manifest_size}
use Rattle.manifest_file.proofs.writing.spelling_size.Goals as goal

pub returns : goal.returns
returns c = rw (c.len.ensures, c.len-2.ensures) (sym (manifest_size c.args.manifest.now c.requires))
