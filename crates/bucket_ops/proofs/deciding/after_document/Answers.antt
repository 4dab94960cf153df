use Rattle.bucket_ops.proofs.DocumentLemmas.{mode_asked}
use Rattle.bucket_ops.proofs.deciding.after_document.Goals as goal

pub mode_deed-requires-clause-mode : goal.mode_deed-requires-clause-mode
mode_deed-requires-clause-mode c = mode_asked c.args.document.now c.in-Ok.mode c.in-Ok.ensures.reads
