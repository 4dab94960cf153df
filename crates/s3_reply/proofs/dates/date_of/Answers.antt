use Rattle.std.proofs.Common.{◌∙◌, min}
use Rattle.s3_reply.proofs.DateLemmas.{parts_are}
use Rattle.s3_reply.proofs.dates.date_of.Goals as goal

pub returns : goal.returns
returns c = parts_are c.unwrap.result (min c.args.second 253402300799) (rw c.unwrap.ensures at c.from_unix_secs.ensures.value ∙ c.min.ensures)
