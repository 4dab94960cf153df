use Rattle.s3_request.specs.Reads.{asks_unkept}
use Rattle.s3_request.proofs.unkept.asks_unkept.Goals as goal

pub returns : goal.returns
unfolding asks_unkept
returns c = λ pairs limit. c.has_any.ensures
