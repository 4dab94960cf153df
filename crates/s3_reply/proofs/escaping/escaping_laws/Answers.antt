use Rattle.s3_reply.proofs.LawLemmas.{texts_stay_inside}
use Rattle.s3_reply.proofs.escaping.escaping_laws.Goals as goal

pub returns : goal.returns
returns c = texts_stay_inside
