use Rattle.s3_request.proofs.DigitLemmas.{digits_utf8}
use Rattle.s3_request.proofs.arguments.number_in.Goals as goal

pub returns-in-Err : goal.returns-in-Err
returns-in-Err c = absurd (c.in-Err.ensures.cases.0 (digits_utf8 c.args.digits.now c.requires))
