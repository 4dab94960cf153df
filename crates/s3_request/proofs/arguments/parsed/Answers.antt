use Rattle.s3_request.proofs.DigitLemmas.{parsed_digits, number_ok, number_err}
use Rattle.s3_request.proofs.arguments.parsed.Goals as goal

pub returns-in-Ok : goal.returns-in-Ok
returns-in-Ok c =
    number_ok c.args.digits.now c.in-Ok.number
    (rw c.in-Ok.is at (parsed_digits c.args.digits.now c.parse.result c.parse.ensures.value.0 c.requires))

pub returns-in-Err : goal.returns-in-Err
returns-in-Err c = number_err c.args.digits.now (rw c.in-Err.is at (parsed_digits c.args.digits.now c.parse.result c.parse.ensures.value.0 c.requires))
