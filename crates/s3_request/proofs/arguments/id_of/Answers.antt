use Rattle.std.proofs.Common.{sym}
use Rattle.s3_request.proofs.IdLemmas.{no_id}
use Rattle.s3_request.proofs.IdTests.{id_of-is}
use Rattle.s3_request.proofs.arguments.id_of.Goals as goal

pub returns-in-Ok : goal.returns-in-Ok
returns-in-Ok c = sym ((id_of-is c.args.text.now c.in-Ok.id).1 c.in-Ok.ensures.ok)

pub returns-in-Err : goal.returns-in-Err
returns-in-Err c = no_id c.args.text.now (λ id is. absurd (cc (c.in-Err.ensures.reads id is)))
