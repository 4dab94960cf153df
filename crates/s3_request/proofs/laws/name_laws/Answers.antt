use Rattle.s3_request.proofs.IdTests.{id_of-is}
use Rattle.s3_request.proofs.NameTests.{is_bucket_name-is}
use Rattle.s3_request.proofs.laws.name_laws.Goals as goal

pub returns-clause-names : goal.returns-clause-names
returns-clause-names c = is_bucket_name-is

pub returns-clause-ids : goal.returns-clause-ids
returns-clause-ids c = id_of-is
