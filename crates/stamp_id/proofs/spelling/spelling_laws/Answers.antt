use Rattle.stamp_id.proofs.IdLemmas.{id_bytes-injective, id_text-injective}
use Rattle.stamp_id.proofs.spelling.spelling_laws.Goals as goal

pub returns-clause-bytes : goal.returns-clause-bytes
returns-clause-bytes c = id_bytes-injective

pub returns-clause-text : goal.returns-clause-text
returns-clause-text c = id_text-injective
