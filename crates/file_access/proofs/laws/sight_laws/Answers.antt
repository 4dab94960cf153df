use Rattle.file_access.proofs.SightLemmas.{calls_tell_what_was_so}
use Rattle.file_access.proofs.laws.sight_laws.Goals as goal

pub returns : goal.returns
returns c = record { so = calls_tell_what_was_so }
