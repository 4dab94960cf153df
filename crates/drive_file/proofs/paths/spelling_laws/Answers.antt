use Rattle.drive_file.proofs.PathLemmas.{spellings_differ}
use Rattle.drive_file.proofs.paths.spelling_laws.Goals as goal

pub returns : goal.returns
returns c = spellings_differ
