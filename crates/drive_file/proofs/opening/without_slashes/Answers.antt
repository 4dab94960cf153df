use Rattle.drive_file.proofs.OpeningLemmas.{trimmed}
use Rattle.drive_file.proofs.opening.without_slashes.Goals as goal

pub returns : goal.returns
returns c = trimmed c.args.path.now c.trim_end_matches.result.now c.trim_end_matches.ensures.matches
