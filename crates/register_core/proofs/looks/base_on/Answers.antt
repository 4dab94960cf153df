use Rattle.register_core.proofs.FoundLemmas.{found_is}
use Rattle.std.proofs.Common.{sym}
use Rattle.register_core.proofs.looks.base_on.Goals as goal

pub returns-clause-base : goal.returns-clause-base
returns-clause-base c = (
  c.in-Some.file,
  found_is c.args.files.now c.args.lane c.requires.1.0 c.index-files-lane.result c.in-Some.file c.requires.1.1 c.index-files-lane.is c.in-Some.is,
  sym c.in_ok-copy_base-in-Some.ensures,
)
