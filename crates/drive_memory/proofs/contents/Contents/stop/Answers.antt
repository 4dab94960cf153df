use Rattle.std.proofs.Common.{ap}
use Rattle.drive_memory.specs.Contents.{held_files}
use Rattle.drive_memory.specs.Maps.{kept_files, shown_files}
use Rattle.drive_memory.proofs.FilesLemmas.{files_at}
use Rattle.drive_memory.proofs.contents.Contents.stop.Goals as goal

pub returns : goal.returns
unfolding held_files
returns c = ap (files_at (kept_files c.args.self.now.placed) (shown_files c.args.self.now.placed)) c.stop.ensures
