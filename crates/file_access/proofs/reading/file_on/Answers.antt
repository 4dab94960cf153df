use Rattle.drive_base.specs.View.{view}
use Rattle.file_access.proofs.ReadLemmas.{read_twice}
use Rattle.file_access.proofs.reading.file_on.Goals as goal

pub returns-clause-read : goal.returns-clause-read
returns-clause-read g c = read_twice (view g.D.Drive c.args.drive.now) (view g.D.Drive c.size_on.new.drive) (view g.D.Drive c.piece_on.new.drive)
    c.size_on.ensures.read c.piece_on.ensures.read
