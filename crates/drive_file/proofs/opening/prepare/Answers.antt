use Rattle.drive_file.proofs.OpeningLemmas.{opened}
use Rattle.drive_file.proofs.opening.prepare.Goals as goal

pub returns : goal.returns
returns g c =
    opened c.read_names.result c.args.folder.now c.args.loose.now (g.F.Folder.calls c.args.system.now) (g.F.Folder.calls c.make_ready.new.system)
    (g.F.Folder.calls c.empty.new.system) (g.F.Folder.calls c.read_names.new.system) c.in_ok-make_ready.ensures.ready c.in_ok-empty.ensures.all
    c.read_names.ensures.only
