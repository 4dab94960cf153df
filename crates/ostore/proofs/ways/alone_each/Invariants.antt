use Rattle.std.proofs.Common.{◌≡◌, ◌++◌, [], ◌∷◌}
use mir.Syntax.{dnil, impl, tcons, tnil}
use denote.Param.{layout}
use Rattle.drive_file.specs.contracts.shared.SharedDriveDrive.TheImpl.{ghosts}
use Rattle.ostore.specs.Ways.{ShowSame}
use Rattle.ostore.proofs.ways.alone_each.Given as goal

-- those so far have ways
abbrev pub invariant-loop-drive : goal.invariant-loop-drive
invariant-loop-drive g l = (l.fn.drives.items ≡ l.yielded ++ l.drive-iterator.rest.items) × ShowSame g.D.Drive
    (ghosts g.row.R g.row.D g.R.Wait g.R.Wait-dict g.R.Clone g.R.Clone-dict g.D.Drive g.D.Drive-dict
    (impl ("ostore::Destruct++none::drop" ∷ []) (tcons (layout g.row.R) tnil) dnil) g.D.Destruct-dict) l.yielded l.ways.items
