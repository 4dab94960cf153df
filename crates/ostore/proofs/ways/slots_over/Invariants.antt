use Rattle.std.proofs.Common.{◌≡◌, ◌++◌, [], ◌∷◌}
use mir.Syntax.{dnil, impl, tcons, tnil}
use denote.Param.{layout}
use Rattle.drive_file.specs.contracts.shared.SharedDriveDrive.TheImpl.{ghosts}
use Rattle.ostore.specs.Ways.{AreSlotsOver}
use Rattle.ostore.proofs.ways.slots_over.Given as goal

-- those so far have ways
abbrev pub invariant-loop-parts : goal.invariant-loop-parts
invariant-loop-parts g l = (l.fn.slots.items ≡ l.yielded ++ l.parts-iterator.rest.items) × AreSlotsOver g.D.Drive
    (ghosts g.row.R g.row.D g.R.Wait g.R.Wait-dict g.R.Clone g.R.Clone-dict g.D.Drive g.D.Drive-dict
    (impl ("ostore::Destruct++none::drop" ∷ []) (tcons (layout g.row.R) tnil) dnil) g.D.Destruct-dict) l.yielded l.home.items
