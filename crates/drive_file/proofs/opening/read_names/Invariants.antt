use Rattle.drive_file.specs.Asks.{AskedOnly}
use Rattle.drive_file.specs.Opening.{IsReading}
use Rattle.drive_file.proofs.opening.read_names.Given as goal

-- only what reads was asked
abbrev pub invariant-loop : goal.invariant-loop
invariant-loop g l = AskedOnly (IsReading l.folder) (g.F.Folder.calls l.initial.system) (g.F.Folder.calls l.system)
