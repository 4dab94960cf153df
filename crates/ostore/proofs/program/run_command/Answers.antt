use Rattle.std.proofs.Common.{inl, refl}
use Rattle.ostore.proofs.ProgramLemmas.{does_so}
use Rattle.ostore.proofs.program.run_command.Goals as goal

pub returns-in-Pipe : goal.returns-in-Pipe
returns-in-Pipe g c = does_so g.D.Drive g.A.Audit.entries g.A.Audit.count _ _ _ _ _ _ _ c.in-Pipe.is (inl c.pipe.ensures)

pub returns-in-Status : goal.returns-in-Status
returns-in-Status g c = does_so g.D.Drive g.A.Audit.entries g.A.Audit.count _ _ _ _ _ _ _ c.in-Status.is
    (inl (c.status.ensures (g.S.Source.left c.args.source) (g.S.Source.takes c.args.source) (g.S.Source.faults c.args.source)))

pub returns-in-Serve : goal.returns-in-Serve
returns-in-Serve g c = does_so g.D.Drive g.A.Audit.entries g.A.Audit.count _ _ _ _ _ _ _ c.in-Serve.is (inl (record {
  status_is = c.with.ensures.status;
  rig_is = c.with.ensures.rig;
  opening = c.with.ensures.opening;
  line = c.with.ensures.line;
  starved = c.with.ensures.starved;
  still = refl;
}))
