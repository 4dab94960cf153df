use Rattle.std.proofs.Common.{◌∙◌, Err, ap, sym}
use Rattle.command_line.specs.declared.plan.Command.TheVariants.{Serve}
use Rattle.io_base.specs.Spawner.{spawner_faults}
use Rattle.serve_loop.specs.Seen.{wires_of}
use Rattle.ostore.specs.declared.gate.NoGate.{NoGate}
use Rattle.ostore.proofs.ProgramLemmas.{fits_itself, one_command}
use Rattle.ostore.proofs.ServingLemmas.{does_all_as, done_alone}
use Rattle.ostore.proofs.StoreServedLemmas.{served_so}
use Rattle.ostore.proofs.running.run.Goals as goal

pub returns-in-Serve-clause-does : goal.returns-in-Serve-clause-does
returns-in-Serve-clause-does g c = λ plan says.
    does_all_as g.row.R.Denot NoGate g.D.Drive g.D.Share.root g.A.Audit.entries g.A.Audit.count g.O.Door g.O.In.Source g.O.Out.Sink
    (g.C.Clock.moment c.args.clock.now) c.args.clock.now Serve plan.command _ _ _ _ _ _ _
    (sym c.in-Serve.is ∙ one_command c.args.words.now c.in-Ok.plan plan c.in-Ok.ensures.ok says)
    (served_so g.row.R.Denot NoGate g.D.Drive g.D.Share.root g.A.Audit.entries g.A.Audit.count g.O.Door g.O.In.Source g.O.Out.Sink
    (g.C.Clock.moment c.args.clock.now) c.args.clock.now c.served_law.ensures c.begun_law.ensures _ _ _ _ _ _ c.serve.ensures)

pub run_command-requires : goal.run_command-requires
run_command-requires g c = record { fits = fits_itself c.args.words.now c.args.rig c.in-Ok.plan c.requires.fits c.in-Ok.ensures.ok }

pub returns-in-Ok : goal.returns-in-Ok
returns-in-Ok g c = record {
  usage = λ nothing. absurd (nothing c.in-Ok.plan c.in-Ok.ensures.ok);
  does = λ plan says.
      let before = wires_of g.S.Source g.K.Sink c.args.source c.args.sink.now in
      let faults = spawner_faults c.args.spawner.now in
      let after = wires_of g.S.Source g.K.Sink c.with_doors.result.source c.run_command.new.sink in
      does_all_as g.row.R.Denot NoGate g.D.Drive g.D.Share.root g.A.Audit.entries g.A.Audit.count g.O.Door g.O.In.Source g.O.Out.Sink
      (g.C.Clock.moment c.args.clock.now) c.args.clock.now c.in-Ok.plan.command plan.command c.args.rig c.args.doors.items faults faults c.with_doors.result.ended before after
      (one_command c.args.words.now c.in-Ok.plan plan c.in-Ok.ensures.ok says)
      (done_alone g.row.R.Denot NoGate g.D.Drive g.D.Share.root g.A.Audit.entries g.A.Audit.count g.O.Door g.O.In.Source g.O.Out.Sink
      (g.C.Clock.moment c.args.clock.now) c.args.clock.now c.in-Ok.plan.command c.in_default.not-Serve c.args.rig c.args.doors faults c.run_command.result.ended c.with_doors.result.ended before
      (wires_of g.S.Source g.K.Sink c.run_command.result.source c.run_command.new.sink) after c.with_doors.ensures.ended c.with_doors.ensures.doors
      (ap (λ s. wires_of g.S.Source g.K.Sink s c.run_command.new.sink)
      (sym c.with_doors.ensures.source))
      c.run_command.ensures);
}

pub returns-in-Err-NotACommand-clause-does : goal.returns-in-Err-NotACommand-clause-does
returns-in-Err-NotACommand-clause-does g c = λ plan says. absurd (c.in-Err-NotACommand.ensures.none (ap (λ why. Err why) c.in-Err-NotACommand.field-0-is) plan says)
