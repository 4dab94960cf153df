use Rattle.std.proofs.Common.{Err, ap}
use Rattle.ostore.proofs.ProgramLemmas.{does_as, fits_itself}
use Rattle.ostore.proofs.program.run_alone.Goals as goal

pub run_command-requires : goal.run_command-requires
run_command-requires g c = record { fits = fits_itself c.args.words.now c.args.rig c.in-Ok.plan c.requires.fits c.in-Ok.ensures.ok }

pub returns-in-Ok-clause-usage : goal.returns-in-Ok-clause-usage
returns-in-Ok-clause-usage g c = λ nothing. absurd (nothing c.in-Ok.plan c.in-Ok.ensures.ok)

pub returns-in-Ok-clause-does : goal.returns-in-Ok-clause-does
returns-in-Ok-clause-does g c = λ plan says.
    does_as g.D.Drive g.A.Audit.entries g.A.Audit.count c.args.words.now c.in-Ok.plan plan _ _ _ _ _ c.in-Ok.ensures.ok says c.run_command.ensures

pub returns-in-Err-NotACommand-clause-does : goal.returns-in-Err-NotACommand-clause-does
returns-in-Err-NotACommand-clause-does g c = λ plan says. absurd (c.in-Err-NotACommand.ensures.none (ap (λ why. Err why) c.in-Err-NotACommand.field-0-is) plan says)
