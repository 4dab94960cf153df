use Rattle.std.proofs.Common.{IsTrue, sym, subst}
use Rattle.file_access.specs.Writing.{HasLoose}
use Rattle.file_access.proofs.StepLemmas.{appended_there, step_there}
use Rattle.file_access.proofs.writing.write_loose.Goals as goal

pub returns-clause-cause : goal.returns-clause-cause
returns-clause-cause g c =
    let D = g.D.Drive in
    let mid = c.append_on.new.drive in
    let known = IsTrue (D.tells c.args.drive.now) in
    let appended = c.in_ok-append_on.ensures in
    let there : known → IsTrue (D.tells mid) × HasLoose (D.files mid) c.args.loose.now =
    λ tells. (subst IsTrue (sym c.append_on.ensures.tells) tells, appended_there c.args.loose.now c.args.bytes.now (D.files c.args.drive.now) (D.files mid) (appended.ok tells)) in
    step_there c.args.kind (IsTrue (D.tells mid) × HasLoose (D.files mid) c.args.loose.now) known c.sync_on.result (D.count c.args.drive.now) (D.count mid) (D.count c.sync_on.new.drive) appended.cause there c.sync_on.ensures.cause
