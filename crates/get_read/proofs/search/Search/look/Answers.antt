use Rattle.std.proofs.Common.{rules, ◌≡◌, arith}
use Rattle.drive_base.specs.View.{view}
use Rattle.body_print.specs.Names.{manifest_name}
use Rattle.get_read.proofs.SearchStepLemmas.{look_long, look_served, look_unserved, look_without}
use Rattle.get_read.proofs.search.Search.look.Goals as goal

pub returns-then-size-gt-LONGEST_FILE-clause-called : goal.returns-then-size-gt-LONGEST_FILE-clause-called
returns-then-size-gt-LONGEST_FILE-clause-called g c =
    let old = c.args.self.now in
    let name : c.as_str-name.result.now ≡ manifest_name old.asked.id = search rules in
    look_long old c.as_str-name.result.now c.in_ok-size.size (view g.D.Drive c.args.drive.now) (view g.D.Drive c.call_size.new.drive) name (omega arith)
    c.in_ok-size.ensures.called

pub returns-in-Ok-clause-called : goal.returns-in-Ok-clause-called
returns-in-Ok-clause-called g c =
    look_served c.args.self.now c.as_str-name.result.now c.in_ok-file.file.items c.in-Ok.manifest (view g.D.Drive c.args.drive.now) (view g.D.Drive c.call_piece.new.drive)
    (search rules) (search rules) c.in_ok-file.ensures.called.1 (search rules)

pub returns-clause-called : goal.returns-clause-called
returns-clause-called g c =
    look_unserved c.args.self.now c.as_str-name.result.now c.in_ok-file.file.items c.in-Err.fault (view g.D.Drive c.args.drive.now) (view g.D.Drive c.call_piece.new.drive)
    (search rules) (search rules) c.in_ok-file.ensures.called.1 (search rules)

pub returns-clause-idle : goal.returns-clause-idle
returns-clause-idle g c =
    let file = c.in_ok-file.file.items in
    look_without g.D.Drive file c.as_str-name.result.now c.in-Err.fault c.args.drive.now c.call_piece.new.drive c.in_ok-file.ensures.called.1
