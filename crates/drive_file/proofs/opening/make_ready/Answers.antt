use Rattle.drive_file.proofs.OpeningLemmas.{first_made, folder_synced, loose_made, made_ready, parent_synced}
use Rattle.drive_file.proofs.opening.make_ready.Goals as goal

pub returns-in_err-make-clause-only : goal.returns-in_err-make-clause-only
returns-in_err-make-clause-only g c =
    first_made c.args.folder.now c.args.loose.now c.make.result (g.F.Folder.calls c.args.system.now) (g.F.Folder.calls c.make.new.self) c.make.ensures.calls

pub returns-in_err-sync-clause-only : goal.returns-in_err-sync-clause-only
returns-in_err-sync-clause-only g c =
    let folder = c.args.folder.now in
    let loose = c.args.loose.now in
    let old = g.F.Folder.calls c.args.system.now in
    let one = g.F.Folder.calls c.make.new.self in
    parent_synced folder loose c.parent_of.result.now c.sync.result old one (g.F.Folder.calls c.sync.new.self) c.parent_of.ensures
    (first_made folder loose c.make.result old one c.make.ensures.calls) c.sync.ensures.calls

pub returns-in_err-make-2-clause-only : goal.returns-in_err-make-2-clause-only
returns-in_err-make-2-clause-only g c =
    let folder = c.args.folder.now in
    let loose = c.args.loose.now in
    let old = g.F.Folder.calls c.args.system.now in
    let one = g.F.Folder.calls c.make.new.self in
    let two = g.F.Folder.calls c.sync.new.self in
    loose_made folder loose c.make-2.result old two (g.F.Folder.calls c.make-2.new.self)
    (parent_synced folder loose c.parent_of.result.now c.sync.result old one two c.parent_of.ensures
    (first_made folder loose c.make.result old one c.make.ensures.calls) c.sync.ensures.calls)
    c.make-2.ensures.calls

pub returns-clause-ready : goal.returns-clause-ready
returns-clause-ready g c =
    made_ready c.args.folder.now c.args.loose.now c.parent_of.result.now c.in_ok-make.field-0 c.in_ok-make-2.field-0 c.sync-2.result
    (g.F.Folder.calls c.args.system.now) (g.F.Folder.calls c.make.new.self) (g.F.Folder.calls c.sync.new.self) (g.F.Folder.calls c.make-2.new.self)
    (g.F.Folder.calls c.sync-2.new.self) c.parent_of.ensures c.in_ok-make.ensures.calls c.in_ok-sync.ensures.calls c.in_ok-make-2.ensures.calls
    c.sync-2.ensures.calls

pub returns-clause-only : goal.returns-clause-only
returns-clause-only g c =
    let folder = c.args.folder.now in
    let loose = c.args.loose.now in
    let old = g.F.Folder.calls c.args.system.now in
    let one = g.F.Folder.calls c.make.new.self in
    let two = g.F.Folder.calls c.sync.new.self in
    let three = g.F.Folder.calls c.make-2.new.self in
    folder_synced folder loose c.sync-2.result old three (g.F.Folder.calls c.sync-2.new.self)
    (loose_made folder loose c.make-2.result old two three
    (parent_synced folder loose c.parent_of.result.now c.sync.result old one two c.parent_of.ensures
    (first_made folder loose c.make.result old one c.make.ensures.calls) c.sync.ensures.calls)
    c.make-2.ensures.calls)
    c.sync-2.ensures.calls
