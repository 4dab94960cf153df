use Rattle.std.proofs.Common.{string_bytes}
use Rattle.drive_file.proofs.AskLemmas.{synced_behind, syncing_all, syncing_behind, syncing_top}
use Rattle.drive_file.proofs.folders.sync_from.Goals as goal

pub returns-in_err-sync-clause-only : goal.returns-in_err-sync-clause-only
returns-in_err-sync-clause-only g c =
    syncing_top string_bytes c.args.top.now c.args.inner.now c.sync.result (g.F.Folder.calls c.args.system.now) (g.F.Folder.calls c.sync.new.self)
    c.sync.ensures.calls

pub returns-then-first-eq0-clause-only : goal.returns-then-first-eq0-clause-only
returns-then-first-eq0-clause-only g c =
    syncing_all string_bytes c.args.top.now c.args.inner.now c.sync.result (g.F.Folder.calls c.args.system.now) (g.F.Folder.calls c.sync.new.self)
    (g.F.Folder.calls c.sync-then-first-eq0.new.system) c.sync.ensures.calls c.sync-then-first-eq0.ensures.only

pub returns-clause-all : goal.returns-clause-all
returns-clause-all g c =
    synced_behind string_bytes c.args.top.now c.args.inner.now c.args.first c.sync-2.result (g.F.Folder.calls c.args.system.now)
    (g.F.Folder.calls c.sync-2.new.system) c.if-first-eq0.false c.sync-2.ensures.all

pub returns-clause-only : goal.returns-clause-only
returns-clause-only g c =
    syncing_behind string_bytes c.args.top.now c.args.inner.now c.args.first (g.F.Folder.calls c.args.system.now)
    (g.F.Folder.calls c.sync-2.new.system) c.if-first-eq0.false c.sync-2.ensures.only
