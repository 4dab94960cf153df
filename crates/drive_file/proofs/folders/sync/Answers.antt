use Rattle.std.proofs.Common.{◌≡◌, ◌+◌, List, Ok, ℕ, arith, string_bytes, suc}
use Rattle.drive_file.specs.Folder.{AskSync}
use Rattle.drive_file.proofs.AskLemmas.{each_more, syncing_more}
use Rattle.drive_file.proofs.folders.sync.Goals as goal

pub loop-place-preserved : goal.loop-place-preserved
loop-place-preserved g c =
    let was = c.loop-place.invariant in
    let place = c.loop-place.place in
    let next : place + 1 ≡ suc place = omega arith in
    record {
      calls = each_more string_bytes c.args.folders.now (λ (path : List ℕ). AskSync path (Ok tt)) place (place + 1)
          c.index-folders-place.result c.as_str.result.now
          (g.F.Folder.calls c.args.system.now) (g.F.Folder.calls c.loop-place.system) (g.F.Folder.calls c.sync.new.self)
          c.loop-place-test.true c.index-folders-place.is next c.as_str.ensures.value c.in_ok-sync.ensures.calls was.calls;
      only = syncing_more string_bytes c.args.folders.now place c.index-folders-place.result c.as_str.result.now c.sync.result
          (g.F.Folder.calls c.args.system.now) (g.F.Folder.calls c.loop-place.system) (g.F.Folder.calls c.sync.new.self)
          c.loop-place-test.true c.index-folders-place.is c.as_str.ensures.value c.sync.ensures.calls was.only;
    }

pub returns-in_err-sync-clause-only : goal.returns-in_err-sync-clause-only
returns-in_err-sync-clause-only g c =
    syncing_more string_bytes c.args.folders.now c.loop-place.place c.index-folders-place.result c.as_str.result.now c.sync.result
    (g.F.Folder.calls c.args.system.now) (g.F.Folder.calls c.loop-place.system) (g.F.Folder.calls c.sync.new.self)
    c.loop-place-test.true c.index-folders-place.is c.as_str.ensures.value c.sync.ensures.calls c.loop-place.invariant.only
