use Rattle.std.proofs.Common.{◌≡◌, ◌∙◌}
use Rattle.drive_base.specs.Trail.{listed}
use Rattle.drive_file.specs.Paths.{path_below}
use Rattle.drive_file.proofs.OpeningLemmas.{group_listed, group_synced}
use Rattle.drive_file.proofs.opening.list_group.Goals as goal

pub returns-in_err-sync : goal.returns-in_err-sync
returns-in_err-sync g c = record {
  only = group_synced c.args.folder.now c.args.group.now c.as_str.result.now c.sync.result
      (g.F.Folder.calls c.args.system.now) (g.F.Folder.calls c.sync.new.self) (c.as_str.ensures.value ∙ c.in_ok-path.ensures) c.sync.ensures.calls;
}

pub returns-in_err-list : goal.returns-in_err-list
returns-in_err-list g c = record {
  only = group_listed c.args.folder.now c.args.group.now c.as_str-2.result.now (listed c.list.result)
      (g.F.Folder.calls c.args.system.now) (g.F.Folder.calls c.sync.new.self) (g.F.Folder.calls c.list.new.self) (c.as_str-2.ensures.value ∙ c.in_ok-path.ensures)
      (group_synced c.args.folder.now c.args.group.now c.as_str.result.now c.sync.result
      (g.F.Folder.calls c.args.system.now) (g.F.Folder.calls c.sync.new.self) (c.as_str.ensures.value ∙ c.in_ok-path.ensures) c.sync.ensures.calls)
      c.list.ensures.calls;
}

pub returns : goal.returns
returns g c = record {
  only = group_listed c.args.folder.now c.args.group.now c.as_str-2.result.now (listed c.list.result)
      (g.F.Folder.calls c.args.system.now) (g.F.Folder.calls c.sync.new.self) (g.F.Folder.calls c.list.new.self) (c.as_str-2.ensures.value ∙ c.in_ok-path.ensures)
      (group_synced c.args.folder.now c.args.group.now c.as_str.result.now c.sync.result
      (g.F.Folder.calls c.args.system.now) (g.F.Folder.calls c.sync.new.self) (c.as_str.ensures.value ∙ c.in_ok-path.ensures) c.sync.ensures.calls)
      c.list.ensures.calls;
}
