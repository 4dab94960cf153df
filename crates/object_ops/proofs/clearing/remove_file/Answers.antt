use Rattle.drive_base.specs.View.{view}
use Rattle.object_ops.proofs.CallLemmas.{removed_so}
use Rattle.object_ops.proofs.clearing.remove_file.Goals as goal

pub returns : goal.returns
returns g c = removed_so c.args.name.now c.remove.result (view g.D.Drive c.args.drive.now) (view g.D.Drive c.remove.new.self) (record {
  files = c.remove.ensures.files;
  tells = c.remove.ensures.tells;
  count = c.remove.ensures.count;
  trail = c.remove.ensures.trail;
})
