-- The block of one stripe more.
use Rattle.std.proofs.Common.{◌*◌, refl}
use Rattle.drive_base.specs.Plan.{data_drives}
use Rattle.shard_file.specs.Stripes.{stripe_size}
use Rattle.put_stage.proofs.RunLemmas.{run_more}
use Rattle.put_stage.proofs.windows.add_run.Goals as goal

pub loop-number-preserved : goal.loop-number-preserved
loop-number-preserved c =
    run_more (data_drives c.args.set.now.drives c.args.set.now.parity) c.args.drive c.loop-number.number (c.loop-number.number * stripe_size) c.args.bytes.now
    c.args.into.now.items c.loop-number.into.items c.add_block.new.into.items refl c.loop-number.invariant c.in_ok-add_block.ensures
