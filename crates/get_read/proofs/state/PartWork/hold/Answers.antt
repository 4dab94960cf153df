use Rattle.std.proofs.Common.{◌*◌}
use Rattle.shard_file.specs.Stripes.{stripe_count}
use Rattle.get_read.proofs.HeldLemmas.{held_set}
use Rattle.get_read.proofs.state.PartWork.hold.Goals as goal

pub invariant_of-self : goal.invariant_of-self
invariant_of-self c = record {
  held = held_set c.args.self.now.tables.items c.args.index c.args.table (32 * stripe_count c.args.self.now.long) c.args.self.now.held c.requires.long c.requires.index;
}
