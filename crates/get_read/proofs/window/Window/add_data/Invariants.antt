use Rattle.std.proofs.Common.{◌≡◌, ◌+◌, ◌*◌, ◌++◌, length, take}
use Rattle.std.specs.List.{concat}
use Rattle.shard_file.specs.Stripes.{stripe_size}
use Rattle.get_read.specs.Stripes.{EachStripe}
use Rattle.get_read.specs.Windows.{run_block}
use Rattle.get_read.proofs.window.Window.add_data.Given as goal

-- the bytes have gained the blocks so far, and they are the data blocks of a stripe that has the blocks at hand
abbrev pub invariant-loop-row : goal.invariant-loop-row
invariant-loop-row l = record {
  long : length l.body.items ≡ length l.initial.body.items + l.row * l.self.size;
  kept : take (length l.initial.body.items) l.body.items ≡ l.initial.body.items;
  front : EachStripe l.set stripe_size l.self.rows.items (λ j. run_block l.self j l.stripe)
      (λ _ shards. l.body.items ≡ l.initial.body.items ++ concat (take l.row shards));
}
