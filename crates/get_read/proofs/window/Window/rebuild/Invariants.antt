use Rattle.std.proofs.Common.{◌≡◌, ◌<◌, ◌*◌, ℕ, length}
use Rattle.shard_file.specs.Stripes.{piece, stripe_size}
use Rattle.get_read.specs.Stripes.{EachStripe}
use Rattle.get_read.specs.Windows.{run_block}
use Rattle.get_read.proofs.window.Window.rebuild.Given as goal

-- the stripes so far are there
abbrev pub invariant-loop-stripe : goal.invariant-loop-stripe
invariant-loop-stripe l = record {
  long : length l.bytes.items ≡ l.stripe * stripe_size;
  are : (s : ℕ) → s < l.stripe → EachStripe l.set stripe_size l.self.rows.items (λ j. run_block l.self j s) (λ stripe _. piece stripe_size l.bytes.items s ≡ stripe);
}
