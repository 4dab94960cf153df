use Rattle.std.proofs.Common.{◌≡◌, ◌<◌, ◌*◌, ℕ, length}
use Rattle.shard_file.specs.Stripes.{piece}
use Rattle.get_read.specs.Windows.{run_block}
use Rattle.get_read.proofs.window.Window.blocks_of.Given as goal

-- the blocks so far are there
abbrev pub invariant-loop-row : goal.invariant-loop-row
invariant-loop-row l = record {
  long : length l.bytes.items ≡ l.row * l.self.size;
  are : (j : ℕ) → j < l.row → piece l.self.size l.bytes.items j ≡ run_block l.self j l.stripe;
}
