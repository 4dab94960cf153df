-- The blocks of a body as they are coded in memory, stripe by stripe.
use Rattle.std.specs.Prelude.{◌≡◌, ℕ, ◌*◌, List, length, map, Vec, ◌-◌, ◌<◌, ◌++◌, take}
use Rattle.sha2.specs.Sha256.{sha256}
use Rattle.body_print.specs.Shards.{AreStripeBlocks}
use Rattle.shard_file.specs.Stripes.{piece, pieces}
use Rattle.put_stage.specs.declared.windows.Stripe.{Stripe}
use Rattle.put_stage.specs.declared.windows.Window.{Window}
use Rattle.poly_code.specs.Codeword.{Codeword}
use Rattle.poly_code.specs.Columns.{column}

-- the blocks of a drive in a window, one after another
abbrev pub block_at : ℕ → Window → List ℕ
block_at drive window = piece window.size window.blocks.items drive

-- the n blocks of a stripe, of which d are data, and their digests
pub record IsCoded (n d : ℕ) (stripe : List ℕ) (coded : Stripe) : Type 0 where
  pub long : length coded.blocks.items ≡ coded.size * n
  pub blocks : AreStripeBlocks n d stripe (pieces coded.size n coded.blocks.items)
  pub digests : coded.digests.items ≡ map sha256 (pieces coded.size n coded.blocks.items)

-- the bytes of each of several files
abbrev pub all_bytes : {Z : Type 0} → List (Vec ℕ Z) → List (List ℕ)
all_bytes {Z} files = map (λ (file : Vec ℕ Z). file.items) files

-- behind the data blocks, which stay, there is the parity now: each column of the blocks is a codeword
pub record HasParity (n p size : ℕ) (old new : List ℕ) : Type 0 where
  pub parity : List ℕ
  pub long : length parity ≡ size * p
  pub blocks : new ≡ take (size * (n - p)) old ++ parity
  pub columns : (k : ℕ) → k < size → Codeword n (n - p) (column (n - p) size k (take (size * (n - p)) old) ++ column p size k parity)
