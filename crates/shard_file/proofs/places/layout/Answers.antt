use Rattle.std.proofs.Common.{◌≡◌, ℕ, ◌-◌, ◌*◌, ◌/◌, ◌<◌, ◌∙◌, ap, sym, arith}
use Rattle.drive_base.specs.Plan.{data_drives}
use Rattle.shard_file.specs.Stripes.{block_size, stripe_length, stripe_size}
use Rattle.shard_file.proofs.ShardLemmas.{block_before_table, table_place-last}
use Rattle.shard_file.proofs.places.layout.Goals as goal

pub returns-clause-apart : goal.returns-clause-apart
returns-clause-apart c =
    let d = data_drives c.args.set.now.drives c.args.set.now.parity in
    let n = c.args.length in
    let i = c.args.stripe in
    let last = (n - 1) / 1048576 in
    let whole = block_size d stripe_size in
    let end = block_size d (n - last * stripe_size) in
    let long = block_size d (stripe_length n i) in
    let inner : i < last → long ≡ whole = λ (before : i < last).
    let size : stripe_length n i ≡ stripe_size = omega arith in
    ap (block_size d) size in
    let outer : i ≡ last → long ≡ end = λ (at : i ≡ last).
    let size : stripe_length n i ≡ n - last * stripe_size = omega arith in
    ap (block_size d) size in
    let below = block_before_table last i whole end long (omega arith) inner outer in
    let place = table_place-last d n last (omega arith) (omega arith) in
    let length : stripe_length n i ≡ c.min.result = omega arith in
    let size : c.block_len-2.result ≡ long = c.block_len-2.ensures.size ∙ ap (block_size d) (sym length) in
    let front : i * c.block_len.result ≡ i * whole = ap (λ (m : ℕ). i * m) c.block_len.ensures.size in
    omega (arith, below, place, size, front, c.blocks_len.ensures.place)
