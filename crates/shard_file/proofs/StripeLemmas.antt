-- The stripes of a body, and the data blocks of a stripe.
use Rattle.std.proofs.Common.{◌≡◌, ℕ, ◌-◌, ◌*◌, ◌<◌, ◌≤◌, ◌∙◌, List, length, take, replicate, ap, refl, arith}
use Rattle.std.specs.List.{range_with_len}
use Rattle.std.proofs.lemmas.Grind.{div_ceil_times}
use Rattle.std.proofs.lemmas.List.{length-append, length-replicate, take_all, take_at}
use Rattle.shard_file.specs.Laws.{StripesAreTheBody, StripesHaveLengths, DataBlocksArePadded, DataBlocksAreTheStripe, DataBlocksHaveOneSize}
use Rattle.shard_file.specs.Stripes.{piece, stripe_size, stripe_count, stripe_length, block_size, padded}
use Rattle.shard_file.proofs.Pieces.{concat-pieces, get_or-pieces, length-piece, length-pieces, length-whole_piece, map_map, map_same}

-- the stripes reach to the body's end
pub stripes_reach : (n : ℕ) → n ≤ stripe_size * stripe_count n
stripes_reach n = omega (arith, div_ceil_times n 1048576 (omega arith))

-- d blocks of a stripe's size hold it
pub blocks_reach : (d n : ℕ) → 0 < d → n ≤ d * block_size d n
blocks_reach d n some = omega (arith, div_ceil_times n d some)

-- a padded stripe has the length of d blocks
pub length-padded : (d : ℕ) (stripe : List ℕ) → 0 < d → length (padded d stripe) ≡ d * block_size d (length stripe)
length-padded d stripe some =
    let reach = blocks_reach d (length stripe) some in
    let gap = d * block_size d (length stripe) - length stripe in
    length-append stripe (replicate gap 0) ∙ omega (arith, length-replicate {A = ℕ} gap 0)

pub stripes_are_the_body : StripesAreTheBody
stripes_are_the_body body =
    concat-pieces stripe_size (stripe_count (length body)) body
    ∙ take_all (stripe_size * stripe_count (length body)) body (stripes_reach (length body))

pub stripes_have_lengths : StripesHaveLengths
stripes_have_lengths body =
    let places = range_with_len 0 (stripe_count (length body)) in
    map_map (piece stripe_size body) length places
    ∙ map_same (λ i. length (piece stripe_size body i)) (stripe_length (length body)) places (length-piece stripe_size body)

pub data_blocks_are_padded : DataBlocksArePadded
data_blocks_are_padded d stripe some =
    let size = block_size d (length stripe) in
    let long : length (padded d stripe) ≤ size * d = omega (arith, length-padded d stripe some) in
    concat-pieces size d (padded d stripe) ∙ take_all (size * d) (padded d stripe) long

pub data_blocks_are_the_stripe : DataBlocksAreTheStripe
data_blocks_are_the_stripe d stripe some =
    let gap = d * block_size d (length stripe) - length stripe in
    ap (take (length stripe)) (data_blocks_are_padded d stripe some)
    ∙ take_at stripe (replicate gap 0) (length stripe) refl

pub data_blocks_have_one_size : DataBlocksHaveOneSize
data_blocks_have_one_size d stripe some =
    let size = block_size d (length stripe) in
    let long : length (padded d stripe) ≡ size * d = omega (arith, length-padded d stripe some) in
    let count = length-pieces size d (padded d stripe) in (
      count,
      λ k default low.
          let below : k < d = omega arith in
          ap length (get_or-pieces size d (padded d stripe) k default below) ∙ length-whole_piece size d (padded d stripe) k below long,
    )
