-- How a body is cut into stripes, and a stripe into data blocks.
use Rattle.std.specs.Prelude.{ℕ, ◌-◌, ◌*◌, min, List, ◌++◌, length, take, drop, map, replicate}
use Rattle.std.specs.List.{range_with_len}
use Rattle.std.specs.Int.{div_ceil}

-- piece i of bytes that are cut into pieces of one size; the last one has what is left
abbrev pub piece : ℕ → List ℕ → ℕ → List ℕ
piece size bytes i = take size (drop (size * i) bytes)

-- the first `count` of these pieces, in order
abbrev pub pieces : ℕ → ℕ → List ℕ → List (List ℕ)
pieces size count bytes = map (piece size bytes) (range_with_len 0 count)

-- the bytes of a whole stripe
abbrev pub stripe_size : ℕ
stripe_size = 1048576

-- how many stripes a body of n bytes has, the last one included, which may be shorter
abbrev pub stripe_count : ℕ → ℕ
stripe_count n = div_ceil n stripe_size

-- the stripes of a body, in order; an empty body has none
abbrev pub stripes : List ℕ → List (List ℕ)
stripes body = pieces stripe_size (stripe_count (length body)) body

-- the length of stripe i of a body of n bytes
abbrev pub stripe_length : ℕ → ℕ → ℕ
stripe_length n i = min stripe_size (n - stripe_size * i)

-- the lengths of the stripes of a body of n bytes
abbrev pub stripe_lengths : ℕ → List ℕ
stripe_lengths n = map (stripe_length n) (range_with_len 0 (stripe_count n))

-- the length of each of d blocks that a stripe of n bytes is cut into: n / d, rounded up
abbrev pub block_size : ℕ → ℕ → ℕ
block_size d n = div_ceil n d

-- a stripe, filled up with zeros to d blocks
abbrev pub padded : ℕ → List ℕ → List ℕ
padded d stripe = stripe ++ replicate (d * block_size d (length stripe) - length stripe) 0

-- the d data blocks of a stripe, in order
abbrev pub data_blocks : ℕ → List ℕ → List (List ℕ)
data_blocks d stripe = pieces (block_size d (length stripe)) d (padded d stripe)
