-- A loop that writes digests in order: what it has written is the front of what is to be written.
use Rattle.std.proofs.Common.{◌≡◌, ℕ, ◌+◌, ◌<◌, ◌≤◌, List, [], ◌∷◌, ◌++◌, length, slice_index_or, slice_set, take, ap, ◌∙◌, arith, refl}
use Rattle.std.specs.Borrow.{Bor}
use Rattle.std.proofs.lemmas.List.{append_assoc, get_or-map, get_or_append_left, length-take-le, length-map, take_more, take_more_set}
use Rattle.std.proofs.lemmas.List.FromFn.{get_or-map-range_with_len, length-map-range_with_len}
use Rattle.sha2.specs.Sha256.{sha256}
use Rattle.hash_lanes.specs.Blocks.{block_at, block_digests, digests_of}

-- the digest of a block of a slice
pub get_or-digests_of : (blocks : List (Bor (List ℕ))) (i : ℕ) (default : Bor (List ℕ)) → i < length blocks
    → slice_index_or (digests_of blocks) i [] ≡ sha256 (slice_index_or blocks i default).now
get_or-digests_of blocks i default low = get_or-map (λ (block : Bor (List ℕ)). sha256 block.now) blocks i default [] low

-- there are as many digests as blocks
pub length-digests_of : (blocks : List (Bor (List ℕ))) → length (digests_of blocks) ≡ length blocks
length-digests_of blocks = length-map blocks (λ (block : Bor (List ℕ)). sha256 block.now)

-- the same, for a buffer of blocks
pub length-block_digests : (size : ℕ) (bytes : List ℕ) (count : ℕ) → length (block_digests size bytes count) ≡ count
length-block_digests size bytes count = length-map-range_with_len (λ (j : ℕ). sha256 (block_at size bytes j)) 0 count

-- the digest of a block of a buffer
pub get_or-block_digests : (size : ℕ) (bytes : List ℕ) (count i : ℕ) → i < count
    → slice_index_or (block_digests size bytes count) i [] ≡ sha256 (block_at size bytes i)
get_or-block_digests size bytes count i low =
    get_or-map-range_with_len (λ (j : ℕ). sha256 (block_at size bytes j)) 0 count i i [] low (omega arith)

-- the four elements after a front
take_four : (xs : List (List ℕ)) (at : ℕ) → at + 4 ≤ length xs
    → take (at + 4) xs ≡ take at xs ++ slice_index_or xs at [] ∷ slice_index_or xs (at + 1) []
    ∷ slice_index_or xs (at + 2) [] ∷ slice_index_or xs (at + 3) [] ∷ []
take_four xs at fits =
    let second : at + 1 + 1 ≡ at + 2 = omega arith in
    let third : at + 2 + 1 ≡ at + 3 = omega arith in
    let fourth : at + 3 + 1 ≡ at + 4 = omega arith in
    rw (
      ← fourth,
      take_more xs (at + 3) [] (omega arith),
      ← third,
      take_more xs (at + 2) [] (omega arith),
      ← second,
      take_more xs (at + 1) [] (omega arith),
      take_more xs at [] (omega arith),
    ) (simp append_assoc)

-- one digest more
pub front_one : (digests targets : List (List ℕ)) (at : ℕ) (digest : List ℕ) → at < length digests → at < length targets
    → digest ≡ slice_index_or targets at [] → take at digests ≡ take at targets
    → take (at + 1) (slice_set digests at digest) ≡ take (at + 1) targets
front_one digests targets at digest within low is_digest held =
    rw (take_more_set digests at digest within, take_more targets at [] low, held, is_digest) refl

-- four digests more
pub front_four : (old new targets : List (List ℕ)) (at : ℕ) (a b c d : List ℕ) → at + 4 ≤ length targets
    → a ≡ slice_index_or targets at [] → b ≡ slice_index_or targets (at + 1) []
    → c ≡ slice_index_or targets (at + 2) [] → d ≡ slice_index_or targets (at + 3) []
    → take (at + 4) new ≡ take at old ++ a ∷ b ∷ c ∷ d ∷ [] → take at old ≡ take at targets
    → take (at + 4) new ≡ take (at + 4) targets
front_four old new targets at a b c d fits ea eb ec ed written held =
    rw (written, take_four targets at fits, held, ea, eb, ec, ed) refl

-- the digest of a block, for a caller that had the first `count` places of an array written
pub get_or-written : (size : ℕ) (bytes : List ℕ) (count i : ℕ) (old new rest : List (List ℕ)) → count ≤ length old
    → new ≡ block_digests size bytes (length (take count old)) → i < count
    → slice_index_or (new ++ rest) i [] ≡ sha256 (block_at size bytes i)
get_or-written size bytes count i old new rest fits written low =
    let long : length (take count old) ≡ count = length-take-le count old fits in
    let wanted : new ≡ block_digests size bytes count = rw long at written in
    let within : i < length new = omega (arith, ap length wanted, length-block_digests size bytes count) in
    get_or_append_left new rest [] i within ∙ ap (λ (digests : List (List ℕ)). slice_index_or digests i []) wanted
    ∙ get_or-block_digests size bytes count i low
