-- A stripe of which the data blocks are at hand.
use Rattle.std.proofs.Common.{◌≡◌, ℕ, zero, suc, ◌+◌, ◌*◌, ◌<◌, ◌≤◌, ◌∙◌, List, [], ◌++◌, length, slice_index, slice_index_or, take, ap, refl, sym, subst, arith}
use Rattle.std.specs.List.{concat}
use Rattle.std.proofs.Math.Numerals.{add-one}
use Rattle.std.proofs.Math.Seq.{take-add}
use Rattle.std.proofs.lemmas.List.{take_all}
use Rattle.shard_file.proofs.ShardLemmas.{concat-take_more}
use Rattle.shard_file.proofs.StripeLemmas.{data_blocks_are_the_stripe}
use Rattle.shard_file.specs.Stripes.{piece}
use Rattle.body_print.specs.Shards.{AreStripeBlocks}

-- the first pieces of bytes that are those blocks, joined, are the front of the bytes
joined_front : (size k : ℕ) (bytes : List ℕ) (shards : List (List ℕ)) → k ≤ length shards
    → ((j : ℕ) → j < k → piece size bytes j ≡ slice_index_or shards j []) → concat (take k shards) ≡ take (size * k) bytes
joined_front size zero bytes shards fit same = let none : size * 0 ≡ 0 = omega arith in rw none refl
joined_front size (suc k) bytes shards fit same =
    let longer : size * (k + 1) ≡ size * k + size = omega arith in
    let front : concat (take k shards) ≡ take (size * k) bytes = joined_front size k bytes shards (omega (arith, fit)) (λ j low. same j (omega (arith, low))) in
    let joined : concat (take (k + 1) shards) ≡ take (size * (k + 1)) bytes =
    concat-take_more shards k (omega (arith, fit)) ∙ ap (λ (b : List ℕ). b ++ slice_index_or shards k []) front
    ∙ ap (λ (b : List ℕ). take (size * k) bytes ++ b) (sym (same k (omega arith)))
    ∙ sym (take-add (size * k) size bytes) ∙ ap (λ (n : ℕ). take n bytes) (sym longer) in
    subst (λ (m : ℕ). concat (take m shards) ≡ take (size * m) bytes) (add-one k) joined

-- the data blocks, joined, begin with the stripe
pub data_are_stripe : (n d size : ℕ) (rows bytes stripe : List ℕ) (shards : List (List ℕ)) → 0 < d → d ≤ n → length rows ≡ d → length bytes ≡ length rows * size
    → ((j : ℕ) → j < length rows → slice_index rows j ≡ j) → AreStripeBlocks n d stripe shards
    → ((j : ℕ) → j < length rows → piece size bytes j ≡ slice_index_or shards (slice_index rows j) []) → take (length stripe) bytes ≡ stripe
data_are_stripe n d size rows bytes stripe shards some few counted long own are same =
    let turned : size * d ≡ length rows * size = omega (arith, ap (λ (m : ℕ). m * size) counted) in
    let all : concat (take d shards) ≡ bytes =
    joined_front size d bytes shards (omega (arith, are.count, few))
    (λ j low. same j (omega (arith, low, counted)) ∙ ap (λ (r : ℕ). slice_index_or shards r []) (own j (omega (arith, low, counted))))
    ∙ take_all (size * d) bytes (omega (arith, long, turned)) in
    ap (take (length stripe)) (sym all ∙ ap concat are.front) ∙ data_blocks_are_the_stripe d stripe some
