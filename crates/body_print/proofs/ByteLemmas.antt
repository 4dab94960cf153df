-- What is hashed for the print of a body is bytes.
use Rattle.std.proofs.Common.{◌≡◌, ℕ, ◌-◌, ◌<◌, ◌≤◌, List, [], ◌∷◌, length, slice_index, slice_index_or, map, subst, sym, inl, inr, arith}
use Rattle.std.specs.Prelude.{All}
use Rattle.std.specs.Int.{w8, w16, w64}
use Rattle.std.specs.List.{flat_map}
use Rattle.std.proofs.lemmas.Bool.{cases_lt}
use Rattle.std.proofs.lemmas.List.{get_or-map, get_or_past}
use Rattle.std.proofs.lemmas.List.Elements.{All-from_get_or, recursion_from_All}
use Rattle.gf256.proofs.Each.{Each-from_All}
use Rattle.gf256.proofs.Polynomials.{value_at-lt}
use Rattle.poly_code.specs.Codeword.{Codeword}
use Rattle.field_reader.specs.Spelling.{IsBytes, number_bytes}
use Rattle.sealed_record.proofs.ByteLemmas.{bytes-none, bytes-append, bytes-flat_map, bytes-w8, bytes-w16, bytes-w64}
use Rattle.sha2.specs.Sha256.{sha256}
use Rattle.manifest_file.proofs.RootLemmas.{sha256_is_bytes}
use Rattle.manifest_file.specs.Print.{Cut, cut_bytes}
use Rattle.manifest_file.specs.Spelling.{roots_bytes}
use Rattle.shard_file.specs.Shards.{root_of, table_of}
use Rattle.shard_file.specs.Stripes.{block_size, piece, stripe_count, stripe_size}
use Rattle.body_print.specs.Clashes.{IsTableOrBlock}
use Rattle.body_print.specs.Laws.{HashedAreBytes}
use Rattle.body_print.specs.Prints.{IsCutOf, IsPrintText}
use Rattle.body_print.specs.Shards.{AreShards, AreStripeBlocks}
use Rattle.body_print.proofs.ShardLemmas.{block_of_shard, stripe_of}

-- the digest table of blocks is bytes
pub table_is_bytes : (blocks : List (List ℕ)) → IsBytes (table_of blocks)
table_is_bytes [] = bytes-none
table_is_bytes (block ∷ blocks) = bytes-append (sha256 block) (table_of blocks) (sha256_is_bytes block) (table_is_bytes blocks)

-- the numbers of a codeword are bytes
codeword_is_bytes : (n d r : ℕ) (word : List ℕ) → n ≤ 256 → Codeword n d word → r < n → slice_index word r < 256
codeword_is_bytes n d r word most is low =
    subst (λ (v : ℕ). v < 256) (sym (is.values r low)) (value_at-lt is.coefficients r (Each-from_All (λ x. x < 256) is.coefficients is.elements) (omega arith))

-- the blocks of a stripe are bytes
stripe_block_is_bytes : (n d r : ℕ) (stripe : List ℕ) (blocks : List (List ℕ)) → n ≤ 256 → AreStripeBlocks n d stripe blocks → r < n
    → IsBytes (slice_index_or blocks r [])
stripe_block_is_bytes n d r stripe blocks most are low k =
    let block = slice_index_or blocks r [] in
    let long : length block ≡ block_size d (length stripe) = are.sizes r [] (omega (arith, are.count)) in
    elim (cases_lt k (length block)) [
      | inl inside ↦
          let at : List ℕ → ℕ = λ (b : List ℕ). slice_index b k in
          subst (λ (v : ℕ). v < 256) (get_or-map at blocks r [] 0 (omega (arith, are.count)))
          (codeword_is_bytes n d r (map at blocks) most (are.columns k (omega (arith, long))) low)
      | inr past ↦ subst (λ (v : ℕ). v < 256) (sym (get_or_past block k 0 past)) (omega arith)
    ]

-- a block of a shard of a body is bytes
pub block_is_bytes : (n d r i : ℕ) (body : List ℕ) (shards : List (List (List ℕ))) → n ≤ 256 → AreShards n d body shards → r < n
    → i < length (slice_index_or shards r []) → IsBytes (slice_index_or (slice_index_or shards r []) i [])
block_is_bytes n d r i body shards most are low has =
    let inside : i < stripe_count (length body) = omega (arith, are.blocks r [] (omega (arith, are.count))) in
    subst IsBytes (block_of_shard i shards r (omega (arith, are.count)))
    (stripe_block_is_bytes n d r (piece stripe_size body i) (stripe_of i shards) most (are.stripes i inside) low)

pub table_or_block_is_bytes : (n d : ℕ) (part bytes : List ℕ) → n ≤ 256 → IsTableOrBlock n d part bytes → IsBytes bytes
table_or_block_is_bytes n d part bytes most is = elim is.is [
  | inl table ↦ subst IsBytes (sym table) (table_is_bytes (slice_index_or is.shards is.r []))
  | inr block ↦ subst IsBytes (sym block.2) (block_is_bytes n d is.r block.0 part is.shards most is.are is.within block.1)
]

-- the roots of shards are bytes
roots_are_bytes : (shards : List (List (List ℕ))) → IsBytes (roots_bytes (map root_of shards))
roots_are_bytes [] = bytes-none
roots_are_bytes (shard ∷ shards) = bytes-append (root_of shard) (roots_bytes (map root_of shards)) (sha256_is_bytes (table_of shard)) (roots_are_bytes shards)

-- so is the cut of a part
cut_is_bytes : (n p : ℕ) (part : List ℕ) (cut : Cut) → IsCutOf n p part cut → IsBytes (cut_bytes cut)
cut_is_bytes n p part cut is =
    bytes-append (number_bytes w64 cut.0) (roots_bytes cut.1) (bytes-w64 cut.0)
    (subst (λ (roots : List (List ℕ)). IsBytes (roots_bytes roots)) (sym is.1.2) (roots_are_bytes is.1.0))

-- and the text under a print
pub text_is_bytes : (n p : ℕ) (parts : List (List ℕ)) (text : List ℕ) → IsPrintText n p parts text → IsBytes text
text_is_bytes n p parts text is =
    let cuts = is.cuts in
    let IsIt : Cut → Type 0 = λ (cut : Cut). IsBytes (cut_bytes cut) in
    let each : All IsIt cuts =
    All-from_get_or IsIt cuts (0, []) (λ i low.
    cut_is_bytes n p (slice_index_or parts i []) (slice_index_or cuts i (0, [])) (is.each i (omega (arith, low, is.count)))) in
    let all = bytes-flat_map IsIt cut_bytes (λ cut fits. fits) cuts (recursion_from_All IsIt cuts each) in
    let rest = bytes-append (flat_map cut_bytes cuts) [] all bytes-none in
    let count = bytes-append (number_bytes w16 (length cuts)) _ (bytes-w16 (length cuts)) rest in
    let parity = bytes-append (number_bytes w8 p) _ (bytes-w8 p) count in
    subst IsBytes (sym is.spells) (bytes-append (number_bytes w8 n) _ (bytes-w8 n) parity)

pub hashed_are_bytes : HashedAreBytes
hashed_are_bytes n p body print bytes most is = elim is.is [
  | inl text ↦ subst IsBytes (sym text) (text_is_bytes n p is.parts is.text is.under)
  | inr part ↦ table_or_block_is_bytes n (n - p) (slice_index_or is.parts part.0 []) bytes most part.2
]
