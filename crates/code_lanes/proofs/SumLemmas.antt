-- Steps of a sum of products.
use Rattle.std.proofs.Common.{◌≡◌, ℕ, ◌+◌, ◌-◌, ◌*◌, ◌<◌, ◌≤◌, List, length, get_or, zero, suc, refl, ap, sym, ◌∙◌, arith, inl, inr}
use Rattle.std.specs.Simd.Lanes.{put_chunk}
use Rattle.std.proofs.lemmas.Bool.{cases_lt}
use Rattle.std.specs.Int.Bits.{bit_xor, xor_assoc, xor_self, xor_zero_l, xor_zero_r}
use Rattle.gf256.specs.Field.{product}
use Rattle.gf256.proofs.BitSums.{xor_interchange, xor_twice}
use Rattle.gf256.proofs.Products.{product-xor_right, product-zero_right}
use Rattle.code_lanes.specs.Lanes.{HasLanes}
use Rattle.code_lanes.specs.Sums.{AreAdded, IsTotal, byte_of_block, sum_at, sum_of_products}
use Rattle.code_lanes.proofs.LaneLemmas.{HasLanes-is, stored_at, stored_beside}

-- of no products the sum is 0
pub sum-none : (factors values : ℕ → ℕ) → sum_of_products factors values 0 ≡ 0
unfolding sum_of_products
sum-none factors values = refl

-- one product more
pub sum-next : (factors values : ℕ → ℕ) (i : ℕ)
    → bit_xor (sum_of_products factors values i) (product (factors i) (values i)) ≡ sum_of_products factors values (i + 1)
unfolding sum_of_products
sum-next factors values i =
    let next : suc i ≡ i + 1 = omega arith in
    ap (λ n. sum_of_products factors values n) next

-- what the values make with the first one
abbrev pub moved : (ℕ → ℕ) → ℕ → ℕ
moved values i = bit_xor (values 0) (values i)

-- the sum over sums of values
sum-values : (factors a b : ℕ → ℕ) (n : ℕ)
    → sum_of_products factors (λ i. bit_xor (a i) (b i)) n ≡ bit_xor (sum_of_products factors a n) (sum_of_products factors b n)
unfolding sum_of_products
sum-values factors a b zero = refl
sum-values factors a b (suc i) =
    ap (λ x. bit_xor x (product (factors i) (bit_xor (a i) (b i)))) (sum-values factors a b i)
    ∙ ap (λ x. bit_xor (bit_xor (sum_of_products factors a i) (sum_of_products factors b i)) x) (product-xor_right (factors i) (a i) (b i))
    ∙ xor_interchange (sum_of_products factors a i) (sum_of_products factors b i) (product (factors i) (a i)) (product (factors i) (b i))

-- the first value makes nothing with itself
moved-none : (factors values : ℕ → ℕ) → sum_of_products factors (moved values) 1 ≡ 0
moved-none factors values =
    sym (sum-next factors (moved values) 0) ∙ ap (λ x. bit_xor x (product (factors 0) (moved values 0))) (sum-none factors (moved values))
    ∙ xor_zero_l (product (factors 0) (moved values 0)) ∙ ap (λ x. product (factors 0) x) (xor_self (values 0)) ∙ product-zero_right (factors 0)

-- the product of the total with the first value, and the sum over what the others make with it
moved-all : (weights : List ℕ) (total n : ℕ) (values : ℕ → ℕ) → IsTotal weights total → length weights ≡ n
    → bit_xor (product total (values 0)) (sum_of_products (λ i. get_or weights i 0) (moved values) n)
    ≡ sum_of_products (λ i. get_or weights i 0) values (length weights)
moved-all weights total n values is many =
    let w : ℕ → ℕ = λ i. get_or weights i 0 in
    let same : ℕ = sum_of_products w (λ _. values 0) n in
    ap (λ x. bit_xor x (sum_of_products w (moved values) n)) (is (values 0) ∙ ap (λ m. sum_of_products w (λ _. values 0) m) many)
    ∙ ap (λ x. bit_xor same x) (sum-values w (λ _. values 0) values n) ∙ xor_twice same (sum_of_products w values n)
    ∙ ap (λ m. sum_of_products w values m) (sym many)

-- the total's products with the first block, and the sums over what the blocks below n make with it, at the 32 places from `at` on
abbrev pub StripOf : List ℕ → ℕ → ℕ → List ℕ → ℕ → ℕ → List ℕ → Type 0
StripOf weights total width blocks at n sums =
    HasLanes sums (λ k. bit_xor (product total (byte_of_block width (at + k) blocks 0))
    (sum_of_products (λ i. get_or weights i 0) (moved (byte_of_block width (at + k) blocks)) n))

module _ (weights : List ℕ) (total width : ℕ) (blocks : List ℕ) (at : ℕ) {first : List ℕ}
    (loaded : HasLanes first (λ k. get_or blocks (at + k) 0)) where
  -- lane k of the first block
  at_first : (k : ℕ) → k < 32 → get_or first k 0 ≡ byte_of_block width (at + k) blocks 0
  at_first k l = loaded.each k l ∙ ap (λ p. get_or blocks p 0) (omega arith)

  -- of the first block alone
  pub strip-first : {sums : List ℕ} → HasLanes sums (λ k. product total (get_or first k 0)) → StripOf weights total width blocks at 1 sums
  strip-first {sums} lanes =
      let w : ℕ → ℕ = λ i. get_or weights i 0 in
      HasLanes-is _ _ lanes (λ k l.
      let values : ℕ → ℕ = byte_of_block width (at + k) blocks in
      ap (λ x. product total x) (at_first k l) ∙ sym (xor_zero_r (product total (values 0)))
      ∙ ap (λ x. bit_xor (product total (values 0)) x) (sym (moved-none w values)))

  -- of one block more
  pub strip-next : (i : ℕ) {block both multiples sums next : List ℕ}
      → HasLanes block (λ k. get_or blocks (i * width + at + k) 0) → HasLanes both (λ k. bit_xor (get_or first k 0) (get_or block k 0))
      → HasLanes multiples (λ k. product (get_or weights i 0) (get_or both k 0)) → StripOf weights total width blocks at i sums
      → HasLanes next (λ k. bit_xor (get_or sums k 0) (get_or multiples k 0)) → StripOf weights total width blocks at (i + 1) next
  strip-next i {block} {both} {multiples} {sums} {next} here added multiplied before more =
      let w : ℕ → ℕ = λ j. get_or weights j 0 in
      HasLanes-is _ _ more (λ k l.
      let values : ℕ → ℕ = byte_of_block width (at + k) blocks in
      let begun : ℕ = product total (values 0) in
      let joined : get_or both k 0 ≡ moved values i =
      added.each k l ∙ ap (λ x. bit_xor x (get_or block k 0)) (at_first k l)
      ∙ ap (λ x. bit_xor (values 0) x) (here.each k l ∙ ap (λ p. get_or blocks p 0) (omega arith)) in
      ap (λ x. bit_xor x (get_or multiples k 0)) (before.each k l)
      ∙ ap (λ x. bit_xor (bit_xor begun (sum_of_products w (moved values) i)) x) (multiplied.each k l ∙ ap (λ x. product (w i) x) joined)
      ∙ xor_assoc begun (sum_of_products w (moved values) i) (product (w i) (moved values i))
      ∙ ap (λ x. bit_xor begun x) (sum-next w (moved values) i))

-- of all blocks
pub strip-all : (weights : List ℕ) (total width : ℕ) (blocks : List ℕ) (at n : ℕ) {sums : List ℕ} → IsTotal weights total → length weights ≡ n
    → StripOf weights total width blocks at n sums → HasLanes sums (λ k. sum_at weights width blocks (at + k))
strip-all weights total width blocks at n is many lanes =
    HasLanes-is _ _ lanes (λ k l. moved-all weights total n (byte_of_block width (at + k) blocks) is many)

-- a walk down over the places of a block, 32 at a time and the last time to the front: what is done after one vector more
pub stored_next : (width i at : ℕ) (out v : List ℕ) (f : ℕ → ℕ) → 32 ≤ width → length out ≡ width → at ≡ width - 32 * i - 32
    → HasLanes v (λ k. f (at + k)) → ((k : ℕ) → width ≤ k + 32 * i → k < width → get_or out k 0 ≡ f k)
    → (k : ℕ) → width ≤ k + 32 * (i + 1) → k < width → get_or (put_chunk at out v) k 0 ≡ f k
stored_next width i at out v f wide long place lanes done k low within = elim (cases_lt k (at + 32)) [
  | inl inside ↦ stored_at at out v f lanes (omega arith) k (omega arith) inside
  | inr above ↦ stored_beside at out v lanes.long k (inr above) ∙ done k (omega arith) within
]

-- 32 products more are added to a block
pub added_next : (by i : ℕ) (from old out v : List ℕ) → 32 * i + 32 ≤ length out
    → HasLanes v (λ k. bit_xor (get_or out (32 * i + k) 0) (product by (get_or from (32 * i + k) 0)))
    → AreAdded by 0 (32 * i) from old out → AreAdded by 0 (32 * (i + 1)) from old (put_chunk (32 * i) out v)
added_next by i from old out v room lanes before = record {
  gained = λ k low high. elim (cases_lt k (32 * i)) [
    | inl earlier ↦ stored_beside (32 * i) out v lanes.long k (inl earlier) ∙ before.gained k low earlier
    | inr here ↦
        stored_at (32 * i) out v (λ p. bit_xor (get_or out p 0) (product by (get_or from p 0))) lanes room k here (omega arith)
        ∙ ap (λ x. bit_xor x (product by (get_or from k 0))) (before.same k (inr here))
  ];
  same = λ k beside. elim beside [
    | inl low ↦ absurd (omega arith)
    | inr high ↦ stored_beside (32 * i) out v lanes.long k (inr (omega arith)) ∙ before.same k (inr (omega arith))
  ];
}
