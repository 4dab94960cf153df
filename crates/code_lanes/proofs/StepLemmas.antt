-- Combinations of values: sums, multiples, single values, and what the factors of one are.
use Rattle.std.proofs.Common.{◌≡◌, ℕ, ◌<◌, ◌≤◌, List, get_or, zero, suc, cond, refl, ap, sym, ◌∙◌, inl, inr, arith}
use Rattle.std.specs.Int.Bits.{bit_xor, xor_zero_l, xor_zero_r}
use Rattle.std.proofs.lemmas.Bool.{cases_eq, eq-eqb, ne_eqb}
use Rattle.std.proofs.lemmas.Nat.{xor_of_8}
use Rattle.gf256.specs.Field.{product}
use Rattle.gf256.proofs.BitSums.{xor_interchange}
use Rattle.gf256.proofs.Products.{product-lt, product-assoc, product-xor_left, product-xor_right, product-zero_left, product-zero_right, product-one_left}
use Rattle.code_lanes.specs.Lanes.{HasLanes}
use Rattle.code_lanes.specs.Sums.{sum_of_products}
use Rattle.code_lanes.specs.Steps.{IsCombination, added, only}
use Rattle.code_lanes.proofs.LaneLemmas.{HasLanes-is}

sum-added : (f g values : ℕ → ℕ) (n : ℕ) → bit_xor (sum_of_products f values n) (sum_of_products g values n) ≡ sum_of_products (added f g) values n
unfolding sum_of_products
sum-added f g values zero = refl
sum-added f g values (suc i) =
    xor_interchange (sum_of_products f values i) (product (f i) (values i)) (sum_of_products g values i) (product (g i) (values i))
    ∙ ap (λ x. bit_xor x (bit_xor (product (f i) (values i)) (product (g i) (values i)))) (sum-added f g values i)
    ∙ ap (λ x. bit_xor (sum_of_products (added f g) values i) x) (sym (product-xor_left (f i) (g i) (values i)))

sum-multiple : (c : ℕ) (f values : ℕ → ℕ) (n : ℕ) → c < 256 → ((i : ℕ) → f i < 256) → ((i : ℕ) → values i < 256)
    → product c (sum_of_products f values n) ≡ sum_of_products (λ i. product c (f i)) values n
unfolding sum_of_products
sum-multiple c f values zero c_byte f_bytes fit = product-zero_right c
sum-multiple c f values (suc i) c_byte f_bytes fit =
    product-xor_right c (sum_of_products f values i) (product (f i) (values i))
    ∙ ap (λ x. bit_xor x (product c (product (f i) (values i)))) (sum-multiple c f values i c_byte f_bytes fit)
    ∙ ap (λ x. bit_xor (sum_of_products (λ j. product c (f j)) values i) x) (sym (product-assoc c (f i) (values i) c_byte (f_bytes i) (fit i)))

-- a sum in which all factors are the same as far as it goes
sum-same : (f g values : ℕ → ℕ) (n : ℕ) → ((i : ℕ) → i < n → f i ≡ g i) → sum_of_products f values n ≡ sum_of_products g values n
unfolding sum_of_products
sum-same f g values zero same = refl
sum-same f g values (suc i) same =
    ap (λ x. bit_xor x (product (f i) (values i))) (sum-same f g values i (λ j l. same j (omega arith)))
    ∙ ap (λ x. bit_xor (sum_of_products g values i) (product x (values i))) (same i (omega arith))

-- a factor of one value alone is a byte
only-byte : (j i : ℕ) → only j i < 256
only-byte j i = elim (cases_eq i j) [
  | inl e ↦ let is : only j i ≡ 1 = ap (λ b. cond b 1 0) (eq-eqb i j e) in omega arith
  | inr ne ↦ let is : only j i ≡ 0 = ap (λ b. cond b 1 0) (ne_eqb i j ne) in omega arith
]

sum-only_before : (j : ℕ) (values : ℕ → ℕ) (n : ℕ) → n ≤ j → sum_of_products (only j) values n ≡ 0
unfolding sum_of_products
sum-only_before j values zero below = refl
sum-only_before j values (suc i) below =
    let none : only j i ≡ 0 = ap (λ b. cond b 1 0) (ne_eqb i j (λ e. absurd (omega arith))) in
    ap (λ x. bit_xor x (product (only j i) (values i))) (sum-only_before j values i (omega arith))
    ∙ xor_zero_l (product (only j i) (values i)) ∙ ap (λ x. product x (values i)) none ∙ product-zero_left (values i)

sum-only : (j : ℕ) (values : ℕ → ℕ) (n : ℕ) → values j < 256 → j < n → sum_of_products (only j) values n ≡ values j
unfolding sum_of_products
sum-only j values zero fit below = absurd (omega arith)
sum-only j values (suc i) fit below = elim (cases_eq i j) [
  | inl e ↦
      ap (λ x. bit_xor x (product (only j i) (values i))) (sum-only_before j values i (omega arith))
      ∙ xor_zero_l (product (only j i) (values i)) ∙ ap (λ x. product x (values i)) (ap (λ b. cond b 1 0) (eq-eqb i j e))
      ∙ ap (λ k. product 1 (values k)) e ∙ product-one_left (values j) fit
  | inr ne ↦
      ap (λ x. bit_xor x (product (only j i) (values i))) (sum-only j values i fit (omega arith))
      ∙ ap (λ x. bit_xor (values j) (product x (values i))) (ap (λ b. cond b 1 0) (ne_eqb i j ne))
      ∙ ap (λ x. bit_xor (values j) x) (product-zero_left (values i)) ∙ xor_zero_r (values j)
]

module _ (count : ℕ) (values : ℕ → ℕ → ℕ) where
  -- the sum of two
  pub combined : {f g : ℕ → ℕ} {a b v : List ℕ} → IsCombination count values f a → IsCombination count values g b
      → HasLanes v (λ k. bit_xor (get_or a k 0) (get_or b k 0)) → IsCombination count values (added f g) v
  combined {f} {g} {a} {b} {v} first second lanes = record {
    fit = first.fit;
    bytes = λ i. xor_of_8 (f i) (g i) (first.bytes i) (second.bytes i);
    lanes = HasLanes-is _ (λ k. sum_of_products (added f g) (values k) count) lanes (λ k l.
        ap (λ x. bit_xor x (get_or b k 0)) (first.lanes.each k l)
        ∙ ap (λ x. bit_xor (sum_of_products f (values k) count) x) (second.lanes.each k l) ∙ sum-added f g (values k) count);
  }

  -- a multiple
  pub multiplied : {f : ℕ → ℕ} {a v : List ℕ} (c : ℕ) → c < 256 → IsCombination count values f a
      → HasLanes v (λ k. product c (get_or a k 0)) → IsCombination count values (λ i. product c (f i)) v
  multiplied {f} {a} {v} c c_byte first lanes = record {
    fit = first.fit;
    bytes = λ i. product-lt c (f i) c_byte (first.bytes i);
    lanes = HasLanes-is _ (λ k. sum_of_products (λ i. product c (f i)) (values k) count) lanes (λ k l.
        ap (λ x. product c x) (first.lanes.each k l) ∙ sum-multiple c f (values k) count c_byte first.bytes (first.fit k));
  }

  -- one of the values
  pub alone : {v : List ℕ} (j : ℕ) → ((k i : ℕ) → values k i < 256) → j < count → HasLanes v (λ k. values k j)
      → IsCombination count values (only j) v
  alone {v} j fit below lanes = record {
    fit = fit;
    bytes = only-byte j;
    lanes = HasLanes-is _ (λ k. sum_of_products (only j) (values k) count) lanes (λ k l. sym (sum-only j (values k) count (fit k j) below));
  }

  -- the lanes by other factors that are the same
  pub lanes_by : {v : List ℕ} (f g : ℕ → ℕ) → IsCombination count values f v → ((i : ℕ) → i < count → f i ≡ g i)
      → HasLanes v (λ k. sum_of_products g (values k) count)
  lanes_by f g is same = HasLanes-is _ (λ k. sum_of_products g (values k) count) is.lanes (λ k l. sum-same f g (values k) count same)
