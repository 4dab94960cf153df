-- What the operations on vectors hold at each lane.
use Rattle.std.proofs.Common.{◌≡◌, ℕ, ◌+◌, ◌-◌, ◌*◌, ◌/◌, ◌%◌, ◌<◌, ◌≤◌, ◌⊎◌, inl, inr, List, length, get_or, replicate, refl, sym, ap, ◌∙◌, arith, w8, Fits}
use Rattle.std.specs.Simd.Lanes.{Each1, zip2, put_chunk}
use Rattle.std.proofs.lemmas.Simd.{length-zip2, get_or-zip2, get_or-replicate, length-swz_l, get_or-swz_l_below, swz_l, SwzOk, SwzOk-from_below, Each1-from_get_or, get_or-put_chunk_at, get_or-put_chunk_below, get_or-put_chunk_above, Each1-get_or}
use Rattle.code_lanes.specs.Lanes.{HasLanes}

-- an operator on two vectors
pub HasLanes-zip2 : (f : ℕ → ℕ → ℕ) (a b : List ℕ) → length a ≡ 32 → length b ≡ 32 → HasLanes (zip2 f a b) (λ k. f (get_or a k 0) (get_or b k 0))
HasLanes-zip2 f a b p q = record {
  long = length-zip2 f a b (p ∙ sym q) ∙ p;
  each = λ k l. get_or-zip2 f a b k 0 0 0 (omega arith) (omega arith);
}

-- an operator on a vector and a splat
pub HasLanes-splat : (f : ℕ → ℕ → ℕ) (a : List ℕ) (x : ℕ) → length a ≡ 32 → HasLanes (zip2 f a (replicate 32 x)) (λ k. f (get_or a k 0) x)
HasLanes-splat f a x p =
    let h = HasLanes-zip2 f a (replicate 32 x) p refl in
    record { long = h.long; each = λ k l. h.each k l ∙ ap (f (get_or a k 0)) (get_or-replicate 32 k x 0 l) }

-- the lanes by another account of them
pub HasLanes-is : {v : List ℕ} (f g : ℕ → ℕ) → HasLanes v f → ((k : ℕ) → k < 32 → f k ≡ g k) → HasLanes v g
HasLanes-is f g h same = record { long = h.long; each = λ k l. h.each k l ∙ same k l }

-- an operator on two vectors whose lanes are known
pub HasLanes-of : (op : ℕ → ℕ → ℕ) {a b : List ℕ} (f g : ℕ → ℕ) → HasLanes a f → HasLanes b g → HasLanes (zip2 op a b) (λ k. op (f k) (g k))
HasLanes-of op {a} {b} f g first second =
    let both = HasLanes-zip2 op a b first.long second.long in
    HasLanes-is _ (λ k. op (f k) (g k)) both (λ k l. ap (λ x. op x (get_or b k 0)) (first.each k l) ∙ ap (λ x. op (f k) x) (second.each k l))

-- each lane of a vector is a byte
pub lane_byte : (v : List ℕ) → length v ≡ 32 → Each1 (Fits w8) v → (k : ℕ) → k < 32 → get_or v k 0 < 256
lane_byte v long fits k l = (Each1-get_or (Fits w8) v k 0 (omega arith) fits).fits

module _ (js : List ℕ) (f : ℕ → ℕ) (h : HasLanes js f) (small : (k : ℕ) → k < 32 → f k < 16) where
  -- positions below 16 may be looked up
  pub SwzOk-halves : SwzOk w8 16 32 0 js
  SwzOk-halves =
      let long = h.long in
      SwzOk-from_below w8 16 2 32 0 js refl (omega arith) (Each1-from_get_or (λ j. j < 16) js 0 (λ i l. omega (arith, h.each i (omega arith), small i (omega arith))))

  -- what the look-up gives, in a vector that holds sixteen bytes twice
  pub HasLanes-look_up : {wide : List ℕ} (table : ℕ → ℕ) → HasLanes wide (λ k. table (k % 16)) → HasLanes (swz_l w8 16 wide 0 js) (λ k. table (f k))
  HasLanes-look_up {wide} table twice =
      let long = h.long in
      record {
        long = length-swz_l w8 16 wide 0 js ∙ long;
        each = λ k l.
            let e = h.each k l in
            let below = small k l in
            get_or-swz_l_below w8 16 wide 0 js k (omega arith) (omega arith)
            ∙ ap (λ j. get_or wide j 0) (omega arith)
            ∙ twice.each (16 * (k / 16) + f k) (omega arith)
            ∙ ap table (omega arith);
      }

-- a place at which a vector was stored
pub stored_at : (at : ℕ) (xs v : List ℕ) (f : ℕ → ℕ) → HasLanes v (λ k. f (at + k)) → at + 32 ≤ length xs
    → (p : ℕ) → at ≤ p → p < at + 32 → get_or (put_chunk at xs v) p 0 ≡ f p
stored_at at xs v f h room p low high =
    let long = h.long in
    let place : at + (p - at) ≡ p = omega arith in
    ap (λ q. get_or (put_chunk at xs v) q 0) (sym place) ∙ get_or-put_chunk_at at xs v (p - at) 0 (omega arith) (omega arith)
    ∙ h.each (p - at) (omega arith) ∙ ap f place

-- and another place
pub stored_beside : (at : ℕ) (xs v : List ℕ) → length v ≡ 32 → (p : ℕ) → (p < at) ⊎ (at + 32 ≤ p) → get_or (put_chunk at xs v) p 0 ≡ get_or xs p 0
stored_beside at xs v long p beside = elim beside [
  | inl below ↦ get_or-put_chunk_below at xs v p 0 below
  | inr above ↦ get_or-put_chunk_above at xs v p 0 (omega arith)
]
