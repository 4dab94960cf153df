-- Blocks of values that are written after others.
use Rattle.std.proofs.Common.{◌≡◌, ℕ, ◌+◌, ◌-◌, ◌*◌, ◌<◌, ◌≤◌, List, ◌++◌, length, get_or, sym, ap, subst, ◌∙◌, inl, inr, arith}
use Rattle.std.proofs.lemmas.Bool.{cases_lt}
use Rattle.std.proofs.lemmas.List.{get_or_append_left, get_or-append_right}
use borrow.Rule.Slice.PartMut.{put_mid}
use Rattle.poly_code.specs.Columns.{byte_of_block}
use Rattle.poly_code.specs.Lagrange.{IsValueThrough}
use Rattle.poly_code.proofs.BlockLemmas.{earlier_block, put_mid-below, put_mid-inside}

-- the place of block n + q
spread : (n q width : ℕ) → (n + q) * width ≡ n * width + q * width
spread n q width = omega arith

-- the first so many blocks of a target have the values at a point and at those after it, byte by byte
abbrev pub AreValues : List ℕ → ℕ → List ℕ → ℕ → ℕ → List ℕ → Type 0
AreValues rows width have point count out =
    (p k : ℕ) → p < count → k < width → IsValueThrough rows (byte_of_block width k have) (point + p) (get_or out (p * width + k) 0)

-- a place in block 0
front : (p width k : ℕ) → p ≡ 0 → p * width + k ≡ k
front p width k none = ap (λ q. q * width + k) none ∙ (omega arith)

-- m blocks are put after n
pub values_more : (rows have out made : List ℕ) (width point n m long : ℕ) → AreValues rows width have point n out
    → AreValues rows width have (point + n) m made → length made ≡ m * width → n * width + m * width ≤ length out
    → AreValues rows width have point (n + m) (put_mid (n * width) long out made)
values_more rows have out made width point n m long before new made_long room p k p_low k_low =
    elim (cases_lt p n) [
      | inl earlier ↦
          let place : p * width + k < n * width = earlier_block p n width k earlier k_low in
          subst (λ v. IsValueThrough rows (byte_of_block width k have) (point + p) v)
          (sym (put_mid-below (n * width) long out made (p * width + k) place (omega arith))) (before p k earlier k_low)
      | inr later ↦
          let q : ℕ = p - n in
          let inside : q * width + k < m * width = earlier_block q m width k (omega arith) k_low in
          let sum : n + q ≡ p = omega arith in
          let whole : p * width ≡ n * width + q * width = ap (λ r. r * width) (sym sum) ∙ spread n q width in
          let place : n * width + (q * width + k) ≡ p * width + k = omega arith in
          let which : point + n + q ≡ point + p = omega arith in
          subst (λ x. IsValueThrough rows (byte_of_block width k have) x (get_or (put_mid (n * width) long out made) (p * width + k) 0)) which
          (subst (λ v. IsValueThrough rows (byte_of_block width k have) (point + n + q) v)
          (sym (ap (λ j. get_or (put_mid (n * width) long out made) j 0) (sym place) ∙ put_mid-inside (n * width) long out made (q * width + k) (omega arith) (omega arith)))
          (new q k (omega arith) k_low))
    ]

-- one block more
pub value_more : (rows have out made : List ℕ) (width point n long : ℕ) → AreValues rows width have point n out
    → ((k : ℕ) → k < width → IsValueThrough rows (byte_of_block width k have) (point + n) (get_or made k 0)) → length made ≡ width
    → n * width + width ≤ length out → AreValues rows width have point (n + 1) (put_mid (n * width) long out made)
value_more rows have out made width point n long before new made_long room =
    values_more rows have out made width point n 1 long before
    (λ p k p_low k_low.
    let none : p ≡ 0 = omega arith in
    let place : k ≡ p * width + k = sym (front p width k none) in
    subst (λ x. IsValueThrough rows (byte_of_block width k have) x (get_or made (p * width + k) 0)) (omega arith)
    (subst (λ j. IsValueThrough rows (byte_of_block width k have) (point + n) (get_or made j 0)) place (new k k_low)))
    (omega arith) (omega arith)

-- two blocks that are joined
pub values_joined : (rows have first second : List ℕ) (width point : ℕ) → length first ≡ width
    → ((k : ℕ) → k < width → IsValueThrough rows (byte_of_block width k have) point (get_or first k 0))
    → ((k : ℕ) → k < width → IsValueThrough rows (byte_of_block width k have) (point + 1) (get_or second k 0))
    → AreValues rows width have point 2 (first ++ second)
values_joined rows have first second width point long at_first at_second p k p_low k_low = elim (cases_lt p 1) [
  | inl low ↦
      let none : p ≡ 0 = omega arith in
      let place : p * width + k ≡ k = front p width k none in
      subst (λ x. IsValueThrough rows (byte_of_block width k have) x (get_or (first ++ second) (p * width + k) 0)) (omega arith)
      (subst (λ v. IsValueThrough rows (byte_of_block width k have) point v)
      (sym (ap (λ j. get_or (first ++ second) j 0) place ∙ get_or_append_left first second 0 k (omega arith))) (at_first k k_low))
  | inr high ↦
      let one : p ≡ 1 = omega arith in
      let place : p * width + k ≡ width + k = ap (λ q. q * width + k) one ∙ (omega arith) in
      let rest : width + k - width ≡ k = omega arith in
      let which : point + 1 ≡ point + p = omega arith in
      subst (λ x. IsValueThrough rows (byte_of_block width k have) x (get_or (first ++ second) (p * width + k) 0)) which
      (subst (λ v. IsValueThrough rows (byte_of_block width k have) (point + 1) v)
      (sym (ap (λ j. get_or (first ++ second) j 0) place ∙ get_or-append_right first second width (width + k) 0 long (omega arith) ∙
      ap (λ j. get_or second j 0) rest)) (at_second k k_low))
]
