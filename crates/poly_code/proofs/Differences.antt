-- The products of differences: bytes, 0 at the other rows, and not 0 at the row that is left out.
use Rattle.std.proofs.Common.{◌≡◌, ◌≢◌, ℕ, ◌*◌, ◌<◌, ◌≤◌, cond, List, length, get_or, zero, suc, refl, sym, ◌∙◌, ap, subst, inl, inr, lit<, arith}
use Rattle.std.specs.Prelude.{All}
use Rattle.std.specs.Int.Bits.{bit_xor, xor_self}
use Rattle.std.proofs.lemmas.Nat.{xor_of_8}
use Rattle.std.proofs.lemmas.List.{get_or_default}
use Rattle.std.proofs.lemmas.Bool.{cases_eq, eq-eqb, ne_eqb, cases_order}
use Rattle.gf256.specs.Field.{product, power}
use Rattle.gf256.proofs.BitSums.{xor-cancel}
use Rattle.gf256.proofs.Products.{product-lt, product-zero_left, product-zero_right}
use Rattle.gf256.proofs.Powers.{power-lt, power-suc, power-mul, power-of_one}
use Rattle.gf256.proofs.TableLemmas.{logarithm_of, power-two_255}
use Rattle.gf256.proofs.Inverses.{product-nonzero, inverse-unique}
use Rattle.poly_code.specs.Codeword.{AreDistinct}
use Rattle.poly_code.specs.Lagrange.{differences, inverse_of}

-- each row is a byte, and no two are the same
pub record AreRows (rows : List ℕ) : Type 0 where
  pub bytes : All (λ x. x < 256) rows
  pub distinct : AreDistinct rows

-- rows of bytes that are distinct
pub are_rows : (rows : List ℕ) → ((i : ℕ) → get_or rows i 0 < 256) → AreDistinct rows → AreRows rows
are_rows rows bytes distinct = record {
  bytes = λ i d within. subst (λ (v : ℕ). v < 256) (get_or_default rows i 0 d within) (bytes i);
  distinct = distinct;
}

-- of no row the product is 1
pub differences-zero : (rows : List ℕ) (i x : ℕ) → differences rows i x 0 ≡ 1
unfolding differences
differences-zero rows i x = refl

-- the row that is left out changes nothing
pub differences-same : (rows : List ℕ) (i x j : ℕ) → j ≡ i → differences rows i x (suc j) ≡ differences rows i x j
unfolding differences
differences-same rows i x j e =
    ap (λ b. cond b (differences rows i x j) (product (differences rows i x j) (bit_xor x (get_or rows j 0)))) (eq-eqb j i e)

-- another row is one factor more
pub differences-other : (rows : List ℕ) (i x j : ℕ) → j ≢ i →
    differences rows i x (suc j) ≡ product (differences rows i x j) (bit_xor x (get_or rows j 0))
unfolding differences
differences-other rows i x j ne =
    ap (λ b. cond b (differences rows i x j) (product (differences rows i x j) (bit_xor x (get_or rows j 0)))) (ne_eqb j i ne)

-- the product is a byte
pub differences-lt : (rows : List ℕ) (i x n : ℕ) → AreRows rows → x < 256 → n ≤ length rows → differences rows i x n < 256
differences-lt rows i x zero are x_byte within = subst (λ (v : ℕ). v < 256) (sym (differences-zero rows i x)) (lit< tt)
differences-lt rows i x (suc j) are x_byte within =
    let before : differences rows i x j < 256 = differences-lt rows i x j are x_byte (omega arith) in
    elim (cases_eq j i) [
      | inl e ↦ subst (λ (v : ℕ). v < 256) (sym (differences-same rows i x j e)) before
      | inr ne ↦ subst (λ (v : ℕ). v < 256) (sym (differences-other rows i x j ne))
          (product-lt (differences rows i x j) (bit_xor x (get_or rows j 0)) before
          (xor_of_8 x (get_or rows j 0) x_byte (are.bytes j 0 (omega arith))))
    ]

-- two rows of different places differ
pub rows_apart : (rows : List ℕ) (i j : ℕ) → AreRows rows → i < length rows → j < length rows → i ≢ j → get_or rows i 0 ≢ get_or rows j 0
rows_apart rows i j are i_within j_within ne = elim (cases_order i j) [
  | inl e ↦ absurd (ne e)
  | inr (inl below) ↦ are.distinct i j 0 below j_within
  | inr (inr above) ↦ λ e. are.distinct j i 0 above i_within (sym e)
]

-- the product is 0 at another row that it has
pub differences-at_row : (rows : List ℕ) (i m n : ℕ) → AreRows rows → n ≤ length rows → m < n → m ≢ i → differences rows i (get_or rows m 0) n ≡ 0
differences-at_row rows i m zero are within below ne = absurd (omega arith)
differences-at_row rows i m (suc j) are within below ne =
    let x : ℕ = get_or rows m 0 in
    let row : ℕ = get_or rows j 0 in
    elim (cases_eq m j) [
      | inl e ↦
          let j_ne : j ≢ i = λ e'. ne (e ∙ e') in
          let none : bit_xor x row ≡ 0 = ap (λ k. bit_xor (get_or rows k 0) row) e ∙ xor_self row in
          differences-other rows i x j j_ne ∙ ap (λ y. product (differences rows i x j) y) none ∙ product-zero_right (differences rows i x j)
      | inr m_ne ↦
          let earlier : differences rows i x j ≡ 0 = differences-at_row rows i m j are (omega arith) (omega arith) ne in
          elim (cases_eq j i) [
            | inl e ↦ differences-same rows i x j e ∙ earlier
            | inr j_ne ↦ differences-other rows i x j j_ne ∙ ap (λ y. product y (bit_xor x row)) earlier ∙ product-zero_left (bit_xor x row)
          ]
    ]

-- the product is not 0 at its own row
pub differences-nonzero : (rows : List ℕ) (i n : ℕ) → AreRows rows → i < length rows → n ≤ length rows → differences rows i (get_or rows i 0) n ≢ 0
differences-nonzero rows i zero are i_within within = λ e. absurd (let f : 1 ≡ 0 = sym (differences-zero rows i (get_or rows i 0)) ∙ e in omega arith)
differences-nonzero rows i (suc j) are i_within within =
    let x : ℕ = get_or rows i 0 in
    let row : ℕ = get_or rows j 0 in
    let x_byte : x < 256 = are.bytes i 0 i_within in
    let row_byte : row < 256 = are.bytes j 0 (omega arith) in
    let before = differences-nonzero rows i j are i_within (omega arith) in
    elim (cases_eq j i) [
      | inl e ↦ λ none. before (sym (differences-same rows i x j e) ∙ none)
      | inr ne ↦ λ none.
          let gap : bit_xor x row ≡ 0 =
          product-nonzero (differences rows i x j) (bit_xor x row) (differences-lt rows i x j are x_byte (omega arith))
          (xor_of_8 x row x_byte row_byte) before (sym (differences-other rows i x j ne) ∙ none) in
          rows_apart rows i j are i_within (omega arith) (λ e. ne (sym e)) (xor-cancel x row gap)
    ]

-- an inverse is a byte
pub inverse_of-lt : (a : ℕ) → a < 256 → inverse_of a < 256
unfolding inverse_of
inverse_of-lt a a_byte = power-lt a 254 a_byte

-- the power of exponent 254 is an inverse
pub product-inverse_of : (a : ℕ) → a < 256 → a ≢ 0 → product a (inverse_of a) ≡ 1
unfolding inverse_of
product-inverse_of a a_byte nonzero =
    let positive : 0 < a = omega arith in
    let l = logarithm_of a positive a_byte in
    let swap : l.0 * 255 ≡ 255 * l.0 = omega arith in
    sym (power-suc a 254) ∙ ap (λ x. power x 255) (sym l.1.1) ∙ power-mul 2 l.0 255 (lit< tt) ∙ ap (λ n. power 2 n) swap ∙
    sym (power-mul 2 255 l.0 (lit< tt)) ∙ ap (λ x. power x l.0) power-two_255 ∙ power-of_one l.0

-- and the only one
pub inverse_of-unique : (a b : ℕ) → a < 256 → b < 256 → a ≢ 0 → product a b ≡ 1 → b ≡ inverse_of a
inverse_of-unique a b a_byte b_byte nonzero e =
    inverse-unique a b (inverse_of a) a_byte b_byte (inverse_of-lt a a_byte) e (product-inverse_of a a_byte nonzero)
