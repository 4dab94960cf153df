-- Lagrange's polynomial has its values at the rows and the weighted sum at every point, so the weighted sum is the value of any polynomial
-- that has these values.
use Rattle.std.proofs.Common.{◌≡◌, ◌≢◌, ℕ, ◌<◌, ◌≤◌, cond, eqb, List, [], ◌∷◌, length, get_or, zero, suc, refl, sym, ◌∙◌, ap, subst, inl, inr, lit<, arith}
use Rattle.std.specs.Int.Bits.{bit_xor, xor_zero_l, xor_zero_r}
use Rattle.std.proofs.lemmas.Nat.{xor_of_8}
use Rattle.std.proofs.lemmas.List.{get_or_default}
use Rattle.std.proofs.lemmas.Bool.{cases_eq, eq-eqb, ne_eqb}
use Rattle.gf256.specs.Field.{product}
use Rattle.gf256.specs.Polynomial.{value_at, AreElements}
use Rattle.gf256.proofs.Each.{Bytes, All-from_Each}
use Rattle.gf256.proofs.Products.{product-lt, product-comm, product-assoc, product-one_left, product-zero_left, product-zero_right}
use Rattle.gf256.proofs.Polynomials.{sum_of, sum_of-elements, length-sum_of, value_at-sum_of, multiple, multiple-elements, length-multiple, value_at-multiple, with_root, with_root-elements, length-with_root, value_at-with_root, value_at-nil, value_at-cons}
use Rattle.gf256.proofs.Roots.{polynomials_agree}
use Rattle.poly_code.specs.Lagrange.{differences, inverse_of, weight, weighted_sum, IsValueThrough}
use Rattle.poly_code.proofs.Differences.{AreRows, differences-zero, differences-same, differences-other, differences-lt, differences-at_row, differences-nonzero, inverse_of-lt, product-inverse_of}

-- the product of x - row over the first n rows but row i, as a polynomial
basis : List ℕ → ℕ → ℕ → List ℕ
basis rows i zero = 1 ∷ []
basis rows i (suc j) = cond (eqb j i) (basis rows i j) (with_root (get_or rows j 0) (basis rows i j))

basis-same : (rows : List ℕ) (i j : ℕ) → j ≡ i → basis rows i (suc j) ≡ basis rows i j
unfolding basis
basis-same rows i j e = ap (λ b. cond b (basis rows i j) (with_root (get_or rows j 0) (basis rows i j))) (eq-eqb j i e)

basis-other : (rows : List ℕ) (i j : ℕ) → j ≢ i → basis rows i (suc j) ≡ with_root (get_or rows j 0) (basis rows i j)
unfolding basis
basis-other rows i j ne = ap (λ b. cond b (basis rows i j) (with_root (get_or rows j 0) (basis rows i j))) (ne_eqb j i ne)

basis-zero : (rows : List ℕ) (i : ℕ) → basis rows i 0 ≡ 1 ∷ []
unfolding basis
basis-zero rows i = refl

basis-elements : (rows : List ℕ) (i n : ℕ) → AreRows rows → n ≤ length rows → Bytes (basis rows i n)
basis-elements rows i zero are within = subst Bytes (sym (basis-zero rows i)) (lit< tt, tt)
basis-elements rows i (suc j) are within =
    let before = basis-elements rows i j are (omega arith) in
    elim (cases_eq j i) [
      | inl e ↦ subst Bytes (sym (basis-same rows i j e)) before
      | inr ne ↦ subst Bytes (sym (basis-other rows i j ne)) (with_root-elements (get_or rows j 0) (basis rows i j) (are.bytes j 0 (omega arith)) before)
    ]

-- it has one coefficient more than it has factors
length-basis_before : (rows : List ℕ) (i n : ℕ) → n ≤ i → length (basis rows i n) ≡ suc n
length-basis_before rows i zero below = ap length (basis-zero rows i)
length-basis_before rows i (suc j) below =
    let ne : j ≢ i = omega arith in
    ap length (basis-other rows i j ne) ∙ length-with_root (get_or rows j 0) (basis rows i j) ∙
    ap (λ n. suc n) (length-basis_before rows i j (omega arith))

length-basis : (rows : List ℕ) (i n : ℕ) → i < n → length (basis rows i n) ≡ n
length-basis rows i zero below = absurd (omega arith)
length-basis rows i (suc j) below = elim (cases_eq j i) [
  | inl e ↦ ap length (basis-same rows i j e) ∙ length-basis_before rows i j (omega arith)
  | inr ne ↦ ap length (basis-other rows i j ne) ∙ length-with_root (get_or rows j 0) (basis rows i j) ∙
      ap (λ n. suc n) (length-basis rows i j (omega arith))
]

value_at-basis : (rows : List ℕ) (i n x : ℕ) → AreRows rows → n ≤ length rows → x < 256 → value_at (basis rows i n) x ≡ differences rows i x n
value_at-basis rows i zero x are within x_byte =
    ap (λ p. value_at p x) (basis-zero rows i) ∙ value_at-cons 1 [] x (lit< tt) tt x_byte ∙
    ap (λ v. bit_xor 1 (product x v)) (value_at-nil x) ∙ ap (λ v. bit_xor 1 v) (product-zero_right x) ∙ sym (differences-zero rows i x)
value_at-basis rows i (suc j) x are within x_byte =
    let row : ℕ = get_or rows j 0 in
    let row_byte : row < 256 = are.bytes j 0 (omega arith) in
    let before : value_at (basis rows i j) x ≡ differences rows i x j = value_at-basis rows i j x are (omega arith) x_byte in
    elim (cases_eq j i) [
      | inl e ↦ ap (λ p. value_at p x) (basis-same rows i j e) ∙ before ∙ sym (differences-same rows i x j e)
      | inr ne ↦
          ap (λ p. value_at p x) (basis-other rows i j ne) ∙
          value_at-with_root row (basis rows i j) x row_byte (basis-elements rows i j are (omega arith)) x_byte ∙
          ap (λ v. product (bit_xor x row) v) before ∙
          product-comm (bit_xor x row) (differences rows i x j) (xor_of_8 x row x_byte row_byte) (differences-lt rows i x j are x_byte (omega arith)) ∙
          sym (differences-other rows i x j ne)
    ]

-- n coefficients that are 0
zeros : ℕ → List ℕ
zeros zero = []
zeros (suc n) = 0 ∷ zeros n

zeros-elements : (n : ℕ) → Bytes (zeros n)
unfolding zeros
zeros-elements zero = tt
zeros-elements (suc n) = (lit< tt, zeros-elements n)

length-zeros : (n : ℕ) → length (zeros n) ≡ n
unfolding zeros
length-zeros zero = refl
length-zeros (suc n) = ap (λ m. suc m) (length-zeros n)

value_at-zeros : (n x : ℕ) → x < 256 → value_at (zeros n) x ≡ 0
unfolding zeros
value_at-zeros zero x x_byte = value_at-nil x
value_at-zeros (suc n) x x_byte =
    value_at-cons 0 (zeros n) x (lit< tt) (zeros-elements n) x_byte ∙ xor_zero_l (product x (value_at (zeros n) x)) ∙
    ap (λ v. product x v) (value_at-zeros n x x_byte) ∙ product-zero_right x

-- the factor of row i's basis
factor : List ℕ → (ℕ → ℕ) → ℕ → ℕ
factor rows values i = product (values i) (inverse_of (differences rows i (get_or rows i 0) (length rows)))

-- the sum over the first n rows of the basis of each times its factor
interpolant : List ℕ → (ℕ → ℕ) → ℕ → List ℕ
interpolant rows values zero = zeros (length rows)
interpolant rows values (suc i) = sum_of (interpolant rows values i) (multiple (factor rows values i) (basis rows i (length rows)))

-- each value at a row is a byte
abbrev pub ValuesFit : List ℕ → (ℕ → ℕ) → Type 0
ValuesFit rows values = (i : ℕ) → i < length rows → values i < 256

inverse-lt : (rows : List ℕ) (i : ℕ) → AreRows rows → i < length rows → inverse_of (differences rows i (get_or rows i 0) (length rows)) < 256
inverse-lt rows i are within =
    inverse_of-lt (differences rows i (get_or rows i 0) (length rows)) (differences-lt rows i (get_or rows i 0) (length rows) are (are.bytes i 0 within) (omega arith))

factor-lt : (rows : List ℕ) (values : ℕ → ℕ) (i : ℕ) → AreRows rows → ValuesFit rows values → i < length rows → factor rows values i < 256
unfolding factor
factor-lt rows values i are fit within =
    product-lt (values i) (inverse_of (differences rows i (get_or rows i 0) (length rows))) (fit i within) (inverse-lt rows i are within)

interpolant-elements : (rows : List ℕ) (values : ℕ → ℕ) (n : ℕ) → AreRows rows → ValuesFit rows values → n ≤ length rows → Bytes (interpolant rows values n)
unfolding interpolant
interpolant-elements rows values zero are fit within = zeros-elements (length rows)
interpolant-elements rows values (suc i) are fit within =
    sum_of-elements (interpolant rows values i) (multiple (factor rows values i) (basis rows i (length rows)))
    (interpolant-elements rows values i are fit (omega arith))
    (multiple-elements (factor rows values i) (basis rows i (length rows)) (factor-lt rows values i are fit (omega arith))
    (basis-elements rows i (length rows) are (omega arith)))

length-interpolant : (rows : List ℕ) (values : ℕ → ℕ) (n : ℕ) → n ≤ length rows → length (interpolant rows values n) ≡ length rows
unfolding interpolant
length-interpolant rows values zero within = length-zeros (length rows)
length-interpolant rows values (suc i) within =
    let before : length (interpolant rows values i) ≡ length rows = length-interpolant rows values i (omega arith) in
    let added : length (multiple (factor rows values i) (basis rows i (length rows))) ≡ length rows =
    length-multiple (factor rows values i) (basis rows i (length rows)) ∙ length-basis rows i (length rows) (omega arith) in
    length-sum_of (interpolant rows values i) (multiple (factor rows values i) (basis rows i (length rows))) (omega arith) ∙ before

-- of no row the sum is 0
pub weighted_sum-zero : (rows : List ℕ) (values : ℕ → ℕ) (x : ℕ) → weighted_sum rows values x 0 ≡ 0
unfolding weighted_sum
weighted_sum-zero rows values x = refl

-- one row more is one term more
pub weighted_sum-suc : (rows : List ℕ) (values : ℕ → ℕ) (x i : ℕ) →
    weighted_sum rows values x (suc i) ≡ bit_xor (weighted_sum rows values x i) (product (weight rows i x) (values i))
unfolding weighted_sum
weighted_sum-suc rows values x i = refl

-- the value of one term: its factor times its differences, or its weight times its value
term-value : (rows : List ℕ) (values : ℕ → ℕ) (x i : ℕ) → AreRows rows → ValuesFit rows values → x < 256 → i < length rows →
    product (factor rows values i) (differences rows i x (length rows)) ≡ product (weight rows i x) (values i)
unfolding factor weight
term-value rows values x i are fit x_byte within =
    let f : ℕ = differences rows i x (length rows) in
    let g : ℕ = inverse_of (differences rows i (get_or rows i 0) (length rows)) in
    let f_byte : f < 256 = differences-lt rows i x (length rows) are x_byte (omega arith) in
    let g_byte : g < 256 = inverse-lt rows i are within in
    let v_byte : values i < 256 = fit i within in
    product-assoc (values i) g f v_byte g_byte f_byte ∙ ap (λ y. product (values i) y) (product-comm g f g_byte f_byte) ∙
    product-comm (values i) (product f g) v_byte (product-lt f g f_byte g_byte)

value_at-interpolant : (rows : List ℕ) (values : ℕ → ℕ) (x n : ℕ) → AreRows rows → ValuesFit rows values → x < 256 → n ≤ length rows →
    value_at (interpolant rows values n) x ≡ weighted_sum rows values x n
unfolding interpolant
value_at-interpolant rows values x zero are fit x_byte within = value_at-zeros (length rows) x x_byte ∙ sym (weighted_sum-zero rows values x)
value_at-interpolant rows values x (suc i) are fit x_byte within =
    let base : List ℕ = basis rows i (length rows) in
    let k : ℕ = factor rows values i in
    let base_elements : Bytes base = basis-elements rows i (length rows) are (omega arith) in
    let k_byte : k < 256 = factor-lt rows values i are fit (omega arith) in
    value_at-sum_of (interpolant rows values i) (multiple k base) x (interpolant-elements rows values i are fit (omega arith))
    (multiple-elements k base k_byte base_elements) x_byte ∙
    ap (λ y. bit_xor y (value_at (multiple k base) x)) (value_at-interpolant rows values x i are fit x_byte (omega arith)) ∙
    ap (λ y. bit_xor (weighted_sum rows values x i) y)
    (value_at-multiple k base x k_byte base_elements x_byte ∙
    ap (λ y. product k y) (value_at-basis rows i (length rows) x are (omega arith) x_byte) ∙
    term-value rows values x i are fit x_byte (omega arith)) ∙
    sym (weighted_sum-suc rows values x i)

-- at another row the weight of a row is 0, and at its own it is 1
weight-at_other : (rows : List ℕ) (i m : ℕ) → AreRows rows → m < length rows → m ≢ i → weight rows i (get_or rows m 0) ≡ 0
unfolding weight
weight-at_other rows i m are within ne =
    ap (λ y. product y (inverse_of (differences rows i (get_or rows i 0) (length rows)))) (differences-at_row rows i m (length rows) are (omega arith) within ne) ∙
    product-zero_left (inverse_of (differences rows i (get_or rows i 0) (length rows)))

weight-at_own : (rows : List ℕ) (i : ℕ) → AreRows rows → i < length rows → weight rows i (get_or rows i 0) ≡ 1
unfolding weight
weight-at_own rows i are within =
    product-inverse_of (differences rows i (get_or rows i 0) (length rows))
    (differences-lt rows i (get_or rows i 0) (length rows) are (are.bytes i 0 within) (omega arith))
    (differences-nonzero rows i (length rows) are within (omega arith))

-- the weighted sum at a row, before the row is counted and after
weighted_sum-before : (rows : List ℕ) (values : ℕ → ℕ) (m n : ℕ) → AreRows rows → m < length rows → n ≤ m →
    weighted_sum rows values (get_or rows m 0) n ≡ 0
weighted_sum-before rows values m zero are within below = weighted_sum-zero rows values (get_or rows m 0)
weighted_sum-before rows values m (suc i) are within below =
    let x : ℕ = get_or rows m 0 in
    let ne : m ≢ i = omega arith in
    weighted_sum-suc rows values x i ∙
    ap (λ y. bit_xor y (product (weight rows i x) (values i))) (weighted_sum-before rows values m i are within (omega arith)) ∙
    xor_zero_l (product (weight rows i x) (values i)) ∙
    ap (λ y. product y (values i)) (weight-at_other rows i m are within ne) ∙ product-zero_left (values i)

weighted_sum-after : (rows : List ℕ) (values : ℕ → ℕ) (m n : ℕ) → AreRows rows → ValuesFit rows values → m < length rows → m < n → n ≤ length rows →
    weighted_sum rows values (get_or rows m 0) n ≡ values m
weighted_sum-after rows values m zero are fit within below long = absurd (omega arith)
weighted_sum-after rows values m (suc i) are fit within below long =
    let x : ℕ = get_or rows m 0 in
    elim (cases_eq m i) [
      | inl e ↦
          weighted_sum-suc rows values x i ∙
          ap (λ y. bit_xor y (product (weight rows i x) (values i))) (weighted_sum-before rows values m i are within (omega arith)) ∙
          xor_zero_l (product (weight rows i x) (values i)) ∙
          ap (λ k. product (weight rows k x) (values k)) (sym e) ∙
          ap (λ y. product y (values m)) (weight-at_own rows m are within) ∙ product-one_left (values m) (fit m within)
      | inr ne ↦
          weighted_sum-suc rows values x i ∙
          ap (λ y. bit_xor y (product (weight rows i x) (values i))) (weighted_sum-after rows values m i are fit within (omega arith) (omega arith)) ∙
          ap (λ y. bit_xor (values m) (product y (values i))) (weight-at_other rows i m are within ne) ∙
          ap (λ y. bit_xor (values m) y) (product-zero_left (values i)) ∙ xor_zero_r (values m)
    ]

-- a polynomial with given values at the rows
pub record Interpolant (rows : List ℕ) (values : ℕ → ℕ) : Type 0 where
  pub coefficients : List ℕ
  pub elements : AreElements coefficients
  pub count : length coefficients ≡ length rows
  pub through : (i : ℕ) → i < length rows → value_at coefficients (get_or rows i 0) ≡ values i

-- there is one for any rows and values
pub interpolated : (rows : List ℕ) (values : ℕ → ℕ) → AreRows rows → ValuesFit rows values → Interpolant rows values
interpolated rows values are fit = record {
  coefficients = interpolant rows values (length rows);
  elements = All-from_Each (λ x. x < 256) (interpolant rows values (length rows)) (interpolant-elements rows values (length rows) are fit (omega arith));
  count = length-interpolant rows values (length rows) (omega arith);
  through = λ i within.
      value_at-interpolant rows values (get_or rows i 0) (length rows) are fit (are.bytes i 0 within) (omega arith) ∙
      weighted_sum-after rows values i (length rows) are fit within within (omega arith);
}

-- the weighted sum is the value of every polynomial with as many coefficients as rows that has the values
pub weighted_sum-value : (rows : List ℕ) (values : ℕ → ℕ) (x : ℕ) → AreRows rows → ValuesFit rows values → x < 256 →
    IsValueThrough rows values x (weighted_sum rows values x (length rows))
weighted_sum-value rows values x are fit x_byte c elements count through =
    let found : List ℕ = interpolant rows values (length rows) in
    let found_elements = interpolant-elements rows values (length rows) are fit (omega arith) in
    let same : interpolant rows values (length rows) ≡ c = polynomials_agree rows found c are.bytes are.distinct (All-from_Each (λ y. y < 256) found found_elements) elements
    (length-interpolant rows values (length rows) (omega arith)) count
    (λ i d within. agree i d within) in
    sym (value_at-interpolant rows values x (length rows) are fit x_byte (omega arith)) ∙ ap (λ p. value_at p x) same
  where
    agree : (i d : ℕ) → i < length rows → value_at (interpolant rows values (length rows)) (get_or rows i d) ≡ value_at c (get_or rows i d)
    agree i d within =
        let row : ℕ = get_or rows i 0 in
        ap (λ y. value_at (interpolant rows values (length rows)) y) (get_or_default rows i d 0 within) ∙
        value_at-interpolant rows values row (length rows) are fit (are.bytes i 0 within) (omega arith) ∙
        weighted_sum-after rows values i (length rows) are fit within within (omega arith) ∙
        sym (through i within) ∙ ap (λ y. value_at c y) (get_or_default rows i 0 d within)
