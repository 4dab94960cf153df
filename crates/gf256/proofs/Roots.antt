-- A polynomial with as many distinct roots as coefficients is zero, so two that agree at as many elements are equal.
use Rattle.std.proofs.Common.{◌≡◌, ◌≢◌, ℕ, ◌<◌, List, [], ◌∷◌, length, suc, refl, sym, ◌∙◌, ap, arith}
use Rattle.std.specs.Int.Bits.{bit_xor, xor_assoc, xor_self, xor_zero_r}
use Rattle.std.proofs.lemmas.Nat.{xor_comm, xor_of_8}
use Rattle.gf256.specs.Field.{product}
use Rattle.gf256.specs.Polynomial.{value_at, AgreeingPolynomialsAreEqual}
use Rattle.gf256.proofs.Each.{Each, EachPair, Bytes, Each-from_All, EachPair-from_AllPairs}
use Rattle.gf256.proofs.BitSums.{xor_interchange, xor-cancel}
use Rattle.gf256.proofs.Products.{product-xor_left, product-xor_right, product-zero_right}
use Rattle.gf256.proofs.Inverses.{product-nonzero}
use Rattle.gf256.proofs.Polynomials.{product-swap, value_at-nil, value_at-cons, value_at-lt, sum_of, sum_of-elements, length-sum_of, value_at-sum_of}

-- the values at a of a polynomial and of what stands behind its first, second .. coefficient: of c ∷ cs less its value at a, the quotient by
-- x - a is this of cs
abbrev values_of_ends : ℕ → List ℕ → List ℕ
values_of_ends a [] = []
values_of_ends a (c ∷ cs) = value_at (c ∷ cs) a ∷ values_of_ends a cs

values_of_ends-elements : (a : ℕ) (cs : List ℕ) → a < 256 → Bytes cs → Bytes (values_of_ends a cs)
values_of_ends-elements a [] a_byte elements = tt
values_of_ends-elements a (c ∷ cs) a_byte elements = (value_at-lt (c ∷ cs) a elements a_byte, values_of_ends-elements a cs a_byte elements.1)

length-values_of_ends : (a : ℕ) (cs : List ℕ) → length (values_of_ends a cs) ≡ length cs
length-values_of_ends a [] = refl
length-values_of_ends a (c ∷ cs) = ap (λ n. suc n) (length-values_of_ends a cs)

-- what is in both terms is gone from their sum
xor_common : (d u v : ℕ) → bit_xor (bit_xor d v) (bit_xor u v) ≡ bit_xor d u
xor_common d u v = xor_interchange d v u v ∙ ap (λ y. bit_xor (bit_xor d u) y) (xor_self v) ∙ xor_zero_r (bit_xor d u)

-- x p(x) - a p(a) is x - a times the polynomial of the values of the ends
quotient-value : (cs : List ℕ) (x a : ℕ) → Bytes cs → x < 256 → a < 256 →
    bit_xor (product x (value_at cs x)) (product a (value_at cs a)) ≡ product (bit_xor x a) (value_at (values_of_ends a cs) x)
quotient-value [] x a elements x_byte a_byte =
    ap (λ y. bit_xor (product x y) (product a (value_at [] a))) (value_at-nil x) ∙
    ap (λ y. bit_xor y (product a (value_at [] a))) (product-zero_right x) ∙
    ap (λ y. bit_xor 0 (product a y)) (value_at-nil a) ∙
    ap (λ y. bit_xor 0 y) (product-zero_right a) ∙
    sym (ap (λ y. product (bit_xor x a) y) (value_at-nil x) ∙ product-zero_right (bit_xor x a))
quotient-value (d ∷ ds) x a elements x_byte a_byte =
    let s : ℕ = bit_xor x a in
    let u : ℕ = product x (value_at ds x) in
    let v : ℕ = product a (value_at ds a) in
    let here : ℕ = value_at (d ∷ ds) a in
    let rest : ℕ = value_at (values_of_ends a ds) x in
    let s_byte : s < 256 = xor_of_8 x a x_byte a_byte in
    let rest_elements = values_of_ends-elements a ds a_byte elements.1 in
    let rest_byte : rest < 256 = value_at-lt (values_of_ends a ds) x rest_elements x_byte in
    let there : value_at (d ∷ ds) x ≡ bit_xor here (bit_xor u v) =
    value_at-cons d ds x elements.0 elements.1 x_byte ∙ sym (xor_common d u v) ∙
    ap (λ y. bit_xor y (bit_xor u v)) (sym (value_at-cons d ds a elements.0 elements.1 a_byte)) in
    let moved : product s (product x rest) ≡ product x (bit_xor u v) =
    product-swap s x rest s_byte x_byte rest_byte ∙
    ap (λ y. product x y) (sym (quotient-value ds x a elements.1 x_byte a_byte)) in
    ap (λ y. bit_xor (product x y) (product a here)) there ∙
    ap (λ y. bit_xor y (product a here)) (product-xor_right x here (bit_xor u v)) ∙
    xor_assoc (product x here) (product x (bit_xor u v)) (product a here) ∙
    ap (λ y. bit_xor (product x here) y) (xor_comm (product x (bit_xor u v)) (product a here)) ∙
    sym (xor_assoc (product x here) (product a here) (product x (bit_xor u v))) ∙
    ap (λ y. bit_xor y (product x (bit_xor u v))) (sym (product-xor_left x a here)) ∙
    ap (λ y. bit_xor (product s here) y) (sym moved) ∙
    sym (product-xor_right s here (product x rest)) ∙
    sym (ap (λ y. product s y) (value_at-cons here (values_of_ends a ds) x (value_at-lt (d ∷ ds) a elements a_byte) rest_elements x_byte))

-- another root of a polynomial with the root a is one of the quotient
quotient-root : (c : ℕ) (cs : List ℕ) (a b : ℕ) → c < 256 → Bytes cs → a < 256 → b < 256 → a ≢ b →
    value_at (c ∷ cs) a ≡ 0 → value_at (c ∷ cs) b ≡ 0 → value_at (values_of_ends a cs) b ≡ 0
quotient-root c cs a b c_byte elements a_byte b_byte apart at_a at_b =
    let u : ℕ = product b (value_at cs b) in
    let v : ℕ = product a (value_at cs a) in
    let same : bit_xor c u ≡ bit_xor c v =
    sym (value_at-cons c cs b c_byte elements b_byte) ∙ at_b ∙ sym at_a ∙ value_at-cons c cs a c_byte elements a_byte in
    let none : bit_xor u v ≡ 0 =
    sym (xor_common u v c) ∙ ap (λ y. bit_xor y (bit_xor v c)) (xor_comm u c ∙ same ∙ xor_comm c v) ∙ xor_self (bit_xor v c) in
    let nonzero : bit_xor b a ≢ 0 = λ e. apart (sym (xor-cancel b a e)) in
    product-nonzero (bit_xor b a) (value_at (values_of_ends a cs) b) (xor_of_8 b a b_byte a_byte)
    (value_at-lt (values_of_ends a cs) b (values_of_ends-elements a cs a_byte elements) b_byte) nonzero
    (sym (quotient-value cs b a elements b_byte a_byte) ∙ none)

quotient-roots : (c : ℕ) (cs : List ℕ) (a : ℕ) (bs : List ℕ) → c < 256 → Bytes cs → a < 256 → Bytes bs → Each (λ b. a ≢ b) bs →
    value_at (c ∷ cs) a ≡ 0 → Each (λ b. value_at (c ∷ cs) b ≡ 0) bs → Each (λ b. value_at (values_of_ends a cs) b ≡ 0) bs
quotient-roots c cs a [] c_byte elements a_byte points apart at_a roots = tt
quotient-roots c cs a (b ∷ bs) c_byte elements a_byte points apart at_a roots = (
  quotient-root c cs a b c_byte elements a_byte points.0 apart.0 at_a roots.0,
  quotient-roots c cs a bs c_byte elements a_byte points.1 apart.1 at_a roots.1,
)

-- each number of a list is 0
abbrev pub AreZero : List ℕ → Type 0
AreZero xs = Each (λ x. x ≡ 0) xs

-- a polynomial is zero where its ends have the value 0 at one element
zero-from_ends : (a : ℕ) (cs : List ℕ) → a < 256 → Bytes cs → AreZero (values_of_ends a cs) → AreZero cs × (value_at cs a ≡ 0)
zero-from_ends a [] a_byte elements none = (tt, value_at-nil a)
zero-from_ends a (c ∷ cs) a_byte elements none =
    let later = zero-from_ends a cs a_byte elements.1 none.1 in
    let here : c ≡ 0 =
    sym (value_at-cons c cs a elements.0 elements.1 a_byte ∙ ap (λ y. bit_xor c (product a y)) later.1 ∙
    ap (λ y. bit_xor c y) (product-zero_right a) ∙ xor_zero_r c) ∙ none.0 in
    ((here, later.0), none.0)

-- a polynomial with as many distinct roots as coefficients is zero
pub zero-from_roots : (points p : List ℕ) → Bytes points → EachPair (λ x y. x ≢ y) points → Bytes p → length p ≡ length points →
    Each (λ x. value_at p x ≡ 0) points → AreZero p
zero-from_roots [] [] points_elements apart elements same roots = tt
zero-from_roots [] (c ∷ cs) points_elements apart elements same roots = absurd (omega arith)
zero-from_roots (a ∷ points) [] points_elements apart elements same roots = tt
zero-from_roots (a ∷ points) (c ∷ cs) points_elements apart elements same roots =
    let ends = zero-from_roots points (values_of_ends a cs) points_elements.1 apart.1
    (values_of_ends-elements a cs points_elements.0 elements.1)
    (length-values_of_ends a cs ∙ (omega arith))
    (quotient-roots c cs a points elements.0 elements.1 points_elements.0 points_elements.1 apart.0 roots.0 roots.1) in
    let later = zero-from_ends a cs points_elements.0 elements.1 ends in
    let here : c ≡ 0 =
    sym (value_at-cons c cs a elements.0 elements.1 points_elements.0 ∙ ap (λ y. bit_xor c (product a y)) later.1 ∙
    ap (λ y. bit_xor c y) (product-zero_right a) ∙ xor_zero_r c) ∙ roots.0 in
    (here, later.0)

-- two polynomials of one length with no difference are equal
equal-from_sum : (p q : List ℕ) → length p ≡ length q → AreZero (sum_of p q) → p ≡ q
equal-from_sum [] [] same none = refl
equal-from_sum [] (b ∷ q) same none = absurd (omega arith)
equal-from_sum (a ∷ p) [] same none = absurd (omega arith)
equal-from_sum (a ∷ p) (b ∷ q) same none =
    ap (λ x. x ∷ p) (xor-cancel a b none.0) ∙ ap (λ xs. b ∷ xs) (equal-from_sum p q (omega arith) none.1)

-- the difference of polynomials that agree has its roots there
sum-roots : (points p q : List ℕ) → Bytes points → Bytes p → Bytes q → Each (λ x. value_at p x ≡ value_at q x) points →
    Each (λ x. value_at (sum_of p q) x ≡ 0) points
sum-roots [] p q points_elements left right agree = tt
sum-roots (x ∷ points) p q points_elements left right agree = (
  value_at-sum_of p q x left right points_elements.0 ∙ ap (λ y. bit_xor y (value_at q x)) agree.0 ∙ xor_self (value_at q x),
  sum-roots points p q points_elements.1 left right agree.1,
)

-- the law, with facts by recursion
pub agree_each : (points p q : List ℕ) → Bytes points → EachPair (λ x y. x ≢ y) points → Bytes p → Bytes q →
    length p ≡ length points → length q ≡ length points → Each (λ x. value_at p x ≡ value_at q x) points → p ≡ q
agree_each points p q points_elements apart left right p_length q_length agree =
    equal-from_sum p q (p_length ∙ sym q_length)
    (zero-from_roots points (sum_of p q) points_elements apart (sum_of-elements p q left right)
    (length-sum_of p q (omega arith) ∙ p_length) (sum-roots points p q points_elements left right agree))

-- the law, with facts by places
pub polynomials_agree : AgreeingPolynomialsAreEqual
polynomials_agree points p q points_elements apart left right p_length q_length agree =
    let byte = λ (x : ℕ). x < 256 in
    agree_each points p q (Each-from_All byte points points_elements) (EachPair-from_AllPairs (λ x y. x ≢ y) points apart)
    (Each-from_All byte p left) (Each-from_All byte q right) p_length q_length
    (Each-from_All (λ x. value_at p x ≡ value_at q x) points agree)
