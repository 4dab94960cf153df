-- Values of polynomials: of one with one more coefficient, of sums, and of multiples by an element and by x - a.
use Rattle.std.proofs.Common.{◌≡◌, ℕ, ◌+◌, ◌<◌, ◌≤◌, List, [], ◌∷◌, length, suc, refl, sym, ◌∙◌, ap, subst, lit<, arith}
use Rattle.std.specs.Int.Bits.{bit_xor, xor_zero_l, xor_zero_r}
use Rattle.std.proofs.lemmas.Nat.{xor_of_8}
use Rattle.gf256.specs.Field.{product, power}
use Rattle.gf256.specs.Polynomial.{sum_of_terms, value_at}
use Rattle.gf256.proofs.Each.{Bytes}
use Rattle.gf256.proofs.BitSums.{xor_interchange}
use Rattle.gf256.proofs.Products.{product-lt, product-comm, product-assoc, product-one_right, product-xor_left, product-xor_right, product-zero_right}
use Rattle.gf256.proofs.Powers.{power-lt, power-zero, power-suc}

-- two factors change places
pub product-swap : (a b c : ℕ) → a < 256 → b < 256 → c < 256 → product a (product b c) ≡ product b (product a c)
product-swap a b c a_byte b_byte c_byte =
    sym (product-assoc a b c a_byte b_byte c_byte) ∙ ap (λ x. product x c) (product-comm a b a_byte b_byte) ∙
    product-assoc b a c b_byte a_byte c_byte

-- terms whose exponents begin one higher are x times as much
sum_of_terms-suc : (from : ℕ) (cs : List ℕ) (x : ℕ) → Bytes cs → x < 256 → sum_of_terms (suc from) cs x ≡ product x (sum_of_terms from cs x)
unfolding sum_of_terms
sum_of_terms-suc from [] x elements x_byte = sym (product-zero_right x)
sum_of_terms-suc from (c ∷ cs) x elements x_byte =
    let next : suc from + 1 ≡ suc (from + 1) = omega arith in
    let p : ℕ = power x from in
    ap (λ y. bit_xor (product c y) (sum_of_terms (suc from + 1) cs x)) (power-suc x from) ∙
    ap (λ y. bit_xor y (sum_of_terms (suc from + 1) cs x)) (product-swap c x p elements.0 x_byte (power-lt x from x_byte)) ∙
    ap (λ n. bit_xor (product x (product c p)) (sum_of_terms n cs x)) next ∙
    ap (λ y. bit_xor (product x (product c p)) y) (sum_of_terms-suc (from + 1) cs x elements.1 x_byte) ∙
    sym (product-xor_right x (product c p) (sum_of_terms (from + 1) cs x))

-- a polynomial with no coefficient is 0 everywhere
pub value_at-nil : (x : ℕ) → value_at [] x ≡ 0
unfolding value_at sum_of_terms
value_at-nil x = refl

-- Horner's rule
pub value_at-cons : (c : ℕ) (cs : List ℕ) (x : ℕ) → c < 256 → Bytes cs → x < 256 → value_at (c ∷ cs) x ≡ bit_xor c (product x (value_at cs x))
unfolding value_at sum_of_terms
value_at-cons c cs x c_byte elements x_byte =
    ap (λ y. bit_xor (product c y) (sum_of_terms 1 cs x)) (power-zero x) ∙
    ap (λ y. bit_xor y (sum_of_terms 1 cs x)) (product-one_right c c_byte) ∙
    ap (λ y. bit_xor c y) (sum_of_terms-suc 0 cs x elements x_byte)

-- its value at an element is an element
pub value_at-lt : (cs : List ℕ) (x : ℕ) → Bytes cs → x < 256 → value_at cs x < 256
value_at-lt [] x elements x_byte = subst (λ (v : ℕ). v < 256) (sym (value_at-nil x)) (lit< tt)
value_at-lt (c ∷ cs) x elements x_byte =
    subst (λ (v : ℕ). v < 256) (sym (value_at-cons c cs x elements.0 elements.1 x_byte))
    (xor_of_8 c (product x (value_at cs x)) elements.0 (product-lt x (value_at cs x) x_byte (value_at-lt cs x elements.1 x_byte)))

-- the sum of two polynomials
abbrev pub sum_of : List ℕ → List ℕ → List ℕ
sum_of [] q = q
sum_of (a ∷ p) [] = a ∷ p
sum_of (a ∷ p) (b ∷ q) = bit_xor a b ∷ sum_of p q

-- its coefficients are elements
pub sum_of-elements : (p q : List ℕ) → Bytes p → Bytes q → Bytes (sum_of p q)
sum_of-elements [] q left right = right
sum_of-elements (a ∷ p) [] left right = left
sum_of-elements (a ∷ p) (b ∷ q) left right = (xor_of_8 a b left.0 right.0, sum_of-elements p q left.1 right.1)

-- it is as long as the longer one
pub length-sum_of : (p q : List ℕ) → length q ≤ length p → length (sum_of p q) ≡ length p
length-sum_of [] [] below = refl
length-sum_of [] (b ∷ q) below = absurd (omega arith)
length-sum_of (a ∷ p) [] below = refl
length-sum_of (a ∷ p) (b ∷ q) below = ap (λ n. suc n) (length-sum_of p q (omega arith))

-- its value is the sum of the values
pub value_at-sum_of : (p q : List ℕ) (x : ℕ) → Bytes p → Bytes q → x < 256 → value_at (sum_of p q) x ≡ bit_xor (value_at p x) (value_at q x)
value_at-sum_of [] q x left right x_byte = sym (ap (λ v. bit_xor v (value_at q x)) (value_at-nil x) ∙ xor_zero_l (value_at q x))
value_at-sum_of (a ∷ p) [] x left right x_byte = sym (ap (λ v. bit_xor (value_at (a ∷ p) x) v) (value_at-nil x) ∙ xor_zero_r (value_at (a ∷ p) x))
value_at-sum_of (a ∷ p) (b ∷ q) x left right x_byte =
    let u : ℕ = product x (value_at p x) in
    let v : ℕ = product x (value_at q x) in
    value_at-cons (bit_xor a b) (sum_of p q) x (xor_of_8 a b left.0 right.0) (sum_of-elements p q left.1 right.1) x_byte ∙
    ap (λ y. bit_xor (bit_xor a b) (product x y)) (value_at-sum_of p q x left.1 right.1 x_byte) ∙
    ap (λ y. bit_xor (bit_xor a b) y) (product-xor_right x (value_at p x) (value_at q x)) ∙
    xor_interchange a b u v ∙
    sym (ap (λ y. bit_xor y (value_at (b ∷ q) x)) (value_at-cons a p x left.0 left.1 x_byte) ∙
    ap (λ y. bit_xor (bit_xor a u) y) (value_at-cons b q x right.0 right.1 x_byte))

-- a polynomial times an element
abbrev pub multiple : ℕ → List ℕ → List ℕ
multiple k [] = []
multiple k (c ∷ cs) = product k c ∷ multiple k cs

-- its coefficients are elements
pub multiple-elements : (k : ℕ) (cs : List ℕ) → k < 256 → Bytes cs → Bytes (multiple k cs)
multiple-elements k [] k_byte elements = tt
multiple-elements k (c ∷ cs) k_byte elements = (product-lt k c k_byte elements.0, multiple-elements k cs k_byte elements.1)

-- it has as many coefficients
pub length-multiple : (k : ℕ) (cs : List ℕ) → length (multiple k cs) ≡ length cs
length-multiple k [] = refl
length-multiple k (c ∷ cs) = ap (λ n. suc n) (length-multiple k cs)

-- its value is so many times the value
pub value_at-multiple : (k : ℕ) (cs : List ℕ) (x : ℕ) → k < 256 → Bytes cs → x < 256 → value_at (multiple k cs) x ≡ product k (value_at cs x)
value_at-multiple k [] x k_byte elements x_byte = value_at-nil x ∙ sym (ap (λ v. product k v) (value_at-nil x) ∙ product-zero_right k)
value_at-multiple k (c ∷ cs) x k_byte elements x_byte =
    let v : ℕ = value_at cs x in
    value_at-cons (product k c) (multiple k cs) x (product-lt k c k_byte elements.0) (multiple-elements k cs k_byte elements.1) x_byte ∙
    ap (λ y. bit_xor (product k c) (product x y)) (value_at-multiple k cs x k_byte elements.1 x_byte) ∙
    ap (λ y. bit_xor (product k c) y) (product-swap x k v x_byte k_byte (value_at-lt cs x elements.1 x_byte)) ∙
    sym (product-xor_right k c (product x v)) ∙
    sym (ap (λ y. product k y) (value_at-cons c cs x elements.0 elements.1 x_byte))

-- a polynomial times x - a
abbrev pub with_root : ℕ → List ℕ → List ℕ
with_root a p = sum_of (0 ∷ p) (multiple a p)

-- its coefficients are elements
pub with_root-elements : (a : ℕ) (p : List ℕ) → a < 256 → Bytes p → Bytes (with_root a p)
with_root-elements a p a_byte elements = sum_of-elements (0 ∷ p) (multiple a p) (lit< tt, elements) (multiple-elements a p a_byte elements)

-- it has one coefficient more
pub length-with_root : (a : ℕ) (p : List ℕ) → length (with_root a p) ≡ suc (length p)
length-with_root a p =
    let e : length (multiple a p) ≡ length p = length-multiple a p in
    length-sum_of (0 ∷ p) (multiple a p) (omega arith)

-- its value at x is x - a times the value
pub value_at-with_root : (a : ℕ) (p : List ℕ) (x : ℕ) → a < 256 → Bytes p → x < 256 → value_at (with_root a p) x ≡ product (bit_xor x a) (value_at p x)
value_at-with_root a p x a_byte elements x_byte =
    let v : ℕ = value_at p x in
    value_at-sum_of (0 ∷ p) (multiple a p) x (lit< tt, elements) (multiple-elements a p a_byte elements) x_byte ∙
    ap (λ y. bit_xor y (value_at (multiple a p) x)) (value_at-cons 0 p x (lit< tt) elements x_byte ∙ xor_zero_l (product x v)) ∙
    ap (λ y. bit_xor (product x v) y) (value_at-multiple a p x a_byte elements x_byte) ∙
    sym (product-xor_left x a v)
