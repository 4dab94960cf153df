-- Each element but 0 has one inverse, so a product is 0 only where a factor is.
use Rattle.std.proofs.Common.{◌≡◌, ◌≢◌, ℕ, ◌+◌, ◌-◌, ◌<◌, get_or, sym, ◌∙◌, ap, lit<, arith}
use Rattle.gf256.specs.Field.{product, power}
use Rattle.gf256.specs.declared.tables.TheConstants.{LOGARITHMS}
use Rattle.gf256.proofs.Products.{product-comm, product-assoc, product-one_left, product-zero_right}
use Rattle.gf256.proofs.Powers.{power-lt, power-add}
use Rattle.gf256.proofs.TableLemmas.{LOGARITHMS-at, LOGARITHMS-lt, power-two_255}

-- the product of 2^l and 2^(255 - l)
pub power-inverse : (l : ℕ) → l < 255 → product (power 2 l) (power 2 (255 - l)) ≡ 1
power-inverse l low =
    let e : l + (255 - l) ≡ 255 = omega arith in
    sym (power-add 2 l (255 - l) (lit< tt)) ∙ ap (λ x. power 2 x) e ∙ power-two_255

-- an inverse, by the logarithm
pub inverse : (a : ℕ) → 0 < a → a < 256 → (b : ℕ) × ((b < 256) × (product a b ≡ 1))
inverse a positive a_byte =
    let l : ℕ = get_or LOGARITHMS a 0 in
    let b : ℕ = power 2 (255 - l) in (
      b,
      (
        power-lt 2 (255 - l) (lit< tt),
        sym (ap (λ x. product x b) (LOGARITHMS-at a positive a_byte)) ∙ power-inverse l (LOGARITHMS-lt a positive a_byte),
      ),
    )

-- a factor with an inverse is cancelled
pub product-cancel_left : (a b c d : ℕ) → a < 256 → b < 256 → c < 256 → d < 256 → product d a ≡ 1 → product a b ≡ product a c → b ≡ c
product-cancel_left a b c d a_byte b_byte c_byte d_byte unit same =
    sym (back b b_byte) ∙ ap (λ x. product d x) same ∙ back c c_byte
  where
    back : (x : ℕ) → x < 256 → product d (product a x) ≡ x
    back x x_byte = sym (product-assoc d a x d_byte a_byte x_byte) ∙ ap (λ y. product y x) unit ∙ product-one_left x x_byte

-- an element has one inverse
pub inverse-unique : (a b c : ℕ) → a < 256 → b < 256 → c < 256 → product a b ≡ 1 → product a c ≡ 1 → b ≡ c
inverse-unique a b c a_byte b_byte c_byte first second =
    product-cancel_left a b c b a_byte b_byte c_byte b_byte (product-comm b a b_byte a_byte ∙ first) (first ∙ sym second)

-- a product with a factor that is not 0 is 0 only where the other is
pub product-nonzero : (a b : ℕ) → a < 256 → b < 256 → a ≢ 0 → product a b ≡ 0 → b ≡ 0
product-nonzero a b a_byte b_byte nonzero none =
    let positive : 0 < a = omega arith in
    let found = inverse a positive a_byte in
    product-cancel_left a b 0 found.0 a_byte b_byte (lit< tt) found.1.0
    (product-comm found.0 a found.1.0 a_byte ∙ found.1.1) (none ∙ sym (product-zero_right a))
