-- Polynomials over the field of 256 elements, as the lists of their coefficients, the constant first.
use Rattle.std.specs.Prelude.{◌≡◌, ◌≢◌, ℕ, ◌+◌, ◌<◌, List, [], ◌∷◌, All, AllPairs, length, bit_xor}
use Rattle.gf256.specs.Field.{product, power}

-- the sum of c * x^j over the coefficients c, whose exponents j begin at `from`
unfoldable pub sum_of_terms : ℕ → List ℕ → ℕ → ℕ
sum_of_terms from [] x = 0
sum_of_terms from (c ∷ cs) x = bit_xor (product c (power x from)) (sum_of_terms (from + 1) cs x)

-- the value of a polynomial at x: the sum over j of coefficient j times x^j
unfoldable pub value_at : List ℕ → ℕ → ℕ
value_at coefficients x = sum_of_terms 0 coefficients x

-- each number of a list is an element of the field
abbrev pub AreElements : List ℕ → Type 0
AreElements xs = All (λ x. x < 256) xs

-- two polynomials of degree below D that agree at D distinct elements of the field have the same coefficients
abbrev pub AgreeingPolynomialsAreEqual : Type 0
AgreeingPolynomialsAreEqual =
    (points p q : List ℕ) →
    AreElements points → AllPairs (λ x y. x ≢ y) points →
    AreElements p → AreElements q →
    length p ≡ length points → length q ≡ length points →
    All (λ x. value_at p x ≡ value_at q x) points →
    p ≡ q
