-- The field of 256 elements: bytes as polynomials over the bits, modulo x^8 + x^4 + x^3 + x^2 + 1.
-- The sum of two elements is the exclusive or of their bytes, `bit_xor`.
use Rattle.std.specs.Prelude.{ℕ, ◌+◌, ◌*◌, ◌^◌, bit_xor}
use Rattle.std.specs.Int.{bit_at}
use Rattle.std.proofs.Common.{zero, suc}

-- the polynomial of the field, x^8 + x^4 + x^3 + x^2 + 1, by its bits
abbrev pub modulus : ℕ
modulus = 0x11D

-- b shifted up by i places where bit i of a is set, else 0
abbrev pub shifted_copy : ℕ → ℕ → ℕ → ℕ
shifted_copy a b i = bit_at a i * (b * 2 ^ i)

-- the sum of the shifted copies of b at the set bits of a below bit n
unfoldable pub sum_of_copies : ℕ → ℕ → ℕ → ℕ
sum_of_copies a b zero = 0
sum_of_copies a b (suc i) = bit_xor (sum_of_copies a b i) (shifted_copy a b i)

-- x with its bit 8 + k cleared, where it is set, by the modulus shifted up by k places
abbrev pub without_bit_above : ℕ → ℕ → ℕ
without_bit_above k x = bit_xor x (bit_at x (8 + k) * (modulus * 2 ^ k))

-- what is left of x when its bits 8 + k for each k below n are cleared, from the highest down
unfoldable pub remainder : ℕ → ℕ → ℕ
remainder zero x = x
remainder (suc k) x = remainder k (without_bit_above k x)

-- the product of two elements: the sum of the copies of b at the eight bits of a, which has no bit above 14, reduced by the modulus
unfoldable pub product : ℕ → ℕ → ℕ
product a b = remainder 7 (sum_of_copies a b 8)

-- the product of n times a; of none it is 1
unfoldable pub power : ℕ → ℕ → ℕ
power a zero = 1
power a (suc n) = product a (power a n)
