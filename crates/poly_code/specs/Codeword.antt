-- The codewords of the erasure code: the values of one polynomial at the numbers of the drives.
use Rattle.std.specs.Prelude.{◌≡◌, ◌≢◌, ℕ, ◌<◌, ◌≤◌, List, All, AllPairs, length, slice_index}
use Rattle.gf256.specs.Polynomial.{value_at, AreElements}

-- n bytes are a codeword where they are the values at 0, 1, .. n - 1 of one polynomial with d coefficients
pub record Codeword (n d : ℕ) (bytes : List ℕ) : Type 0 where
  pub coefficients : List ℕ
  pub elements : AreElements coefficients
  pub count : length coefficients ≡ d
  pub places : length bytes ≡ n
  pub values : (r : ℕ) → r < n → slice_index bytes r ≡ value_at coefficients r

-- there is a codeword that has these values at these rows, and this byte at the place `which`
pub record IsOfCodeword (n d : ℕ) (rows values : List ℕ) (which byte : ℕ) : Type 0 where
  pub codeword : List ℕ
  pub is_codeword : Codeword n d codeword
  pub at_rows : (i : ℕ) → i < length rows → slice_index codeword (slice_index rows i) ≡ slice_index values i
  pub at_which : slice_index codeword which ≡ byte

-- no two numbers of a list are equal
abbrev pub AreDistinct : List ℕ → Type 0
AreDistinct xs = AllPairs (λ x y. x ≢ y) xs

-- two codewords that agree at d distinct places are equal
abbrev pub AgreeingCodewordsAreEqual : Type 0
AgreeingCodewordsAreEqual =
    (n d : ℕ) (rows y z : List ℕ) →
    n ≤ 256 → length rows ≡ d → All (λ r. r < n) rows → AreDistinct rows →
    Codeword n d y → Codeword n d z →
    All (λ r. slice_index y r ≡ slice_index z r) rows →
    y ≡ z
