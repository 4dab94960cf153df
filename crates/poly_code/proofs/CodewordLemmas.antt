-- The codewords that encoding and rebuilding give, and that codewords which agree are equal.
use Rattle.std.proofs.Common.{◌≡◌, ℕ, ◌+◌, ◌-◌, ◌*◌, ◌<◌, ◌≤◌, List, ◌++◌, length, get_or, take, sym, subst, ◌∙◌, ap, ◌/◌, inl, inr, arith}
use Rattle.std.specs.Prelude.{All, map}
use Rattle.std.specs.List.{range_with_len}
use Rattle.std.proofs.lemmas.Bool.{cases_lt}
use Rattle.std.proofs.lemmas.List.{length-append, get_or_append_left, get_or-append_right, get_or_past}
use Rattle.std.proofs.lemmas.List.FromFn.{length-map-range_with_len, get_or-map-range_with_len}
use Rattle.std.proofs.lemmas.Grind.{same_number_lists}
use Rattle.gf256.specs.Polynomial.{value_at}
use Rattle.gf256.proofs.Roots.{polynomials_agree}
use Rattle.poly_code.specs.Codeword.{Codeword, IsOfCodeword, AgreeingCodewordsAreEqual}
use Rattle.poly_code.specs.Columns.{byte_of_block, column}
use Rattle.poly_code.specs.Lagrange.{IsValueThrough}
use Rattle.poly_code.proofs.ValueLemmas.{AreValues}
use Rattle.poly_code.specs.declared.code.TheConstants.{ROWS}
use Rattle.poly_code.proofs.Differences.{AreRows, are_rows}
use Rattle.poly_code.proofs.Interpolation.{Interpolant, interpolated}
use Rattle.poly_code.proofs.BlockLemmas.{length-data_rows, data_rows-at, data_rows-distinct, width_is, width-unique}

-- a column has a byte of each block
pub length-column : (count width k : ℕ) (blocks : List ℕ) → length (column count width k blocks) ≡ count
length-column count width k blocks = length-map-range_with_len (byte_of_block width k blocks) 0 count

-- byte i of a column is that of block i
pub column-at : (count width k : ℕ) (blocks : List ℕ) (i : ℕ) → i < count → get_or (column count width k blocks) i 0 ≡ byte_of_block width k blocks i
column-at count width k blocks i below = get_or-map-range_with_len (byte_of_block width k blocks) 0 count i i 0 below (omega arith)

-- the values of a polynomial at 0, 1, .. n - 1
abbrev values_below : ℕ → List ℕ → List ℕ
values_below n p = map (value_at p) (range_with_len 0 n)

values_below-at : (n : ℕ) (p : List ℕ) (r : ℕ) → r < n → get_or (values_below n p) r 0 ≡ value_at p r
values_below-at n p r below = get_or-map-range_with_len (value_at p) 0 n r r 0 below (omega arith)

-- the codeword through the bytes that are at hand
pub rebuilt : (n d width k which byte : ℕ) (rows have : List ℕ) → AreRows rows → length rows ≡ d → All (λ r. r < n) rows → which < n →
    ((i : ℕ) → get_or have i 0 < 256) → IsValueThrough rows (byte_of_block width k have) which byte →
    IsOfCodeword n d rows (column d width k have) which byte
rebuilt n d width k which byte rows have are count within inside fit value =
    let found : Interpolant rows (byte_of_block width k have) = interpolated rows (byte_of_block width k have) are (λ i below. fit (i * width + k)) in
    record {
      codeword = values_below n found.coefficients;
      is_codeword = record {
        coefficients = found.coefficients;
        elements = found.elements;
        count = found.count ∙ count;
        places = length-map-range_with_len (value_at found.coefficients) 0 n;
        values = λ r below. values_below-at n found.coefficients r below;
      };
      at_rows = λ i below.
          values_below-at n found.coefficients (get_or rows i 0) (within i 0 below) ∙ found.through i below ∙
          sym (column-at d width k have i (omega arith));
      at_which = values_below-at n found.coefficients which inside ∙ sym (value found.coefficients found.elements found.count found.through);
    }

-- the numbers of the data blocks are bytes and distinct
pub data_rows-are : (d : ℕ) → d ≤ 16 → AreRows (take d ROWS)
data_rows-are d few = are_rows (take d ROWS) byte (data_rows-distinct d few)
  where
    byte : (i : ℕ) → get_or (take d ROWS) i 0 < 256
    byte i = elim (cases_lt i d) [
      | inl low ↦ let e : get_or (take d ROWS) i 0 ≡ i = data_rows-at d i few low in omega arith
      | inr high ↦ let e : get_or (take d ROWS) i 0 ≡ 0 = get_or_past (take d ROWS) i 0 (omega (arith, length-data_rows d few)) in omega arith
    ]

-- the codeword of the data and the parity
pub encoded : (n d p width k : ℕ) (blocks out : List ℕ) → d + p ≡ n → d ≤ 16 → ((i : ℕ) → get_or blocks i 0 < 256) →
    ((q : ℕ) → q < p → IsValueThrough (take d ROWS) (byte_of_block width k blocks) (d + q) (get_or out (q * width + k) 0)) →
    Codeword n d (column d width k blocks ++ column p width k out)
encoded n d p width k blocks out whole few fit parity = record {
  coefficients = found.coefficients;
  elements = found.elements;
  count = found.count ∙ length-data_rows d few;
  places = length-append (column d width k blocks) (column p width k out) ∙ (omega (arith, length-column d width k blocks, length-column p width k out));
  values = λ r below. elim (cases_lt r d) [
    | inl low ↦
        get_or_append_left (column d width k blocks) (column p width k out) 0 r (omega (arith, length-column d width k blocks)) ∙
        column-at d width k blocks r low ∙ sym (found.through r (omega (arith, length-data_rows d few))) ∙
        ap (λ x. value_at found.coefficients x) (data_rows-at d r few low)
    | inr high ↦
        let point : d + (r - d) ≡ r = omega arith in
        get_or-append_right (column d width k blocks) (column p width k out) d r 0 (length-column d width k blocks) high ∙
        column-at p width k out (r - d) (omega arith) ∙
        parity (r - d) (omega arith) found.coefficients found.elements found.count found.through ∙
        ap (λ x. value_at found.coefficients x) point
  ];
}
  where
    found : Interpolant (take d ROWS) (byte_of_block width k blocks)
    found = interpolated (take d ROWS) (byte_of_block width k blocks) (data_rows-are d few) (λ i below. fit (i * width + k))

-- the same where the parity blocks are blocks of values, for whatever width the data blocks are said to have
pub encoded_values : (n d p given : ℕ) (blocks out : List ℕ) (total : ℕ) → d ≡ n - p → d + p ≡ n → d ≤ 16 → 0 < d → 0 < p
    → length blocks ≡ (n - p) * given → total ≡ p * given → ((i : ℕ) → get_or blocks i 0 < 256)
    → AreValues (take d ROWS) (total / p) blocks d p out
    → (width : ℕ) → length blocks ≡ (n - p) * width → (k : ℕ) → k < width
    → Codeword n (n - p) (column (n - p) width k blocks ++ column p width k out)
encoded_values n d p given blocks out total quorum whole few some some_parity blocks_long out_long fit values width long k lt =
    let same : given ≡ width = width-unique (n - p) given width (omega arith) (sym blocks_long ∙ long) in
    let computed : total / p ≡ width = width_is total p given some_parity out_long ∙ same in
    let kept : AreValues (take d ROWS) width blocks d p out = subst (λ w. AreValues (take d ROWS) w blocks d p out) computed values in
    let parity : AreValues (take (n - p) ROWS) width blocks (n - p) p out = subst (λ m. AreValues (take m ROWS) width blocks m p out) quorum kept in
    encoded n (n - p) p width k blocks out (omega arith) (omega arith) fit (λ q below. parity q k below lt)

-- codewords that agree at as many places as they have coefficients are equal
pub codewords_agree : AgreeingCodewordsAreEqual
codewords_agree n d rows y z few count within distinct left right agree =
    let same : left.coefficients ≡ right.coefficients =
    polynomials_agree rows left.coefficients right.coefficients (λ i x below. omega (arith, within i x below)) distinct left.elements right.elements
    (left.count ∙ sym count) (right.count ∙ sym count)
    (λ i x below.
    sym (left.values (get_or rows i x) (within i x below)) ∙ agree i x below ∙ right.values (get_or rows i x) (within i x below)) in
    same_number_lists y z (left.places ∙ sym right.places)
    (λ r below.
    let inside : r < n = omega (arith, left.places) in
    left.values r inside ∙ ap (λ p. value_at p r) same ∙ sym (right.values r inside))
