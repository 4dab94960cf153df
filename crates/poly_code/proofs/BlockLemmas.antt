-- Places in blocks of one width, and the numbers of the data blocks.
use Rattle.std.proofs.Common.{◌≡◌, ℕ, ◌+◌, ◌-◌, ◌*◌, ◌/◌, ◌<◌, ◌≤◌, true, eqb, List, ◌++◌, length, get_or, take, drop, refl, sym, ◌∙◌, ap, arith}
use Rattle.std.proofs.lemmas.Bool.{eqb-true}
use Rattle.std.proofs.lemmas.List.{length-drop, length-take-le, get_or-take, get_or_append_left, get_or-append_right, get_or_default}
use Rattle.std.proofs.Math.Nat.{mul-div_cancel_left, mul-le-mul_left}
use borrow.Rule.Slice.PartMut.{put_mid, post_of}
use Rattle.gf256.proofs.Products.{all_below, all_below-at}
use Rattle.poly_code.specs.Codeword.{AreDistinct}
use Rattle.poly_code.specs.declared.code.TheConstants.{ROWS}

-- a place before a part that was written
pub put_mid-below : (a k : ℕ) (xs ys : List ℕ) (i : ℕ) → i < a → a ≤ length xs → get_or (put_mid a k xs ys) i 0 ≡ get_or xs i 0
put_mid-below a k xs ys i below within =
    let front : length (take a xs) ≡ a = length-take-le a xs within in
    get_or_append_left (take a xs) (ys ++ post_of a k xs) 0 i (omega arith) ∙ get_or-take a xs i 0 below

-- a place inside it
pub put_mid-inside : (a k : ℕ) (xs ys : List ℕ) (j : ℕ) → j < length ys → a ≤ length xs → get_or (put_mid a k xs ys) (a + j) 0 ≡ get_or ys j 0
put_mid-inside a k xs ys j inside within =
    let place : a + j - a ≡ j = omega arith in
    get_or-append_right (take a xs) (ys ++ post_of a k xs) a (a + j) 0 (length-take-le a xs within) (omega arith) ∙
    ap (λ i. get_or (ys ++ post_of a k xs) i 0) place ∙ get_or_append_left ys (post_of a k xs) 0 j inside

-- the length of a part
pub length-part : (xs : List ℕ) (from width : ℕ) → from + width ≤ length xs → length (take (from + width - from) (drop from xs)) ≡ width
length-part xs from width within =
    let rest : length (drop from xs) ≡ length xs - from = length-drop from xs in
    length-take-le (from + width - from) (drop from xs) (omega arith) ∙ (omega arith)

-- block r of p blocks ends within n bytes
pub block_within : (n p r : ℕ) → r < p → r * (n / p) + n / p ≤ n
block_within n p r below =
    let whole : n / p * (r + 1) ≤ n / p * p = mul-le-mul_left (n / p) (omega arith) in
    omega arith

-- a place in a block stands before each later block
pub earlier_block : (p r width k : ℕ) → p < r → k < width → p * width + k < r * width
earlier_block p r width k below within =
    let whole : width * (p + 1) ≤ width * r = mul-le-mul_left width (omega arith) in
    omega arith

-- the width of p blocks
pub width_is : (n p width : ℕ) → 0 < p → n ≡ p * width → n / p ≡ width
width_is n p width positive e = ap (λ m. m / p) e ∙ mul-div_cancel_left width positive

-- blocks of the same number and length have one width
pub width-unique : (p v w : ℕ) → 0 < p → p * v ≡ p * w → v ≡ w
width-unique p v w positive e = sym (width_is (p * v) p v positive refl) ∙ width_is (p * v) p w positive e

rows_count : all_below (λ i. eqb (get_or ROWS i 0) i) 16 ≡ true
rows_count = refl

-- how many numbers d data blocks have
pub length-data_rows : (d : ℕ) → d ≤ 16 → length (take d ROWS) ≡ d
length-data_rows d few = length-take-le d ROWS few

-- the number of data block i is i
pub data_rows-at : (d i : ℕ) → d ≤ 16 → i < d → get_or (take d ROWS) i 0 ≡ i
data_rows-at d i few below =
    get_or-take d ROWS i 0 below ∙ eqb-true (get_or ROWS i 0) i (all_below-at (λ i. eqb (get_or ROWS i 0) i) 16 rows_count i (omega arith))

-- no two of them are the same
pub data_rows-distinct : (d : ℕ) → d ≤ 16 → AreDistinct (take d ROWS)
data_rows-distinct d few i j x below within e =
    let long : length (take d ROWS) ≡ d = length-data_rows d few in
    let i_at : get_or (take d ROWS) i x ≡ i = get_or_default (take d ROWS) i x 0 (omega arith) ∙ data_rows-at d i few (omega arith) in
    let j_at : get_or (take d ROWS) j x ≡ j = get_or_default (take d ROWS) j x 0 (omega arith) ∙ data_rows-at d j few (omega arith) in
    omega arith
