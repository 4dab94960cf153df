-- Rows of blocks that stand one after another.
use Rattle.std.proofs.Common.{◌≡◌, ◌≢◌, ◌∙◌, ℕ, ◌+◌, ◌-◌, ◌*◌, ◌<◌, ◌≤◌, List, [], ◌∷◌, ◌++◌, length, take, drop, ap, subst, sym, inl, inr, arith}
use Rattle.std.specs.Global.{Global}
use Rattle.std.specs.Prelude.{All, None, Ok, Option, Some, Vec}
use Rattle.std.proofs.Math.Seq.{drop-append-add, drop-drop}
use Rattle.std.proofs.lemmas.Bool.{cases_lt}
use Rattle.std.proofs.lemmas.List.{drop-take, length-append, take-take}
use Rattle.std.proofs.lemmas.List.Elements.{All-push, All-weaker}
use Rattle.std.proofs.lemmas.List.Quantifiers.{all_pairs_push}
use Rattle.std.proofs.lemmas.Nat.{mul-le}
use Rattle.drive_base.specs.declared.plan.SetPlan.{SetPlan}
use Rattle.poly_code.specs.Codeword.{AreDistinct}
use Rattle.shard_file.proofs.Pieces.{length-whole_piece}
use Rattle.shard_file.specs.Stripes.{piece}
use Rattle.get_read.specs.Causes.{digest_in}
use Rattle.get_read.specs.Windows.{RunTakes, TookRun, TurnsOn, digests_in}
use Rattle.get_read.specs.declared.window.Window.{Window}
use Rattle.get_read.proofs.PieceLemmas.{piece_added, piece_stays}

-- block s of row j is one of all blocks
pub run_below : (j n s count : ℕ) → j < n → s < count → j * count + s + 1 ≤ n * count
run_below j n s count low inside =
    let next : (j + 1) * count ≤ n * count = mul-le (j + 1) count n count (omega (arith, low)) (omega arith) in
    let is : (j + 1) * count ≡ j * count + count = omega arith in
    omega (arith, next, is, inside)

pub run_under : (j n s count : ℕ) → j < n → s < count → j * count + s < n * count
run_under j n s count low inside = omega (arith, run_below j n s count low inside)

-- and ends before they end
pub run_inside : (j n s count size : ℕ) → j < n → s < count → (j * count + s) * size + size ≤ n * count * size
run_inside j n s count size low inside =
    let most : (j * count + s + 1) * size ≤ n * count * size = mul-le (j * count + s + 1) size (n * count) size (run_below j n s count low inside) (omega arith) in
    let is : (j * count + s + 1) * size ≡ (j * count + s) * size + size = omega arith in
    omega (arith, most, is)

-- one piece more
pub row_long : (size n : ℕ) (bytes more next : List ℕ) → length bytes ≡ n * size → length more ≡ size → next ≡ bytes ++ more → length next ≡ (n + 1) * size
row_long size n bytes more next long is joined =
    let one : (n + 1) * size ≡ n * size + size = omega arith in
    ap (length {A = ℕ}) joined ∙ length-append bytes more ∙ omega (arith, long, is, one)

pub row_added : (size n : ℕ) (bytes more next : List ℕ) (value : ℕ → List ℕ) → length bytes ≡ n * size → length more ≡ size → next ≡ bytes ++ more
    → ((j : ℕ) → j < n → piece size bytes j ≡ value j) → more ≡ value n → (j : ℕ) → j < n + 1 → piece size next j ≡ value j
row_added size n bytes more next value long is joined before last j low = elim (cases_lt j n) [
  | inl lower ↦ ap (λ (b : List ℕ). piece size b j) joined ∙ piece_stays size n j bytes more long lower ∙ before j lower
  | inr past ↦
      let at : j ≡ n = omega (arith, low, past) in
      ap (λ (b : List ℕ). piece size b j) joined ∙ ap (piece size (bytes ++ more)) at ∙ piece_added size n bytes more long is ∙ last ∙ ap value (sym at)
]

-- a part of bytes is one of their pieces
pub sliced : (size k at : ℕ) (now bytes : List ℕ) → at ≡ k * size → now ≡ bytes → take (at + size - at) (drop at now) ≡ piece size bytes k
sliced size k at now bytes is same =
    let turned : size * k ≡ k * size = omega arith in
    ap (λ (n : ℕ). take n (drop at now)) (omega arith) ∙ ap (λ (m : ℕ). take size (drop m now)) (omega (arith, is, turned))
    ∙ ap (λ (b : List ℕ). take size (drop (size * k) b)) same

-- a piece within them is whole
pub piece_full : (size n k : ℕ) (bytes : List ℕ) → length bytes ≡ n * size → k < n → length (piece size bytes k) ≡ size
piece_full size n k bytes long low =
    let turned : size * n ≡ n * size = omega arith in
    length-whole_piece size n bytes k low (omega (arith, long, turned))

-- so many pieces more
pub more_long : (n count size : ℕ) (bytes more next rows rows_next : List ℕ) (row : ℕ) → length rows ≡ n → length bytes ≡ n * count * size
    → length more ≡ count * size → next ≡ bytes ++ more → rows_next ≡ rows ++ row ∷ [] → length next ≡ length rows_next * count * size
more_long n count size bytes more next rows rows_next row counted long is joined rows_are =
    let one : (n + 1) * count * size ≡ n * count * size + count * size = omega arith in
    let rows_long : length rows_next ≡ n + 1 = ap (length {A = ℕ}) rows_are ∙ length-append rows (row ∷ []) ∙ omega (arith, counted) in
    ap (length {A = ℕ}) joined ∙ length-append bytes more ∙ omega (arith, long, is, one, ap (λ (m : ℕ). m * count * size) rows_long)

-- the rows, with one more
pub rows_more : (place : ℕ) (rows next : List ℕ) → next ≡ rows ++ place ∷ [] → All (λ row. row < place) rows → All (λ row. row < place + 1) next
rows_more place rows next are before = subst (λ (r : List ℕ). All (λ row. row < place + 1) r) (sym are)
    (All-push (λ row. row < place + 1) rows place (All-weaker (λ row. row < place) (λ row. row < place + 1) (λ row low. omega arith) rows before) (omega arith))

pub distinct_more : (place : ℕ) (rows next : List ℕ) → next ≡ rows ++ place ∷ [] → All (λ row. row < place) rows → AreDistinct rows → AreDistinct next
distinct_more place rows next are before distinct = subst (λ (r : List ℕ). AreDistinct r) (sym are)
    (all_pairs_push (λ x y. x ≢ y) rows place distinct (λ k d low is. omega (arith, before k d low, is)))

-- a piece of a run that is added
pub piece_of_more : (size n s : ℕ) (bytes more next : List ℕ) → length bytes ≡ n * size → next ≡ bytes ++ more → piece size next (n + s) ≡ piece size more s
piece_of_more size n s bytes more next long joined =
    let at : size * (n + s) ≡ length bytes + size * s = let split : size * (n + s) ≡ n * size + size * s = omega arith in omega (arith, split, long) in
    ap (λ (b : List ℕ). take size (drop (size * (n + s)) b)) joined ∙ ap (λ (m : ℕ). take size (drop m (bytes ++ more))) at
    ∙ ap (take size) (drop-append-add bytes more (size * s))

-- a piece of those before
pub piece_of_before : (size n k : ℕ) (bytes more next : List ℕ) → length bytes ≡ n * size → next ≡ bytes ++ more → k < n → piece size next k ≡ piece size bytes k
piece_of_before size n k bytes more next long joined low = ap (λ (b : List ℕ). piece size b k) joined ∙ piece_stays size n k bytes more long low

-- the digest of a stripe among those that a table has for several
pub digest_among : (table : List ℕ) (first count s : ℕ) → s < count → piece 32 (digests_in table first count) s ≡ digest_in table (first + s)
digest_among table first count s low =
    let rest = drop (32 * first) table in
    let split : 32 * count ≡ 32 * s + (32 * (count - s)) = omega (arith, low) in
    ap (λ (n : ℕ). take 32 (drop (32 * s) (take n rest))) split
    ∙ ap (take 32) (drop-take (32 * s) (32 * (count - s)) rest)
    ∙ take-take 32 (32 * (count - s)) (drop (32 * s) rest) (omega (arith, low))
    ∙ ap (take 32) (drop-drop (32 * s) (32 * first) table ∙ ap (λ (m : ℕ). drop m table) (omega arith))

-- a window with one row more goes on, or is given up
pub turned_took : (Z : Type 0) (set : SetPlan) (old mid : Window) (run digests : List ℕ) (ahead : Option Window) → TookRun old mid run digests → TurnsOn mid ahead
    → RunTakes {Z = Z} set old run digests (Ok None) ahead
turned_took Z set old mid run digests None took turns = tt
turned_took Z set old mid run digests (Some new) took turns = record {
  same = record {
    first = turns.same.first ∙ took.same.first;
    count = turns.same.count ∙ took.same.count;
    size = turns.same.size ∙ took.same.size;
  };
  rows = ap (λ (v : Vec ℕ Global). v.items) turns.rows ∙ took.rows;
  stored = ap (λ (v : Vec ℕ Global). v.items) turns.stored ∙ took.stored;
  bytes = ap (λ (v : Vec ℕ Global). v.items) turns.bytes ∙ took.bytes;
  past = omega (arith, turns.past, took.past);
}
