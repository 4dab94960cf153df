-- Slices of a room, side by side.
use Rattle.std.proofs.Common.{◌≡◌, ℕ, ◌+◌, ◌-◌, ◌≤◌, List, ◌++◌, length, take, drop, slice_range, sym, ap, ◌∙◌, arith, take-append-drop, drop-drop}
use Rattle.std.proofs.lemmas.List.{take-take, drop-take}
use Rattle.std.proofs.lemmas.List.Edits.{length-between}
use Rattle.std.proofs.lemmas.Slice.{between_is}
use Rattle.http_wire.specs.Taking.{CameBehind, HasEnded, SourceView, Taken}

-- a slice without its first n bytes
pub slice_passed : (xs : List ℕ) (i j n : ℕ) → i + n ≤ j → slice_range xs (i + n) j ≡ drop n (slice_range xs i j)
slice_passed xs i j n fits =
    let parts : j - i ≡ n + (j - (i + n)) = omega (arith, fits) in
    sym (ap (λ (k : ℕ). drop n (take k (drop i xs))) parts ∙ drop-take n (j - (i + n)) (drop i xs)
    ∙ ap (take (j - (i + n))) (drop-drop n i xs))

-- two slices side by side
pub slice_joined : (xs : List ℕ) (i j k : ℕ) → i ≤ j → j ≤ k → slice_range xs i k ≡ slice_range xs i j ++ slice_range xs j k
slice_joined xs i j k first second =
    let front = drop i xs in
    let parts : k - i ≡ (j - i) + (k - j) = omega (arith, first, second) in
    let place : i + (j - i) ≡ j = omega (arith, first) in
    sym (take-append-drop (j - i) (take (k - i) front))
    ∙ ap (λ (t : List ℕ). t ++ drop (j - i) (take (k - i) front)) (take-take (j - i) (k - i) front (omega (arith, first, second)))
    ∙ ap (λ (m : ℕ). take (j - i) front ++ drop (j - i) (take m front)) parts
    ∙ ap (λ (t : List ℕ). take (j - i) front ++ t) (drop-take (j - i) (k - j) front)
    ∙ ap (λ (t : List ℕ). take (j - i) front ++ take (k - j) t) (drop-drop (j - i) i xs ∙ ap (λ (m : ℕ). drop m xs) place)

-- what stands before a place where two rooms begin to differ
slice_same : (xs ys : List ℕ) (i j : ℕ) → take j ys ≡ take j xs → slice_range ys i j ≡ slice_range xs i j
slice_same xs ys i j same = between_is ys i j ∙ ap (drop i) same ∙ sym (between_is xs i j)

-- a piece was taken behind what stood in the room
pub piece_behind : (old xs ys : List ℕ) (i j n : ℕ) (source after : SourceView) → slice_range xs i j ≡ old → i ≤ j
    → take j ys ≡ take j xs → j + n ≤ length ys → n ≤ 65536 → Taken (slice_range ys j (j + n)) source after
    → (n ≡ 0 → HasEnded after) → CameBehind n old (slice_range ys i (j + n)) source after
piece_behind old xs ys i j n source after held ordered same fits most took ends = record {
  piece = slice_range ys j (j + n);
  new_is = slice_joined ys i j (j + n) ordered (omega arith) ∙ ap (λ (t : List ℕ). t ++ slice_range ys j (j + n)) (slice_same xs ys i j same ∙ held);
  took = took;
  size = length-between ys j (j + n) fits ∙ omega arith;
  most = most;
  ends = ends;
}

-- nothing was taken
pub nothing_behind : (old xs ys : List ℕ) (i j : ℕ) → slice_range xs i j ≡ old → take j ys ≡ take j xs → slice_range ys i j ≡ old
nothing_behind old xs ys i j held same = slice_same xs ys i j same ∙ held
