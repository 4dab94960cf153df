-- Counts over lanes and rows.
use Rattle.std.proofs.Common.{◌≡◌, ◌⊎◌, ◌≤◌, ◌+◌, ℕ, suc, zero, Bool, true, false, cond, List, [], ◌∷◌, length, refl, ap, inl, inr, arith, count_by}
use Rattle.std.specs.List.{AllZip}
use Rattle.std.proofs.lemmas.List.Sums.{sum_by-cons}
use Rattle.vote_core.specs.Row.{is_good}
use Rattle.vote_core.specs.Verdict.{good_rows}
use Rattle.vote_core.specs.Lane.{Lane, lane_at}
use Rattle.vote_core.specs.Shown.{ShowsLane, ShowLanes, IsRead}
use Rattle.vote_core.specs.declared.row.Row.{Row}

-- what a test adds to a count
abbrev pub one_if : Bool → ℕ
one_if b = cond b 1 0

-- one more element
pub count_by-cons : {X : Type 0} (p : X → Bool) (x : X) (xs : List X) → count_by p (x ∷ xs) ≡ one_if (p x) + count_by p xs
count_by-cons p x xs = sum_by-cons (λ x. one_if (p x)) x xs

-- a test counts 1 or 0
counts : (b : Bool) → ((b ≡ true) × (one_if b ≡ 1)) ⊎ ((b ≡ false) × (one_if b ≡ 0))
counts true = inl (refl, refl)
counts false = inr (refl, refl)

-- what passes one test before passes another test after, so the second count is no less
pub count_no_less : {X Y : Type 0} (p : X → Bool) (q : Y → Bool) (R : X → Y → Type 0) → ((x : X) (y : Y) → R x y → p x ≡ true → q y ≡ true)
    → (xs : List X) (ys : List Y) → AllZip R xs ys → count_by p xs ≤ count_by q ys
count_no_less p q R up [] [] zip = omega arith
count_no_less p q R up [] (y ∷ ys) zip = absurd zip
count_no_less p q R up (x ∷ xs) [] zip = absurd zip
count_no_less p q R up (x ∷ xs) (y ∷ ys) zip =
    let rest = count_no_less p q R up xs ys zip.1 in
    let one = count_by-cons p x xs in
    let other = count_by-cons q y ys in
    elim (counts (p x)) [
      | inl yes_here ↦ let passes = up x y zip.0 yes_here.0 in let more : one_if (q y) ≡ 1 = ap one_if passes in let some = yes_here.1 in omega arith
      | inr none_here ↦ let none = none_here.1 in omega arith
    ]

-- either a good row stands before a lane that passes, or the passing lanes and the good rows are together no more than the lanes
pub meets : (p : Lane → Bool) (rows : List Row) (lanes : List Lane) → length rows ≡ length lanes
    → ((k : ℕ) × IsRead rows lanes k × (p (lane_at lanes k) ≡ true)) ⊎ (count_by p lanes + good_rows rows ≤ length lanes)
meets p [] [] same = inr (omega arith)
meets p [] (lane ∷ lanes) same = let no_way : ⊥ = omega arith in absurd no_way
meets p (row ∷ rows) [] same = let no_way : ⊥ = omega arith in absurd no_way
meets p (row ∷ rows) (lane ∷ lanes) same =
    let one = count_by-cons p lane lanes in
    let other = count_by-cons is_good row rows in
    let rest = meets p rows lanes (omega arith) in
    elim (counts (p lane)) [
      | inl passes ↦ elim (counts (is_good row)) [
        | inl good ↦ inl (zero, record { there = omega arith; good = good.0 }, passes.0)
        | inr bad ↦ elim rest [
          | inl found ↦ inl (suc found.0, record { there = omega (arith, found.1.there); good = found.1.good }, found.2)
          | inr few ↦ let h1 = passes.1 in let h2 = bad.1 in inr (omega arith)
        ]
      ]
      | inr fails ↦ elim rest [
        | inl found ↦ inl (suc found.0, record { there = omega (arith, found.1.there); good = found.1.good }, found.2)
        | inr few ↦ let h1 = fails.1 in elim (counts (is_good row)) [ inl good ↦ let h2 = good.1 in inr (omega arith) | inr bad ↦ let h2 = bad.1 in inr (omega arith) ]
      ]
    ]

-- lanes that pass and good rows are together no more than the good rows that pass, and the lanes
pub holds_on_good : (p : Lane → Bool) (q : Row → Bool) → ((row : Row) (lane : Lane) → ShowsLane row lane → is_good row ≡ true → p lane ≡ true → q row ≡ true)
    → (rows : List Row) (lanes : List Lane) → ShowLanes rows lanes → count_by p lanes + good_rows rows ≤ count_by q rows + length rows
holds_on_good p q up [] [] shown = omega arith
holds_on_good p q up [] (lane ∷ lanes) shown = absurd shown
holds_on_good p q up (row ∷ rows) [] shown = absurd shown
holds_on_good p q up (row ∷ rows) (lane ∷ lanes) shown =
    let one = count_by-cons p lane lanes in
    let other = count_by-cons is_good row rows in
    let third = count_by-cons q row rows in
    let rest = holds_on_good p q up rows lanes shown.1 in
    elim (counts (p lane)) [
      | inl passes ↦ let h1 = passes.1 in elim (counts (is_good row)) [
        | inl good ↦ let h2 = good.1 in let h3 : one_if (q row) ≡ 1 = ap one_if (up row lane shown.0 good.0 passes.0) in omega arith
        | inr bad ↦ let h2 = bad.1 in omega arith
      ]
      | inr fails ↦ let h1 = fails.1 in elim (counts (is_good row)) [ inl good ↦ let h2 = good.1 in omega arith | inr bad ↦ let h2 = bad.1 in omega arith ]
    ]
