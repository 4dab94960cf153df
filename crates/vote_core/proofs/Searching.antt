-- The first row that no other is above, found by trying each row against all.
use Rattle.std.proofs.Common.{◌≡◌, ◌⊎◌, ◌<◌, ◌≤◌, ◌+◌, ◌-◌, ℕ, suc, zero, List, length, get_or, ap, subst, inl, inr, arith}
use Rattle.std.specs.List.{All, IsFirstMaxByKey}
use Rattle.std.proofs.lemmas.Bool.{cases_order}
use Rattle.std.proofs.lemmas.List.{get_or_default}
use Rattle.std.proofs.lemmas.List.Sums.{best_none, best_keeps, best_takes}
use Rattle.vote_core.specs.Verdict.{row_at}
use Rattle.vote_core.specs.declared.row.Row.{Row}
use Rattle.vote_core.specs.declared.row.Row.TheVariants.{Bad}

-- no row is above this one
abbrev pub IsTop : (Row → ℕ) → List Row → Row → Type 0
IsTop key rows row = All (λ other. key other ≤ key row) rows

-- none of the first rows is one that no row is above
abbrev pub NoneIsTop : (Row → ℕ) → List Row → ℕ → Type 0
NoneIsTop key rows count = (k : ℕ) → k < count → ¬ IsTop key rows (row_at rows k)

-- a number is below another one or it is not
below_or_not : (a b : ℕ) → (a < b) ⊎ (b ≤ a)
below_or_not a b = elim (cases_order a b) [ inl same ↦ inr (omega arith) | inr differs ↦ elim differs [ inl low ↦ inl low | inr high ↦ inr (omega arith) ] ]

-- the height at a place, whatever is said of places outside
same_height : (key : Row → ℕ) (rows : List Row) (k : ℕ) (d : Row) → k < length rows → key (get_or rows k d) ≡ key (row_at rows k)
same_height key rows k d inside = ap key (get_or_default rows k d Bad inside)

-- no row is above one that is as high as one that no row is above
as_high : (key : Row → ℕ) (rows : List Row) (one other : Row) → IsTop key rows one → key one ≤ key other → IsTop key rows other
as_high key rows one other top low = λ k d there. let below = top k d there in omega arith

-- the first row that no row is above is the first of the greatest
pub first_top : (key : Row → ℕ) (rows : List Row) (lane : ℕ) → lane < length rows → IsTop key rows (row_at rows lane) → NoneIsTop key rows lane
    → IsFirstMaxByKey key rows (length rows) lane
first_top key rows lane inside top none = (
  inside,
  λ k d there. let at = same_height key rows lane d inside in let low = top k d there in omega arith,
  λ k d before.
      let at = same_height key rows lane d inside in
      let here = same_height key rows k d (omega arith) in
      elim (below_or_not (key (get_or rows k d)) (key (get_or rows lane d))) [
        | inl low ↦ low
        | inr high ↦ absurd (none k before (as_high key rows (row_at rows lane) (row_at rows k) top (omega arith)))
      ],
)

-- of the first rows one is the first of the greatest
greatest_of : (key : Row → ℕ) (rows : List Row) (i : ℕ) → i < length rows → (k : ℕ) × IsFirstMaxByKey key rows (suc i) k
greatest_of key rows zero inside = (zero, best_none key rows)
greatest_of key rows (suc i) inside =
    let rest = greatest_of key rows i (omega arith) in
    let within = rest.1.0 in
    let more : suc i + 1 ≡ suc (suc i) = omega arith in
    let new = same_height key rows (suc i) in
    let old = same_height key rows rest.0 in
    elim (below_or_not (key (row_at rows rest.0)) (key (row_at rows (suc i)))) [
      | inl higher ↦
          let takes = best_takes key rows (suc i) rest.0 rest.1 (λ d. let one = new d inside in let other = old d (omega arith) in omega arith) in
          (suc i, subst (λ n. IsFirstMaxByKey key rows n (suc i)) more takes)
      | inr lower ↦
          let keeps = best_keeps key rows (suc i) rest.0 rest.1 (λ d. let one = new d inside in let other = old d (omega arith) in omega arith) in
          (rest.0, subst (λ n. IsFirstMaxByKey key rows n rest.0) more keeps)
    ]

-- so of all rows there is one that no row is above
pub some_top : (key : Row → ℕ) (rows : List Row) (count : ℕ) → 0 < length rows → length rows ≤ count → NoneIsTop key rows count → ⊥
some_top key rows count some all none =
    let last : suc (length rows - 1) ≡ length rows = omega arith in
    let found = greatest_of key rows (length rows - 1) (omega arith) in
    let within = found.1.0 in
    none found.0 (omega arith) (λ j d there. let low = found.1.1 j d (omega arith) in let at = same_height key rows found.0 d (omega arith) in omega arith)
