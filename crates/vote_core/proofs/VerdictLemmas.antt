-- The cases of the verdict, from what `judge` computes.
use Rattle.std.proofs.Common.{◌≡◌, ◌≢◌, ◌⊎◌, ℕ, ◌+◌, ◌<◌, ◌≤◌, List, length, sym, ap, ◌∙◌, inl, inr, arith}
use Rattle.std.specs.List.{IsFirstMaxByKey}
use Rattle.std.proofs.lemmas.Bool.{cases_order}
use Rattle.vote_core.specs.Row.{base_height, next_height, base_change, next_change}
use Rattle.vote_core.specs.Verdict.{row_at, holders, unread_rows, IsSettledAgainst, IsPendingOver, VerdictRule}
use Rattle.vote_core.specs.declared.row.Row.{Row}
use Rattle.vote_core.specs.declared.row.Row.TheVariants.{Bad}
use Rattle.vote_core.specs.declared.verdict.Verdict.{Verdict}
use Rattle.vote_core.specs.declared.verdict.Verdict.TheVariants.{TooFew, Settled, Pending}

-- the test of `judge` on a base and a next that settles
pub settled : (w w' k u : ℕ) (rows : List Row) (base next base' next' : Row) → base' ≡ base → next' ≡ next → w' ≡ w
    → (k ≡ holders (next_change next) rows) → (u ≡ unread_rows rows)
    → (next_height next' ≤ base_height base') ⊎ ((next_change next' ≡ base_change base') ⊎ (k + u < w'))
    → IsSettledAgainst w rows base next
settled w w' k u rows base next base' next' eb en ew held unread h =
    elim (rw (eb, en) at h) [ inl low ↦ inl low | inr more ↦ inr (elim more [ inl same ↦ inl same | inr few ↦ inr (omega arith) ]) ]

-- and on one that is pending
pub pending : (w w' k u : ℕ) (rows : List Row) (base next base' next' : Row) → base' ≡ base → next' ≡ next → w' ≡ w
    → (k ≡ holders (next_change next) rows) → (u ≡ unread_rows rows)
    → (base_height base' < next_height next') × (next_change next' ≢ base_change base') × (w' ≤ k + u)
    → IsPendingOver w rows base next
pending w w' k u rows base next base' next' eb en ew held unread h =
    let found = rw (eb, en) at h in record { above = found.0; other = found.1; enough = omega arith }

-- a list has one first place of the greatest
one_first : (key : Row → ℕ) (rows : List Row) (a b : ℕ) → IsFirstMaxByKey key rows (length rows) a → IsFirstMaxByKey key rows (length rows) b → a ≡ b
one_first key rows a b first second = elim (cases_order a b) [
  | inl same ↦ same
  | inr differs ↦ elim differs [
    | inl before ↦ let low : key (row_at rows a) < key (row_at rows b) = second.2 a Bad before in
        let up : key (row_at rows b) ≤ key (row_at rows a) = first.1 b Bad second.0 in absurd (omega arith)
    | inr after ↦ let low : key (row_at rows b) < key (row_at rows a) = first.2 b Bad after in
        let up : key (row_at rows a) ≤ key (row_at rows b) = second.1 a Bad first.0 in absurd (omega arith)
  ]
]

-- what settles isn't pending
never_both : (w : ℕ) (rows : List Row) (base next : Row) → IsSettledAgainst w rows base next → IsPendingOver w rows base next → ⊥
never_both w rows base next settles pends = elim settles [
  | inl low ↦ let above = pends.above in omega arith
  | inr more ↦ elim more [ inl same ↦ pends.other same | inr few ↦ let enough = pends.enough in omega arith ]
]

-- so rows that are settled aren't pending
settled_or_pending : (w d : ℕ) (rows : List Row) (lane base_lane next k u : ℕ) → VerdictRule w d rows (Settled lane) → VerdictRule w d rows (Pending base_lane next k u) → ⊥
settled_or_pending w d rows lane base_lane next k u one other =
    let same = one_first base_height rows lane base_lane one.1 other.1 in
    let same_next = one_first next_height rows one.2.0 next one.2.1 other.2 in
    never_both w rows (row_at rows base_lane) (row_at rows next) (rw (same, same_next) at one.2.2) other.3

-- the rows have one verdict
pub one_verdict : (w d : ℕ) (rows : List Row) (one other : Verdict) → VerdictRule w d rows one → VerdictRule w d rows other → one ≡ other
one_verdict w d rows (TooFew a) (TooFew b) one other = ap TooFew (one.1 ∙ sym other.1)
one_verdict w d rows (TooFew a) (Settled b) one other = let few = one.0 in let enough = other.0 in absurd (omega arith)
one_verdict w d rows (TooFew a) (Pending b c k u) one other = let few = one.0 in let enough = other.0 in absurd (omega arith)
one_verdict w d rows (Settled a) (TooFew b) one other = let few = other.0 in let enough = one.0 in absurd (omega arith)
one_verdict w d rows (Settled a) (Settled b) one other = ap Settled (one_first base_height rows a b one.1 other.1)
one_verdict w d rows (Settled a) (Pending b c k u) one other = absurd (settled_or_pending w d rows a b c k u one other)
one_verdict w d rows (Pending a c k u) (TooFew b) one other = let few = other.0 in let enough = one.0 in absurd (omega arith)
one_verdict w d rows (Pending a c k u) (Settled b) one other = absurd (settled_or_pending w d rows b a c k u other one)
one_verdict w d rows (Pending a c k u) (Pending b e l v) one other =
    let same = one_first base_height rows a b one.1 other.1 in
    let same_next = one_first next_height rows c e one.2 other.2 in
    let same_k : k ≡ l = one.4 ∙ (ap (λ x. holders (next_change (row_at rows x)) rows) same_next ∙ sym other.4) in
    let same_u : u ≡ v = one.5 ∙ sym other.5 in
    cc
