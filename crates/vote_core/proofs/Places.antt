-- Relations of lists, from what holds place by place.
use Rattle.std.proofs.Common.{◌≡◌, ◌⊎◌, ◌<◌, ℕ, suc, zero, Bool, false, IsTrue, List, [], ◌∷◌, length, slice_index_or, arith}
use Rattle.vote_core.specs.Lane.{Lane, lane_at}
use Rattle.vote_core.specs.Shown.{ShowsLane, ShowLanes}
use Rattle.vote_core.specs.Loops.{Leaves, LeavesAt, Have}
use Rattle.vote_core.specs.Verdict.{row_at}
use Rattle.vote_core.specs.declared.row.Row.{Row}

-- rows that show each lane
pub shown_by_places : (rows : List Row) (lanes : List Lane) → length rows ≡ length lanes
    → ((k : ℕ) → k < length lanes → ShowsLane (row_at rows k) (lane_at lanes k))
    → ShowLanes rows lanes
shown_by_places [] [] same at = tt
shown_by_places [] (lane ∷ lanes) same at = let no_way : ⊥ = omega arith in absurd no_way
shown_by_places (row ∷ rows) [] same at = let no_way : ⊥ = omega arith in absurd no_way
shown_by_places (row ∷ rows) (lane ∷ lanes) same at =
    (at zero (omega arith), shown_by_places rows lanes (omega arith) (λ k inside. at (suc k) (omega arith)))

-- what a loop leaves at each place
pub left_by_places : (x : Lane) (lanes new : List Lane) → length new ≡ length lanes
    → ((k : ℕ) → k < length lanes → (lane_at new k ≡ lane_at lanes k) ⊎ (lane_at new k ≡ x))
    → Leaves x lanes new
left_by_places x [] [] same at = tt
left_by_places x [] (after ∷ new) same at = let no_way : ⊥ = omega arith in absurd no_way
left_by_places x (before ∷ lanes) [] same at = let no_way : ⊥ = omega arith in absurd no_way
left_by_places x (before ∷ lanes) (after ∷ new) same at =
    (at zero (omega arith), left_by_places x lanes new (omega arith) (λ k inside. at (suc k) (omega arith)))

-- what a loop over targets leaves at each place
pub left_at_by_places : (targets : List Bool) (x : Lane) (lanes new : List Lane) → length targets ≡ length lanes → length new ≡ length lanes
    → ((k : ℕ) → k < length lanes → (lane_at new k ≡ lane_at lanes k) ⊎ (IsTrue (slice_index_or targets k false) × (lane_at new k ≡ x)))
    → LeavesAt targets x lanes new
left_at_by_places [] x [] [] same_targets same at = tt
left_at_by_places [] x [] (after ∷ new) same_targets same at = let no_way : ⊥ = omega arith in absurd no_way
left_at_by_places [] x (before ∷ lanes) new same_targets same at = let no_way : ⊥ = omega arith in absurd no_way
left_at_by_places (target ∷ targets) x [] new same_targets same at = let no_way : ⊥ = omega arith in absurd no_way
left_at_by_places (target ∷ targets) x (before ∷ lanes) [] same_targets same at = let no_way : ⊥ = omega arith in absurd no_way
left_at_by_places (target ∷ targets) x (before ∷ lanes) (after ∷ new) same_targets same at =
    (at zero (omega arith), left_at_by_places targets x lanes new (omega arith) (omega arith) (λ k inside. at (suc k) (omega arith)))

-- which places have a record
pub had_by_places : (mask : List Bool) (x : Lane) (lanes : List Lane) → length mask ≡ length lanes
    → ((k : ℕ) → k < length lanes → IsTrue (slice_index_or mask k false) → lane_at lanes k ≡ x)
    → Have mask x lanes
had_by_places [] x [] same at = tt
had_by_places [] x (lane ∷ lanes) same at = let no_way : ⊥ = omega arith in absurd no_way
had_by_places (has ∷ mask) x [] same at = let no_way : ⊥ = omega arith in absurd no_way
had_by_places (has ∷ mask) x (lane ∷ lanes) same at =
    (at zero (omega arith), had_by_places mask x lanes (omega arith) (λ k inside. at (suc k) (omega arith)))
