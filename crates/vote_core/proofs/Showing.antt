-- What a good row says of its lane, in numbers.
use Rattle.std.proofs.Common.{◌≡◌, ◌<◌, ◌+◌, ℕ, true, Option, None, Some, List, [], ◌∷◌, length, suc, zero, ap, ◌∙◌, inl, inr, arith, refl}
use Rattle.std.proofs.lemmas.Bool.{eq-eqb, or_left, or_right, false≢true}
use Rattle.vote_core.specs.Row.{is_good, base_height, next_height, height_of_next, base_change, next_change, change_of_next, carries, carried_by_next}
use Rattle.vote_core.specs.Lane.{Lane, Next, HasNext, lane_at, backs}
use Rattle.vote_core.specs.Shown.{ShowsNext, ShowsLane, ShowLanes, IsRead}
use Rattle.vote_core.specs.Verdict.{row_at}
use Rattle.vote_core.specs.declared.row.Row.{Row}
use Rattle.vote_core.specs.declared.row.Row.TheVariants.{Bad, Good}
use Rattle.vote_core.specs.declared.row.NextRow.{NextRow}
use Rattle.vote_core.proofs.Backing.{backs_cases}

-- a good row has its lane's numbers
pub record Reads (row : Row) (lane : Lane) : Type 0 where
  pub base_up : base_height row ≡ 1 + lane.base.ballot
  pub base_same : base_change row ≡ lane.base.change
  pub next_up : (next : Next) → HasNext lane next → next_height row ≡ 1 + next.ballot
  pub next_same : (next : Next) → HasNext lane next → next_change row ≡ next.change
  pub next_there : 0 < next_height row → (next : Next) × HasNext lane next

-- the height of the next that a row shows
shown_height : (n : Option NextRow) (m : Option Next) (next : Next) → ShowsNext n m → m ≡ Some next → height_of_next n ≡ 1 + next.ballot
shown_height None None next shown is = cc
shown_height None (Some other) next shown is = absurd shown
shown_height (Some row) None next shown is = absurd shown
shown_height (Some row) (Some other) next shown is = let same : other ≡ next = cc in ap (λ x. 1 + x) (shown.ballot ∙ ap (λ (n : Next). n.ballot) same)

-- its change
shown_change : (n : Option NextRow) (m : Option Next) (next : Next) → ShowsNext n m → m ≡ Some next → change_of_next n ≡ next.change
shown_change None None next shown is = cc
shown_change None (Some other) next shown is = absurd shown
shown_change (Some row) None next shown is = absurd shown
shown_change (Some row) (Some other) next shown is = let same : other ≡ next = cc in shown.change ∙ ap (λ (n : Next). n.change) same

-- a next that a row shows is there
shown_there : (n : Option NextRow) (m : Option Next) → ShowsNext n m → 0 < height_of_next n → (next : Next) × (m ≡ Some next)
shown_there None m shown up = let no_way : ⊥ = omega arith in absurd no_way
shown_there (Some row) None shown up = absurd shown
shown_there (Some row) (Some other) shown up = (other, refl)

-- a good row that shows its lane has its numbers
pub reads : (row : Row) (lane : Lane) → ShowsLane row lane → is_good row ≡ true → Reads row lane
reads Bad lane shown good = absurd (false≢true good)
reads (Good base change next) lane shown good = record {
  base_up = ap (λ x. 1 + x) shown.0;
  base_same = shown.1;
  next_up = λ n is. shown_height next lane.next n shown.2 is;
  next_same = λ n is. shown_change next lane.next n shown.2 is;
  next_there = λ up. shown_there next lane.next shown.2 up;
}

-- there are as many rows as lanes
pub shown_length : (rows : List Row) (lanes : List Lane) → ShowLanes rows lanes → length rows ≡ length lanes
shown_length [] [] shown = refl
shown_length [] (lane ∷ lanes) shown = absurd shown
shown_length (row ∷ rows) [] shown = absurd shown
shown_length (row ∷ rows) (lane ∷ lanes) shown = ap suc (shown_length rows lanes shown.1)

-- the row of each lane shows it
pub shown_at : (rows : List Row) (lanes : List Lane) (k : ℕ) → ShowLanes rows lanes → k < length lanes → ShowsLane (row_at rows k) (lane_at lanes k)
shown_at [] [] k shown inside = let no_way : ⊥ = omega arith in absurd no_way
shown_at [] (lane ∷ lanes) k shown inside = absurd shown
shown_at (row ∷ rows) [] k shown inside = absurd shown
shown_at (row ∷ rows) (lane ∷ lanes) zero shown inside = shown.0
shown_at (row ∷ rows) (lane ∷ lanes) (suc k) shown inside = shown_at rows lanes k shown.1 (omega arith)

-- a lane that was read shows its record
pub reads_at : (rows : List Row) (lanes : List Lane) (k : ℕ) → ShowLanes rows lanes → IsRead rows lanes k → Reads (row_at rows k) (lane_at lanes k)
reads_at rows lanes k shown read = reads _ _ (shown_at rows lanes k shown read.there) read.good

-- a row of some height is good
pub good_by_base : (row : Row) → 0 < base_height row → is_good row ≡ true
good_by_base Bad up = let no_way : ⊥ = omega arith in absurd no_way
good_by_base (Good base change next) up = refl

-- so is a row with a next
pub good_by_next : (row : Row) → 0 < next_height row → is_good row ≡ true
good_by_next Bad up = let no_way : ⊥ = omega arith in absurd no_way
good_by_next (Good base change next) up = refl

-- a good row of a lane that backs a change has it in base or next
next_carried : (c : ℕ) (n : Option NextRow) (m : Option Next) (next : Next) → ShowsNext n m → m ≡ Some next → next.change ≡ c → carried_by_next c n ≡ true
next_carried c None None next shown is same = cc
next_carried c None (Some other) next shown is same = absurd shown
next_carried c (Some row) None next shown is same = absurd shown
next_carried c (Some row) (Some other) next shown is same = let one : other ≡ next = cc in eq-eqb _ _ (shown.change ∙ (ap (λ (n : Next). n.change) one ∙ same))

-- so for base and next
pub carries_backed : (c ballot : ℕ) (row : Row) (lane : Lane) → ShowsLane row lane → is_good row ≡ true → backs c ballot lane ≡ true → carries c row ≡ true
carries_backed c ballot Bad lane shown good backed = absurd (false≢true good)
carries_backed c ballot (Good base change next) lane shown good backed = elim (backs_cases c ballot lane backed) [
  | inl by_base ↦ or_left _ _ (eq-eqb _ _ (shown.1 ∙ by_base))
  | inr by_next ↦ or_right _ _ (next_carried c next lane.next by_next.0 shown.2 by_next.1 by_next.2)
]
