-- What a `Turns` shows.
use Rattle.std.specs.Prelude.{◌≡◌, ◌⊎◌, ◌<◌, ◌+◌, ℕ, Bool, true, false, not, min, nat_eq, List, [], ◌∷◌, ◌++◌, length, map}
use Rattle.std.specs.List.{list_any}
use Rattle.fault_base.specs.Counts.{last_count, count_after}
use Rattle.io_base.specs.Works.{picked}

-- the numbers of the works that fail, the number of the next work, the count of faults, and how many of these were for want
-- of memory
pub record WorksInTurn : Type 0 where
  pub fails : List ℕ
  pub begun : ℕ
  pub faults : ℕ
  pub starved : ℕ

-- whether the number stands among those that fail
abbrev pub is_listed : List ℕ → ℕ → Bool
is_listed fails n = list_any (λ f. nat_eq f n) fails

-- whether the work at this place is done: its number is none of those that fail
abbrev pub is_done_at : WorksInTurn → ℕ → Bool
is_done_at old place = not (is_listed old.fails (min (old.begun + place) last_count))

-- the work is left as it was, since its number stands among those that fail, and that is counted
pub record LeavesOne {W : Type 0} (work : W) (old new : WorksInTurn) (done_old done_new left_old left_new : List W) : Type 0 where
  pub listed : is_listed old.fails old.begun ≡ true
  pub done : done_new ≡ done_old
  pub left : left_new ≡ left_old ++ work ∷ []
  pub after : new ≡ record old { begun = count_after old.begun; faults = count_after old.faults }

-- the work was done, and keeps what it kept
pub record DoesOne {W K : Type 0} (kept : W → K) (over : W → Type 0) (work : W) (old new : WorksInTurn)
    (done_old done_new left_old left_new : List W) : Type 0 where
  pub passes : is_listed old.fails old.begun ≡ false
  pub after_work : W
  pub is_over : over after_work
  pub is_kept : kept after_work ≡ kept work
  pub done : done_new ≡ done_old ++ after_work ∷ []
  pub left : left_new ≡ left_old
  pub after : new ≡ record old { begun = count_after old.begun }

-- the next work was done, or is left
abbrev pub TakesOne : {W K : Type 0} → (W → K) → (W → Type 0) → W → WorksInTurn → WorksInTurn → List W → List W → List W → List W → Type 0
TakesOne kept over work old new done_old done_new left_old left_new =
    LeavesOne work old new done_old done_new left_old left_new ⊎ DoesOne kept over work old new done_old done_new left_old left_new

-- the works whose numbers stand among those that fail are left, each counted, and the others were done
pub record TakesTurns {W K : Type 0} (kept : W → K) (old new : WorksInTurn) (works done left : List W) : Type 0 where
  pub done_kept : map kept done ≡ picked (is_done_at old) 0 (map kept works)
  pub left_same : left ≡ picked (λ n. not (is_done_at old n)) 0 works
  pub after : new ≡ record old {
    begun = min (old.begun + length works) last_count;
    faults = min (old.faults + length left) last_count;
  }

-- no memory was found to keep the works apart, and none was begun
pub record LeavesAll {W : Type 0} (old new : WorksInTurn) (works done left : List W) : Type 0 where
  pub some : 0 < length works
  pub none_done : done ≡ []
  pub all_left : left ≡ works
  pub after : new ≡ record old { faults = count_after old.faults; starved = count_after old.starved }

-- exactly what a run of works in turn does
abbrev pub RunsInTurn : {W K : Type 0} → (W → K) → WorksInTurn → WorksInTurn → List W → List W → List W → Type 0
RunsInTurn kept old new works done left = TakesTurns kept old new works done left ⊎ LeavesAll old new works done left
