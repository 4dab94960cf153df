-- What is left of works that were done beside one another, or in turn.
use Rattle.std.specs.Prelude.{◌≡◌, ◌+◌, ℕ, Bool, not, if◌then◌else◌, List, [], ◌∷◌, map}
use Rattle.fault_base.specs.Counts.{Rose}

-- the elements of xs whose numbers pass the test, where the first has the number n
abbrev pub picked : {X : Type 0} → (ℕ → Bool) → ℕ → List X → List X
picked test n [] = []
picked test n (x ∷ xs) = if test n then x ∷ picked test (n + 1) xs else picked test (n + 1) xs

-- the works stand apart, in their order: those done, of which each keeps what it kept, and those left as they were
pub record Apart {W K : Type 0} (kept : W → K) (works done left : List W) : Type 0 where
  pub ran : ℕ → Bool
  pub done_kept : map kept done ≡ picked ran 0 (map kept works)
  pub left_same : left ≡ picked (λ n. not (ran n)) 0 works

-- works are left only where the count rose, and the count stays where none is
abbrev pub CountsLeft : {W : Type 0} → List W → ℕ → ℕ → Type 0
CountsLeft [] old new = new ≡ old
CountsLeft (_ ∷ _) old new = Rose old new
