-- Four messages side by side: each word of a hash value, of a window or of a round is a vector, with one
-- lane for each message. A vector is the list of its lanes.
use Rattle.std.specs.Prelude.{ℕ, List, [], ◌∷◌, map, slice_index, slice_index_or}

-- lane j of vector k
abbrev pub lane_at : List (List ℕ) → ℕ → ℕ → ℕ
lane_at vectors k j = slice_index (slice_index_or vectors k []) j

-- the eight words of message j's hash value, or of its working variables
abbrev pub lane : ℕ → List (List ℕ) → List ℕ
lane j vectors =
    lane_at vectors 0 j ∷ lane_at vectors 1 j ∷ lane_at vectors 2 j ∷ lane_at vectors 3 j
    ∷ lane_at vectors 4 j ∷ lane_at vectors 5 j ∷ lane_at vectors 6 j ∷ lane_at vectors 7 j ∷ []

-- the words of message j's window
abbrev pub window_of : ℕ → List (List ℕ) → List ℕ
window_of j vectors = map (λ vector. slice_index vector j) vectors

-- message j of four
abbrev pub one_of : List ℕ → List ℕ → List ℕ → List ℕ → ℕ → List ℕ
one_of a b c d j = slice_index_or (a ∷ b ∷ c ∷ d ∷ []) j []
