-- What holds of one of four lanes.
use Rattle.std.proofs.Common.{◌≡◌, refl, ℕ, zero, suc, ◌+◌, ◌-◌, ◌*◌, ◌%◌, ◌<◌, ◌≤◌, List, [], length, slice_index, slice_set, sym, ◌∙◌, arith}
use Rattle.std.proofs.Math.ListN.{get_or-map}
use Rattle.std.proofs.lemmas.List.{length-map, map-set}
use Rattle.sha2.specs.Sha256.{IsWindow, add32, round, round_constants, rounds, schedule, window_word, word_at}
use Rattle.sha2.proofs.Schedule256.{IsWindow_first, IsWindow_next, rounds_next, window_word_at, window_word_place}
use Rattle.hash_lanes.specs.Lanes.{lane, lane_at, one_of, window_of}

-- a word of one message's window
pub slice_index-window_of : (vectors : List (List ℕ)) (j k : ℕ) → slice_index (window_of j vectors) k ≡ lane_at vectors k j
slice_index-window_of vectors j k = get_or-map (λ (vector : List ℕ). slice_index vector j) vectors k []

-- what holds of each of the four lanes
pub below_four : (P : ℕ → Type 0) → P 0 → P 1 → P 2 → P 3 → (j : ℕ) → j < 4 → P j
below_four P first second third fourth zero low = first
below_four P first second third fourth (suc zero) low = second
below_four P first second third fourth (suc (suc zero)) low = third
below_four P first second third fourth (suc (suc (suc zero))) low = fourth
below_four P first second third fourth (suc (suc (suc (suc j)))) low = absurd (omega arith)

-- the same place, spelled another way
pub IsWindow_at : (w chunk : List ℕ) (t u : ℕ) → t ≡ u → IsWindow w (schedule chunk 48) t → IsWindow w (schedule chunk 48) u
IsWindow_at w chunk t u same window = rw (← same) window

-- the window that the sixteen words of each chunk fill
pub IsWindow_filled : (vectors : List (List ℕ)) (chunk : List ℕ) (j : ℕ) → length vectors ≡ 16
    → ((k : ℕ) → k < 16 → lane_at vectors k j ≡ word_at chunk (4 * k)) → IsWindow (window_of j vectors) (schedule chunk 48) 16
IsWindow_filled vectors chunk j sixteen words =
    IsWindow_first chunk (window_of j vectors) (length-map vectors (λ (vector : List ℕ). slice_index vector j) ∙ sixteen)
    (λ k low. slice_index-window_of vectors j k ∙ words k low)

-- four words may be added in any order
pub add32_pairs : (a b c d : ℕ) → add32 (add32 a b) (add32 c d) ≡ add32 (add32 (add32 a b) c) d
add32_pairs a b c d = omega arith

-- the window one word on
pub IsWindow_set : (vectors : List (List ℕ)) (chunk words : List ℕ) (j turn place : ℕ) → 1 ≤ turn → turn < 4 → place < 16
    → slice_index words j ≡ window_word (window_of j vectors) place
    → IsWindow (window_of j vectors) (schedule chunk 48) (16 * turn + place)
    → IsWindow (window_of j (slice_set vectors place words)) (schedule chunk 48) (16 * turn + (place + 1))
IsWindow_set vectors chunk words j turn place low high place_low word held =
    let before = window_of j vectors in
    let t = 16 * turn + place in
    let at : t % 16 ≡ place = omega arith in
    let is_next : slice_index words j ≡ slice_index (schedule chunk 48) t =
    word ∙ window_word_place before turn place ∙ window_word_at chunk before t (omega arith) (omega arith) held in
    let moved = IsWindow_next chunk before t (omega arith) (omega arith) held in
    let set : window_of j (slice_set vectors place words) ≡ slice_set before place (slice_index words j) =
    map-set (λ (vector : List ℕ). slice_index vector j) vectors place words in
    IsWindow_at _ chunk (t + 1) _ (omega arith) (rw (set, is_next) (rw at at moved))

-- one round, with the word at its place in the window
pub rounds_more : (vectors : List (List ℕ)) (chunk h v next : List ℕ) (j turn place : ℕ) → place < 16
    → IsWindow (window_of j vectors) (schedule chunk 48) (16 * turn + 16)
    → v ≡ rounds h (schedule chunk 48) (16 * turn + place)
    → next ≡ round v (slice_index round_constants (16 * turn + place)) (lane_at vectors place j)
    → next ≡ rounds h (schedule chunk 48) (16 * turn + (place + 1))
rounds_more vectors chunk h v next j turn place low window held is_round =
    let t = 16 * turn + place in
    let at : (16 * turn + 16 + place) % 16 ≡ place = omega arith in
    let back : 16 * turn + 16 + place - 16 ≡ t = omega arith in
    let word : lane_at vectors place j ≡ slice_index (schedule chunk 48) t =
    sym (slice_index-window_of vectors j place) ∙ (rw (at, back) at (window.1 place low)) in
    let spelled : 16 * turn + (place + 1) ≡ t + 1 = omega arith in
    rw (is_round, word, held, spelled) (sym (rounds_next h (schedule chunk 48) t))

-- a word of one message's hash value
pub slice_index-lane : (vectors : List (List ℕ)) (j k : ℕ) → k < 8 → slice_index (lane j vectors) k ≡ lane_at vectors k j
slice_index-lane vectors j zero low = refl
slice_index-lane vectors j (suc zero) low = refl
slice_index-lane vectors j (suc (suc zero)) low = refl
slice_index-lane vectors j (suc (suc (suc zero))) low = refl
slice_index-lane vectors j (suc (suc (suc (suc zero)))) low = refl
slice_index-lane vectors j (suc (suc (suc (suc (suc zero))))) low = refl
slice_index-lane vectors j (suc (suc (suc (suc (suc (suc zero)))))) low = refl
slice_index-lane vectors j (suc (suc (suc (suc (suc (suc (suc zero))))))) low = refl
slice_index-lane vectors j (suc (suc (suc (suc (suc (suc (suc (suc k)))))))) low = absurd (omega arith)

-- what is made of each of four messages is made of the one in a lane
pub one_of_map : (f : List ℕ → List ℕ) (a b c d : List ℕ) (j : ℕ) → j < 4 → one_of (f a) (f b) (f c) (f d) j ≡ f (one_of a b c d j)
one_of_map f a b c d = below_four (λ j. one_of (f a) (f b) (f c) (f d) j ≡ f (one_of a b c d j)) refl refl refl refl
