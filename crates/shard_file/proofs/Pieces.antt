-- Bytes that are cut into pieces of one size.
use Rattle.std.proofs.Common.{◌≡◌, ℕ, zero, suc, ◌+◌, ◌-◌, ◌*◌, ◌<◌, ◌≤◌, min, ◌∙◌, List, [], ◌∷◌, ◌++◌, length, slice_index_or, take, drop, map, ap, refl, subst, arith}
use Rattle.std.specs.List.{concat}
use Rattle.std.proofs.Math.Nat.{mul-le-mul_left}
use Rattle.std.proofs.Math.Numerals.{add-one}
use Rattle.std.proofs.Math.Seq.{take-add}
use Rattle.std.proofs.lemmas.List.{append-nil, length-drop, length-take}
use Rattle.std.proofs.lemmas.List.Folds.{concat-append}
use Rattle.std.proofs.lemmas.List.FromFn.{get_or-map-range_with_len, length-map-range_with_len, map-range_with_len_more}
use Rattle.shard_file.specs.Stripes.{piece, pieces}

-- a function of each element, then another
pub map_map : {X Y Z : Type 0} (f : X → Y) (g : Y → Z) (xs : List X) → map g (map f xs) ≡ map (λ x. g (f x)) xs
map_map f g [] = refl
map_map f g (x ∷ xs) = ap (λ (ys : List _). g (f x) ∷ ys) (map_map f g xs)

-- two functions that agree give one list
pub map_same : {X Y : Type 0} (f g : X → Y) (xs : List X) → ((x : X) → f x ≡ g x) → map f xs ≡ map g xs
map_same f g [] same = refl
map_same f g (x ∷ xs) same = rw (same x, map_same f g xs same) refl

-- there are as many pieces as were asked for
pub length-pieces : (size count : ℕ) (bytes : List ℕ) → length (pieces size count bytes) ≡ count
length-pieces size count bytes = length-map-range_with_len (piece size bytes) 0 count

-- the piece at a place
pub get_or-pieces : (size count : ℕ) (bytes : List ℕ) (i : ℕ) (default : List ℕ) → i < count
    → slice_index_or (pieces size count bytes) i default ≡ piece size bytes i
get_or-pieces size count bytes i default low =
    get_or-map-range_with_len (piece size bytes) 0 count i i default low (omega arith)

-- the first pieces, joined, are the front of the bytes
pub concat-pieces : (size count : ℕ) (bytes : List ℕ) → concat (pieces size count bytes) ≡ take (size * count) bytes
concat-pieces size zero bytes = let none : size * 0 ≡ 0 = omega arith in rw none refl
concat-pieces size (suc n) bytes =
    let longer : size * (n + 1) ≡ size * n + size = omega arith in
    let pushed : pieces size (n + 1) bytes ≡ pieces size n bytes ++ piece size bytes n ∷ [] =
    map-range_with_len_more (piece size bytes) 0 n n (omega arith) in
    let joined : concat (pieces size (n + 1) bytes) ≡ take (size * (n + 1)) bytes =
    rw (pushed, concat-append, concat-pieces size n bytes, longer, take-add, append-nil) refl in
    subst (λ (m : ℕ). concat (pieces size m bytes) ≡ take (size * m) bytes) (add-one n) joined

-- the length of a piece that stands within the bytes
pub length-piece : (size : ℕ) (bytes : List ℕ) (i : ℕ) → length (piece size bytes i) ≡ min size (length bytes - size * i)
length-piece size bytes i = length-take size (drop (size * i) bytes) ∙ ap (min size) (length-drop (size * i) bytes)

-- the length of a whole piece
pub length-whole_piece : (size count : ℕ) (bytes : List ℕ) (i : ℕ) → i < count → length bytes ≡ size * count
    → length (piece size bytes i) ≡ size
length-whole_piece size count bytes i low long =
    let within : size * (i + 1) ≤ size * count = mul-le-mul_left size (omega arith) in
    let split : size * (i + 1) ≡ size * i + size = omega arith in
    length-piece size bytes i ∙ omega arith
