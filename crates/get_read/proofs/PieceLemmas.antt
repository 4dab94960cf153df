-- Pieces of one size, of bytes that grow or from which a piece is taken out.
use Rattle.std.proofs.Common.{◌≡◌, ℕ, ◌+◌, ◌-◌, ◌*◌, ◌<◌, ◌≤◌, ◌∙◌, List, ◌++◌, length, take, drop, sym, ap, arith}
use Rattle.std.specs.List.{remove_range}
use Rattle.std.proofs.Math.Nat.{mul-le-mul_left}
use Rattle.std.proofs.Math.Seq.{drop-append-add, drop-append_seam, drop-drop}
use Rattle.std.proofs.lemmas.List.{drop-append-le, length-append, length-drop, length-take-le, take-append-drop, take-append-le, take_all}
use Rattle.shard_file.specs.Stripes.{piece}

-- a piece before the end stays when bytes are added
pub piece_stays : (size n j : ℕ) (bytes more : List ℕ) → length bytes ≡ n * size → j < n → piece size (bytes ++ more) j ≡ piece size bytes j
piece_stays size n j bytes more long low =
    let within : size * (j + 1) ≤ size * n = mul-le-mul_left size (omega arith) in
    let split : size * (j + 1) ≡ size * j + size = omega arith in
    let turn : n * size ≡ size * n = omega arith in
    ap (take size) (drop-append-le (size * j) bytes more (omega arith))
    ∙ take-append-le size (drop (size * j) bytes) more (omega (arith, length-drop (size * j) bytes))

-- the piece that is added
pub piece_added : (size n : ℕ) (bytes more : List ℕ) → length bytes ≡ n * size → length more ≡ size → piece size (bytes ++ more) n ≡ more
piece_added size n bytes more long is =
    let place : size * n ≡ length bytes = omega arith in
    ap (λ (m : ℕ). take size (drop m (bytes ++ more))) place ∙ ap (take size) (drop-append_seam bytes more)
    ∙ take_all size more (omega arith)

-- a piece before bytes that are taken out
pub piece_before : (size place n j : ℕ) (bytes : List ℕ) → length bytes ≡ n * size → place < n → j < place
    → piece size (remove_range bytes (size * place) (size * place + size)) j ≡ piece size bytes j
piece_before size place n j bytes long low before =
    let front = take (size * place) bytes in
    let within : size * place ≤ size * n = mul-le-mul_left size (omega arith) in
    let turn : n * size ≡ size * n = omega arith in
    let front_long : length front ≡ place * size = length-take-le (size * place) bytes (omega arith) ∙ omega arith in
    piece_stays size place j front (drop (size * place + size) bytes) front_long before
    ∙ sym (piece_stays size place j front (drop (size * place) bytes) front_long before)
    ∙ ap (λ (all : List ℕ). piece size all j) (take-append-drop (size * place) bytes)

-- a piece after them
pub piece_after : (size place n j : ℕ) (bytes : List ℕ) → length bytes ≡ n * size → place < n → place ≤ j
    → piece size (remove_range bytes (size * place) (size * place + size)) j ≡ piece size bytes (j + 1)
piece_after size place n j bytes long low from =
    let front = take (size * place) bytes in
    let rest = drop (size * place + size) bytes in
    let k = j - place in
    let within : size * place ≤ size * n = mul-le-mul_left size (omega arith) in
    let turn : n * size ≡ size * n = omega arith in
    let front_long : length front ≡ size * place = length-take-le (size * place) bytes (omega arith) in
    let parts : size * (place + k) ≡ size * place + size * k = omega arith in
    let sum : place + k ≡ j = omega (arith, from) in
    let place_is : size * j ≡ length front + size * k = omega (arith, front_long, parts, ap (λ (m : ℕ). size * m) sum) in
    let next : size * (j + 1) ≡ size * j + size = omega arith in
    let at : (size * place + size) + size * k ≡ size * (j + 1) = omega (arith, front_long, place_is, next) in
    ap (λ (m : ℕ). take size (drop m (front ++ rest))) place_is
    ∙ ap (take size) (drop-append-add front rest (size * k))
    ∙ ap (take size) (drop-drop (size * k) (size * place + size) bytes)
    ∙ ap (λ (m : ℕ). take size (drop m bytes)) at

-- the bytes that are left
pub removed_long : (size place n left : ℕ) (bytes next : List ℕ) → length bytes ≡ n * size → place < n → left + 1 ≡ n
    → next ≡ remove_range bytes (size * place) (size * place + size) → length next ≡ left * size
removed_long size place n left bytes next long low shorter is =
    let front = take (size * place) bytes in
    let rest = drop (size * place + size) bytes in
    let within : size * (place + 1) ≤ size * n = mul-le-mul_left size (omega arith) in
    let split : size * (place + 1) ≡ size * place + size = omega arith in
    let turn : n * size ≡ size * n = omega arith in
    let one : (left + 1) * size ≡ left * size + size = omega arith in
    let all : (left + 1) * size ≡ n * size = ap (λ (m : ℕ). m * size) shorter in
    ap (length {A = ℕ}) is ∙ length-append front rest
    ∙ omega (arith, length-take-le (size * place) bytes (omega arith), length-drop (size * place + size) bytes, long)
