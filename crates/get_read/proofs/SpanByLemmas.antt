-- A piece of a stripe goes on with the span of a body.
use Rattle.std.proofs.Common.{◌≡◌, ℕ, ◌+◌, ◌-◌, ◌*◌, ◌<◌, ◌≤◌, min, ◌∙◌, List, [], ◌++◌, length, slice_index_or, take, drop, sym, ap, inl, inr, arith}
use Rattle.std.proofs.Math.Seq.{drop-append-add, take-add}
use Rattle.std.proofs.lemmas.List.{drop-append-le, drop-drop, drop-take, drop_more, length-append, length-take, take-append-drop, take-append-le, take-take, take_all, take_min}
use Rattle.std.proofs.lemmas.Bool.{cases_lt}
use Rattle.std.proofs.lemmas.List.Folds.{concat-append}
use Rattle.std.specs.List.{concat}
use Rattle.shard_file.specs.Stripes.{stripe_size}

-- bytes that go on with a list from where others end in it
pub goes_on : (given next all : List ℕ) (from : ℕ) → given ≡ take (length given) (drop from all)
    → next ≡ take (length next) (drop (from + length given) all)
    → given ++ next ≡ take (length (given ++ next)) (drop from all)
goes_on given next all from is on =
    let rest = drop from all in
    let behind : drop (length given) rest ≡ drop (from + length given) all = drop-drop (length given) from all in
    sym (ap (λ (n : ℕ). take n rest) (length-append given next) ∙ take-add (length given) (length next) rest
    ∙ ap (λ (b : List ℕ). take (length given) rest ++ take (length next) b) behind
    ∙ ap (λ (b : List ℕ). take (length given) rest ++ b) (sym on)
    ∙ ap (λ (b : List ℕ). b ++ next) (sym is))

-- the first bytes, so many, of the first bytes of a list that goes on
first_of : (n r : ℕ) (front rest : List ℕ) → r ≤ n → take r front ≡ take (length (take r front)) (take n (front ++ rest))
first_of n r front rest low =
    let long : length (take r front) ≡ min r (length front) = length-take r front in
    let few : min r (length front) ≤ n = omega arith in
    let inside : min r (length front) ≤ length front = omega arith in
    sym (ap (λ (m : ℕ). take m (take n (front ++ rest))) long
    ∙ take-take (min r (length front)) n (front ++ rest) few
    ∙ take-append-le (min r (length front)) front rest inside ∙ take_min r front)

-- what a part has from a stripe on, at most so many bytes, from a place of the body on, up to an end, is of the body
pub of_body : (cut : List (List ℕ)) (place i size at to : ℕ) → place < length cut
    → length (concat (take place cut)) + i * stripe_size ≤ at
    → at < length (concat (take place cut)) + i * stripe_size + size
    → at ≤ length (concat (take place cut)) + length (slice_index_or cut place []) → at ≤ to
    → take (to - at) (drop (at - length (concat (take place cut)) - i * stripe_size) (take size (drop (stripe_size * i) (slice_index_or cut place []))))
    ≡ take (length (take (to - at) (drop (at - length (concat (take place cut)) - i * stripe_size) (take size (drop (stripe_size * i) (slice_index_or cut place []))))))
    (drop at (take to (concat cut)))
of_body cut place i size at to inside after before within ends =
    let begin = concat (take place cut) in
    let part = slice_index_or cut place [] in
    let rest = concat (drop (place + 1) cut) in
    let n = to - at in
    let q = at - length begin in
    let o = at - length begin - i * stripe_size in
    let m = size - o in
    let front = drop q part in
    let turned : i * stripe_size ≡ stripe_size * i = omega arith in
    let all : concat cut ≡ begin ++ (part ++ rest) =
    ap concat (sym (take-append-drop place cut)) ∙ concat-append (take place cut) (drop place cut)
    ∙ ap (λ (l : List (List ℕ)). begin ++ concat l) (drop_more cut place [] inside) in
    let whole : to ≡ at + n = omega arith in
    let there : at ≡ length begin + q = omega arith in
    let cut_so : size ≡ o + m = omega arith in
    let behind : drop at (take to (concat cut)) ≡ take n (front ++ rest) =
    ap (λ (e : ℕ). drop at (take e (concat cut))) whole
    ∙ drop-take at n (concat cut)
    ∙ ap (λ (l : List ℕ). take n (drop at l)) all
    ∙ ap (λ (e : ℕ). take n (drop e (begin ++ (part ++ rest)))) there
    ∙ ap (take n) (drop-append-add begin (part ++ rest) q)
    ∙ ap (take n) (drop-append-le q part rest (omega arith)) in
    let stripe : drop o (take size (drop (stripe_size * i) part)) ≡ take m front =
    ap (λ (e : ℕ). drop o (take e (drop (stripe_size * i) part))) cut_so
    ∙ drop-take o m (drop (stripe_size * i) part)
    ∙ ap (take m) (drop-drop o (stripe_size * i) part ∙ ap (λ (e : ℕ). drop e part) (omega (arith, turned))) in
    let short : take n (take m front) ≡ take (min n m) front = elim (cases_lt n m) [
      | inl low ↦ take-take n m front (omega arith) ∙ ap (λ (e : ℕ). take e front) (omega arith)
      | inr past ↦ take_all n (take m front) (omega (arith, length-take m front)) ∙ ap (λ (e : ℕ). take e front) (omega arith)
    ] in
    let is : take n (drop o (take size (drop (stripe_size * i) part))) ≡ take (min n m) front = ap (take n) stripe ∙ short in
    is ∙ first_of n (min n m) front rest (omega arith)
    ∙ ap (λ (l : List ℕ). take (length l) (take n (front ++ rest))) (sym is)
    ∙ ap (λ (l : List ℕ). take (length (take n (drop o (take size (drop (stripe_size * i) part))))) l) (sym behind)
