-- The fills and steps of a stage come to an end.
use Rattle.std.proofs.Common.{◌≡◌, ◌≢◌, ◌∙◌, ℕ, zero, suc, ◌+◌, ◌*◌, ◌<◌, ◌≤◌, true, false, List, length, slice_index_or, ap, refl, sym, subst, inl, inr, arith}
use Rattle.std.specs.Prelude.{Bool, Result, Ok, Err}
use Rattle.std.proofs.lemmas.Bool.{cases_eq}
use Rattle.std.proofs.lemmas.List.{get_or-set_same}
use Rattle.std.proofs.lemmas.Nat.{mul-le}
use Rattle.call_types.specs.Good.{is_good}
use Rattle.call_types.specs.declared.why.Why.{Why}
use Rattle.call_types.specs.declared.why.Why.TheVariants.{Good}
use Rattle.put_stage.specs.Dues.{after, is_block, is_nothing}
use Rattle.put_stage.specs.Left.{calls_from, calls_if, calls_left, calls_on, sum_below}
use Rattle.put_stage.specs.Steps.{IsAfter, IsDue}
use Rattle.put_stage.specs.Work.{due_at, why_at}
use Rattle.put_stage.specs.declared.dues.Due.{Due}
use Rattle.put_stage.specs.declared.dues.Due.TheVariants.{Block, Table, SyncShard, Manifest, SyncManifest, PlaceManifest, PlaceShard, Nothing}
use Rattle.put_stage.specs.declared.stage.Load.{Load}
use Rattle.put_stage.specs.declared.stage.Stage.{Stage}
use Rattle.put_stage.proofs.StepLemmas.{other_due, other_why}

-- equal values have one sum
sum_same : (f g : ℕ → ℕ) (n : ℕ) → ((j : ℕ) → j < n → g j ≡ f j) → sum_below g n ≡ sum_below f n
unfolding sum_below
sum_same f g zero same = refl
sum_same f g (suc n) same = omega (arith, sum_same f g n (λ j low. same j (omega (arith, low))), same n (omega arith))

-- where one value is less and the others are the same, so is the sum
sum_less : (f g : ℕ → ℕ) (k n : ℕ) → k < n → g k < f k → ((j : ℕ) → j ≢ k → g j ≡ f j) → sum_below g n < sum_below f n
unfolding sum_below
sum_less f g k zero low less same = absurd (omega (arith, low))
sum_less f g k (suc n) low less same = elim (cases_eq k n) [
  | inl at ↦
      let here : g n < f n = subst (λ (j : ℕ). g j < f j) at less in
      let rest = sum_same f g n (λ j below. same j (λ is. omega (arith, is, at, below))) in
      omega (arith, here, rest)
  | inr apart ↦
      let rest = sum_less f g k n (omega (arith, low, apart)) less same in
      omega (arith, rest, same n (λ is. apart (sym is)))
]

-- the sum of values of at most 7
pub sum_most : (f : ℕ → ℕ) (n : ℕ) → ((j : ℕ) → f j ≤ 7) → sum_below f n ≤ 7 * n
unfolding sum_below
sum_most f zero most = omega arith
sum_most f (suc n) most = omega (arith, sum_most f n most, most n)

-- no drive has more calls
pub few_calls : (serves : Bool) (due : Due) → calls_if serves (calls_from due) ≤ 7
few_calls false due = omega arith
few_calls true Block = omega arith
few_calls true Table = omega arith
few_calls true SyncShard = omega arith
few_calls true Manifest = omega arith
few_calls true SyncManifest = omega arith
few_calls true PlaceManifest = omega arith
few_calls true PlaceShard = omega arith
few_calls true Nothing = omega arith

-- the call that follows has fewer from it on
after_less : (alone : Bool) (due : Due) → is_nothing due ≡ false → calls_from (after alone due) < calls_from due
after_less alone Block some = omega arith
after_less alone Table some = omega arith
after_less alone SyncShard some = omega arith
after_less alone Manifest some = omega arith
after_less alone SyncManifest some = omega arith
after_less true PlaceManifest some = omega arith
after_less false PlaceManifest some = omega arith
after_less alone PlaceShard some = omega arith
after_less alone Nothing some = absurd cc

-- a call that is due is one
block_some : (due : Due) → is_block due ≡ true → is_nothing due ≡ false
block_some Block is = refl
block_some Table is = refl
block_some SyncShard is = refl
block_some Manifest is = refl
block_some SyncManifest is = refl
block_some PlaceManifest is = refl
block_some PlaceShard is = refl
block_some Nothing is = absurd cc

due_some : (stage : Stage) (k : ℕ) → IsDue stage k → is_nothing (due_at stage k) ≡ false
due_some stage k due = elim due.call [
  | inl block ↦ block_some (due_at stage k) block
  | inr later ↦ later.1
]

-- the letter of a failed call is not good
abbrev pub BadIfFailed : Result (Unit {0}) Why → Type 0
BadIfFailed (Ok done) = Unit {0}
BadIfFailed (Err why) = is_good why ≡ false

-- the drive of a call has fewer left
fewer_on : (answer : Result (Unit {0}) Why) (k : ℕ) (old new : Stage) → length old.dues ≡ 16 → IsDue old k → IsAfter answer k old new
    → BadIfFailed answer → calls_on new k < calls_on old k
fewer_on (Ok done) k old new places due (letters, dues) bad =
    let here : k < length old.dues = omega (arith, places, due.within, old.load.set.few_drives) in
    let next : due_at new k ≡ after old.load.alone (due_at old k) =
    ap (λ (all : List Due). slice_index_or all k Nothing) dues ∙ get_or-set_same old.dues k (after old.load.alone (due_at old k)) Nothing here in
    let letter : why_at new k ≡ why_at old k = ap (λ (all : List Why). slice_index_or all k Good) letters in
    let was : calls_on old k ≡ calls_from (due_at old k) = ap (λ (b : Bool). calls_if b (calls_from (due_at old k))) due.serves in
    let is : calls_on new k ≡ calls_from (after old.load.alone (due_at old k)) =
    ap (λ (w : Why). calls_if (is_good w) (calls_from (due_at new k))) letter ∙ ap (λ (b : Bool). calls_if b (calls_from (due_at new k))) due.serves
    ∙ ap calls_from next in
    omega (arith, was, is, after_less old.load.alone (due_at old k) (due_some old k due))
fewer_on (Err why) k old new places due (letters, dues) bad =
    let here : k < length old.whys = omega (arith, old.letters, due.within) in
    let letter : why_at new k ≡ why = ap (λ (all : List Why). slice_index_or all k Good) letters ∙ get_or-set_same old.whys k why Good here in
    let was : calls_on old k ≡ calls_from (due_at old k) = ap (λ (b : Bool). calls_if b (calls_from (due_at old k))) due.serves in
    let is : calls_on new k ≡ 0 = ap (λ (b : Bool). calls_if b (calls_from (due_at new k))) (ap is_good letter ∙ bad) in
    omega (arith, was, is, after_less old.load.alone (due_at old k) (due_some old k due))

-- a call was made
pub fewer_after : (answer : Result (Unit {0}) Why) (k : ℕ) (old new : Stage) → length old.dues ≡ 16 → IsDue old k → IsAfter answer k old new
    → new.load ≡ old.load → BadIfFailed answer → calls_left new < calls_left old
unfolding calls_left
fewer_after answer k old new places due is load bad =
    let n = old.load.set.drives in
    let sum = sum_less (calls_on old) (calls_on new) k n due.within (fewer_on answer k old new places due is bad)
    (λ j apart. ap (λ (w : Why). calls_if (is_good w) (calls_from (due_at new j))) (other_why answer k j old new apart is)
    ∙ ap (λ (d : Due). calls_if (is_good (why_at old j)) (calls_from d)) (other_due answer k j old new apart is)) in
    let taken : new.load.left * (7 * new.load.set.drives + 1) ≡ old.load.left * (7 * n + 1) = ap (λ (l : Load). l.left * (7 * l.set.drives + 1)) load in
    let count : sum_below (calls_on new) new.load.set.drives ≡ sum_below (calls_on new) n = ap (λ (l : Load). sum_below (calls_on new) l.set.drives) load in
    omega (arith, sum, taken, count)

-- bytes were taken
pub fewer_left : (old new : Stage) → new.load.set.drives ≡ old.load.set.drives → new.load.left < old.load.left → calls_left new < calls_left old
unfolding calls_left
fewer_left old new drives less =
    let n = old.load.set.drives in
    let sum : sum_below (calls_on new) new.load.set.drives ≤ 7 * n =
    subst (λ (m : ℕ). sum_below (calls_on new) m ≤ 7 * n) (sym drives)
    (sum_most (calls_on new) n (λ j. few_calls (is_good (why_at new j)) (due_at new j))) in
    let taken : new.load.left * (7 * new.load.set.drives + 1) ≡ new.load.left * (7 * n + 1) = ap (λ (m : ℕ). new.load.left * (7 * m + 1)) drives in
    let more : (new.load.left + 1) * (7 * n + 1) ≤ old.load.left * (7 * n + 1) = mul-le (new.load.left + 1) (7 * n + 1) old.load.left (7 * n + 1) (omega (arith, less)) (omega arith) in
    let parts : (new.load.left + 1) * (7 * n + 1) ≡ new.load.left * (7 * n + 1) + (7 * n + 1) = omega arith in
    omega (arith, sum, taken, more, parts)
