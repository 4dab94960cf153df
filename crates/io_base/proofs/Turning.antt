-- Lemmas on works done in turn.
use Rattle.std.proofs.Common.{◌≡◌, ◌⊎◌, ◌+◌, ◌<◌, ◌≤◌, ℕ, inl, inr, List, [], ◌∷◌, ◌++◌, length, map, sym, ap, subst, ◌∙◌, arith, append-nil, length-append}
use Rattle.std.specs.Prelude.{true, false, not, min, All}
use Rattle.std.proofs.lemmas.List.{map-append, length-map}
use Rattle.std.proofs.Math.Nat.{eq-or-lt_of_le}
use Rattle.std.proofs.lemmas.List.Elements.{All-push}
use Rattle.fault_base.specs.Counts.{last_count, count_after}
use Rattle.io_base.specs.Turns.{WorksInTurn, is_listed, is_done_at, TakesTurns, TakesOne, LeavesOne, DoesOne, RunsInTurn}
use Rattle.io_base.specs.Works.{picked, Apart, CountsLeft}
use Rattle.io_base.proofs.Works.{picked-passes, picked-stays, Apart-left}

-- turns alike but for two counts
turns_alike : (t : WorksInTurn) (b c f g : ℕ) → b ≡ c → f ≡ g
    → record t { begun = b; faults = f } ≡ record t { begun = c; faults = g }
turns_alike t b c f g begun faults =
    let first : ℕ → WorksInTurn = λ n. record t { begun = n; faults = f } in
    let second : ℕ → WorksInTurn = λ n. record t { begun = c; faults = n } in
    ap first begun ∙ ap second faults

-- no work yet
pub TakesTurns-none : {W K : Type 0} (kept : W → K) (t : WorksInTurn) (begun : t.begun ≡ min (t.begun + 0) last_count)
    (faults : t.faults ≡ min (t.faults + 0) last_count) (done left : List W) → done ≡ [] → left ≡ [] → TakesTurns kept t t [] done left
TakesTurns-none kept t begun faults done left none_done none_left = record {
  done_kept = ap (map kept) none_done;
  left_same = none_left;
  after = turns_alike t t.begun (min (t.begun + 0) last_count) t.faults (min (t.faults + length left) last_count) begun
      (faults ∙ ap (λ xs. min (t.faults + length xs) last_count) (sym none_left));
}

-- a work that was left
TakesTurns-left : {W K : Type 0} (kept : W → K) (t s u : WorksInTurn) (xs : List W) (w : W) (done done' left left' : List W)
    → TakesTurns kept t s xs done left → LeavesOne w s u done done' left left' → TakesTurns kept t u (xs ++ w ∷ []) done' left'
TakesTurns-left kept t s u xs w done done' left left' before one =
    let listed : is_listed t.fails (min (t.begun + length xs) last_count) ≡ true =
    ap (λ v. is_listed v.fails v.begun) (sym before.after) ∙ one.listed in
    let passes_not : is_done_at t (length xs) ≡ false = ap not listed in
    let counts : WorksInTurn → WorksInTurn = λ v. record v { begun = count_after v.begun; faults = count_after v.faults } in
    let place : is_done_at t (length (map kept xs)) ≡ false = ap (is_done_at t) (length-map xs kept) ∙ passes_not in
    record {
      done_kept = ap (map kept) one.done ∙ before.done_kept ∙ sym (append-nil (picked (is_done_at t) 0 (map kept xs)))
          ∙ sym (picked-stays (is_done_at t) (map kept xs) (kept w) place)
          ∙ ap (picked (is_done_at t) 0) (sym (map-append kept xs (w ∷ [])));
      left_same = one.left ∙ ap (λ ys. ys ++ w ∷ []) before.left_same
          ∙ sym (picked-passes (λ n. not (is_done_at t n)) xs w (ap not passes_not));
      after = one.after ∙ ap counts before.after
          ∙ turns_alike t (count_after (min (t.begun + length xs) last_count)) (min (t.begun + length (xs ++ w ∷ [])) last_count)
          (count_after (min (t.faults + length left) last_count)) (min (t.faults + length left') last_count)
          (omega (arith, length-append xs (w ∷ [])))
          (omega (arith, length-append left (w ∷ []), ap length one.left));
    }

-- a work that was done
TakesTurns-done : {W K : Type 0} (kept : W → K) (over : W → Type 0) (t s u : WorksInTurn) (xs : List W) (w : W) (done done' left left' : List W)
    → TakesTurns kept t s xs done left → DoesOne kept over w s u done done' left left' → TakesTurns kept t u (xs ++ w ∷ []) done' left'
TakesTurns-done kept over t s u xs w done done' left left' before one =
    let listed : is_listed t.fails (min (t.begun + length xs) last_count) ≡ false =
    ap (λ v. is_listed v.fails v.begun) (sym before.after) ∙ one.passes in
    let passes : is_done_at t (length xs) ≡ true = ap not listed in
    let counts : WorksInTurn → WorksInTurn = λ v. record v { begun = count_after v.begun } in
    let place : is_done_at t (length (map kept xs)) ≡ true = ap (is_done_at t) (length-map xs kept) ∙ passes in
    record {
      done_kept = ap (map kept) one.done ∙ map-append kept done (one.after_work ∷ [])
          ∙ ap (λ ks. ks ++ kept one.after_work ∷ []) before.done_kept
          ∙ ap (λ k. picked (is_done_at t) 0 (map kept xs) ++ k ∷ []) one.is_kept
          ∙ sym (picked-passes (is_done_at t) (map kept xs) (kept w) place)
          ∙ ap (picked (is_done_at t) 0) (sym (map-append kept xs (w ∷ [])));
      left_same = one.left ∙ before.left_same ∙ sym (append-nil (picked (λ n. not (is_done_at t n)) 0 xs))
          ∙ sym (picked-stays (λ n. not (is_done_at t n)) xs w (ap not passes));
      after = one.after ∙ ap counts before.after
          ∙ turns_alike t (count_after (min (t.begun + length xs) last_count)) (min (t.begun + length (xs ++ w ∷ [])) last_count)
          (min (t.faults + length left) last_count) (min (t.faults + length left') last_count)
          (omega (arith, length-append xs (w ∷ [])))
          (ap (λ ys. min (t.faults + length ys) last_count) (sym one.left));
    }

-- one work more
pub TakesTurns-one : {W K : Type 0} (kept : W → K) (over : W → Type 0) (t s u : WorksInTurn) (xs : List W) (w : W) (done done' left left' : List W)
    → TakesTurns kept t s xs done left → TakesOne kept over w s u done done' left left' → TakesTurns kept t u (xs ++ w ∷ []) done' left'
TakesTurns-one kept over t s u xs w done done' left left' before one = elim one as (λ _. TakesTurns kept t u (xs ++ w ∷ []) done' left') [
  | inl left_one ↦ TakesTurns-left kept t s u xs w done done' left left' before left_one
  | inr done_one ↦ TakesTurns-done kept over t s u xs w done done' left left' before done_one
]

-- each work that was done is over
pub TakesOne-over : {W K : Type 0} (kept : W → K) (over : W → Type 0) (s u : WorksInTurn) (w : W) (done done' left left' : List W)
    → All over done → TakesOne kept over w s u done done' left left' → All over done'
TakesOne-over kept over s u w done done' left left' before one = elim one as (λ _. All over done') [
  | inl left_one ↦ subst (All over) (sym left_one.done) before
  | inr done_one ↦ subst (All over) (sym done_one.done)
      (All-push over done done_one.after_work before done_one.is_over)
]

-- works in turn stand apart
pub TakesTurns-apart : {W K : Type 0} (kept : W → K) (t u : WorksInTurn) (works done left : List W)
    → TakesTurns kept t u works done left → Apart kept works done left
TakesTurns-apart kept t u works done left took = record { ran = is_done_at t; done_kept = took.done_kept; left_same = took.left_same }

pub RunsInTurn-apart : {W K : Type 0} (kept : W → K) (t u : WorksInTurn) (works done left : List W)
    → RunsInTurn kept t u works done left → Apart kept works done left
RunsInTurn-apart kept t u works done left ran = elim ran as (λ _. Apart kept works done left) [
  | inl took ↦ TakesTurns-apart kept t u works done left took
  | inr none ↦ Apart-left kept works done left none.none_done none.all_left
]

-- the count rises with the works that are left
turns_count : {W : Type 0} (old new : ℕ) (left : List W) → old ≤ last_count → new ≡ min (old + length left) last_count → CountsLeft left old new
turns_count old new [] within is = omega (arith, within, is)
turns_count old new (w ∷ left) within is = (
  omega (arith, within, is),
  elim (eq-or-lt_of_le within) as (λ _. (old < new) ⊎ (last_count ≤ new)) [ inl last ↦ inr (omega (arith, last, is)) | inr below ↦ inl (omega (arith, below, is)) ],
)

-- a run that begins none counts it
none_counted : {W : Type 0} (t u : WorksInTurn) (works left : List W) → t.faults ≤ last_count → u.faults ≡ count_after t.faults
    → 0 < length works → left ≡ works → CountsLeft left t.faults u.faults
none_counted t u [] left within counted some same = absurd (omega (arith, some))
none_counted t u (w ∷ works) left within counted some same = subst (λ xs. CountsLeft xs t.faults u.faults) (sym same) (
  omega (arith, within, counted),
  elim (eq-or-lt_of_le within) as (λ _. (t.faults < u.faults) ⊎ (last_count ≤ u.faults)) [
    | inl last ↦ inr (omega (arith, last, counted))
    | inr below ↦ inl (omega (arith, below, counted))
  ],
)

-- a run in turn counts what it leaves
pub RunsInTurn-counted : {W K : Type 0} (kept : W → K) (t u : WorksInTurn) (works done left : List W) → t.faults ≤ last_count
    → RunsInTurn kept t u works done left → CountsLeft left t.faults u.faults
RunsInTurn-counted kept t u works done left within ran = elim ran as (λ _. CountsLeft left t.faults u.faults) [
  | inl took ↦ turns_count t.faults u.faults left within (ap (λ v. v.faults) took.after)
  | inr none ↦ none_counted t u works left within (ap (λ v. v.faults) none.after) none.some none.all_left
]
