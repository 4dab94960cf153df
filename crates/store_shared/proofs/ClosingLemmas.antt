-- Locks that are closed one after another, the last one first.
use Rattle.std.proofs.Common.{◌≡◌, ◌<◌, ◌+◌, ◌-◌, ◌∙◌, ◌++◌, ℕ, List, [], ◌∷◌, Option, Some, None, get_or, length, ap, refl, subst, sym, arith}
use Rattle.std.specs.Prelude.{reverse}
use Rattle.std.proofs.lemmas.List.{get_or-reverse, get_or_append_left, get_or_at, length-append, length-reverse}
use Rattle.slot_core.specs.declared.slot.Slot.{Slot}
use Rattle.turn_lock.specs.declared.lock.TurnLock.{TurnLock}
use Rattle.turn_lock.specs.declared.pass.Pass.{Pass}
use Rattle.store_shared.specs.Parting.{AreClosed, IsClosed, IsClosedAt}
use Rattle.store_shared.specs.declared.shared.TurnedSlot.{TurnedSlot}
use Rattle.store_shared.proofs.PartingLemmas.{each_more}

module _ {D A : Type 0} (all_locks : List (TurnLock (TurnedSlot D A))) (all_passes : List (Option (Pass (TurnedSlot D A)))) where
  -- the first ones of 64 locks and passes are left, and of the others the slots are out, that of the last one first
  pub record ClosedSoFar (locks : List (TurnLock (TurnedSlot D A))) (passes : List (Option (Pass (TurnedSlot D A)))) (slots : List (Slot D A)) : Type 0 where
    pub long : length passes ≡ length locks
    pub sum : length locks + length slots ≡ 64
    pub locks_are : (k : ℕ) (lock : TurnLock (TurnedSlot D A)) → k < length locks → get_or all_locks k lock ≡ get_or locks k lock
    pub passes_are : (k : ℕ) → k < length passes → get_or all_passes k None ≡ get_or passes k None
    pub closed : (k : ℕ) (lock : TurnLock (TurnedSlot D A)) (d : Slot D A) → k < length slots
        → IsClosedAt (get_or all_locks (63 - k) lock) (get_or all_passes (63 - k) None) (get_or slots k d)

  pub closed_none : length all_locks ≡ 64 → length all_passes ≡ 64 → ClosedSoFar all_locks all_passes []
  closed_none many long = record {
    long = omega (arith, many, long);
    sum = omega (arith, many);
    locks_are = λ k lock inside. refl;
    passes_are = λ k inside. refl;
    closed = λ k lock d inside. absurd (omega (arith, inside));
  }

  module _ (locks rest : List (TurnLock (TurnedSlot D A))) (lock : TurnLock (TurnedSlot D A)) (passes rest_passes : List (Option (Pass (TurnedSlot D A))))
      (place : Option (Pass (TurnedSlot D A))) (slots : List (Slot D A)) (is : locks ≡ rest ++ lock ∷ []) (is_too : passes ≡ rest_passes ++ place ∷ [])
      (x : ClosedSoFar locks passes slots) where
    -- how many are left
    pub rest_long : length rest + 1 + length slots ≡ 64
    rest_long = let long = ap length is in let more = length-append rest (lock ∷ []) in let sum = x.sum in omega (arith, long, more, sum)

    rest_same : length rest_passes ≡ length rest
    rest_same =
        let one = ap length is in let more = length-append rest (lock ∷ []) in let two = ap length is_too in
        let more_too = length-append rest_passes (place ∷ []) in let long = x.long in omega (arith, one, more, two, more_too, long)

    -- the last lock that is left, and the last pass, stand in one place of all
    pub last_lock : (free : TurnLock (TurnedSlot D A)) → get_or all_locks (length rest) free ≡ lock
    last_lock free =
        let long = ap length is in
        let more = length-append rest (lock ∷ []) in
        x.locks_are (length rest) free (omega (arith, long, more))
        ∙ (ap (λ l. get_or l (length rest) free) is ∙ get_or_at rest lock [] free (length rest) refl)

    pub last_pass : get_or all_passes (length rest) None ≡ place
    last_pass =
        let long = ap length is_too in
        let more = length-append rest_passes (place ∷ []) in
        let same = rest_same in
        x.passes_are (length rest) (omega (arith, long, more, same))
        ∙ (ap (λ l. get_or l (length rest) None) is_too ∙ get_or_at rest_passes place [] None (length rest) same)

    pub closed_more : (pass : Pass (TurnedSlot D A)) (slot : Slot D A) → place ≡ Some pass → IsClosed lock pass (record { slot = slot })
        → ClosedSoFar rest rest_passes (slots ++ slot ∷ [])
    closed_more pass slot there closed =
        let left = rest_long in
        let same = rest_same in
        let long = ap length is in
        let more = length-append rest (lock ∷ []) in
        let long_too = ap length is_too in
        let more_too = length-append rest_passes (place ∷ []) in
        let longer = length-append slots (slot ∷ []) in
        record {
          long = same;
          sum = omega (arith, left, longer);
          locks_are = λ k free inside. x.locks_are k free (omega (arith, long, more, inside))
              ∙ (ap (λ l. get_or l k free) is ∙ get_or_append_left rest (lock ∷ []) free k inside);
          passes_are = λ k inside. x.passes_are k (omega (arith, long_too, more_too, inside))
              ∙ (ap (λ l. get_or l k None) is_too ∙ get_or_append_left rest_passes (place ∷ []) None k inside);
          closed = λ k free d inside.
              each_more (λ k. IsClosedAt (get_or all_locks (63 - k) free) (get_or all_passes (63 - k) None) (get_or (slots ++ slot ∷ []) k d)) (length slots)
              (λ k under. subst (λ s. IsClosedAt (get_or all_locks (63 - k) free) (get_or all_passes (63 - k) None) s)
              (sym (get_or_append_left slots (slot ∷ []) d k under)) (x.closed k free d under))
              (let here : length rest ≡ 63 - length slots = omega (arith, left) in
              subst (λ n. IsClosedAt (get_or all_locks n free) (get_or all_passes n None) (get_or (slots ++ slot ∷ []) (length slots) d)) here
              (subst (λ l. IsClosedAt l (get_or all_passes (length rest) None) (get_or (slots ++ slot ∷ []) (length slots) d)) (sym (last_lock free))
              (subst (λ p. IsClosedAt lock p (get_or (slots ++ slot ∷ []) (length slots) d)) (sym (last_pass ∙ there))
              (subst (λ s. IsClosedAt lock (Some pass) s) (sym (get_or_at slots slot [] d (length slots) refl)) closed))))
              k (omega (arith, longer, inside));
        }

  -- at last all are closed
  pub closed_all : (locks : List (TurnLock (TurnedSlot D A))) (passes : List (Option (Pass (TurnedSlot D A)))) (slots : List (Slot D A))
      → length locks ≡ 0 → ClosedSoFar locks passes slots → AreClosed all_locks all_passes (reverse slots)
  closed_all locks passes slots none x =
      let sum = x.sum in
      let full : length slots ≡ 64 = omega (arith, none, sum) in
      record {
        count = length-reverse slots ∙ full;
        each = λ k lock d below.
            let inside : k < length slots = omega (arith, full, below) in
            let back : 63 - (length slots - 1 - k) ≡ k = omega (arith, full, below) in
            let under : length slots - 1 - k < length slots = omega (arith, full, below) in
            subst (λ s. IsClosedAt (get_or all_locks k lock) (get_or all_passes k None) s) (sym (get_or-reverse slots k d inside))
            (subst (λ n. IsClosedAt (get_or all_locks n lock) (get_or all_passes n None) (get_or slots (length slots - 1 - k) d)) back
            (x.closed (length slots - 1 - k) lock d under));
      }
