-- New locks, one after another.
use Rattle.std.proofs.Common.{◌≡◌, ◌<◌, ◌≤◌, ◌∙◌, ◌++◌, ℕ, List, [], ◌∷◌, Option, Some, None, cond, get_or, length, ltb, append_assoc, ap, refl, subst, sym, arith}
use Rattle.std.specs.Prelude.{All, map, option_map, reverse}
use Rattle.std.proofs.Math.Decide.{dec_le}
use Rattle.std.proofs.Math.Logic.{dite}
use Rattle.std.proofs.lemmas.Bool.{le-ltb, lt-ltb}
use Rattle.std.proofs.lemmas.List.{get_or-map, get_or_append_left, get_or_at, length-append, length-map, length-reverse, map-append, reverse-append}
use Rattle.slot_core.specs.declared.slot.Slot.{Slot}
use Rattle.turn_lock.specs.History.{IsHistory, tickets}
use Rattle.turn_lock.specs.Passes.{made_with, seen_by, turns_of}
use Rattle.turn_lock.specs.Tickets.{between, times}
use Rattle.turn_lock.specs.declared.lock.TurnLock.{TurnLock}
use Rattle.turn_lock.specs.declared.pass.Pass.{Pass}
use Rattle.turn_lock.specs.declared.view.Turn.{Turn}
use Rattle.store_shared.specs.Making.{AreFirst, unlocked}
use Rattle.store_shared.specs.Parting.{IsFirst, IsFirstAt, parts_in}
use Rattle.store_shared.specs.SharedPasses.{IsOfLock, pass_holds, passes_hold}
use Rattle.store_shared.specs.Turned.{made_slot, made_slots, name_of, turns_in}
use Rattle.store_shared.specs.declared.making.Fresh.{Fresh}
use Rattle.store_shared.specs.declared.shared.TurnedSlot.{TurnedSlot}
use Rattle.store_shared.proofs.PartingLemmas.{IsLocked, each_more}
use Rattle.store_shared.proofs.OrderLemmas.{some_of}

module _ {X : Type 0} (P : X → Type 0) where
  -- what holds of all elements holds of the first ones and of the last one
  pub all_front : (xs ys : List X) → All P (xs ++ ys) → All P xs
  all_front xs ys all k d inside =
      let long = length-append xs ys in
      subst P (get_or_append_left xs ys d k inside) (all k d (omega (arith, long, inside)))

  pub all_last : (xs : List X) (x : X) → All P (xs ++ x ∷ []) → P x
  all_last xs x all =
      let long = length-append xs (x ∷ []) in
      subst P (get_or_at xs x [] x (length xs) refl) (all (length xs) x (omega (arith, long)))

  pub all_more : (xs : List X) (x : X) → All P xs → P x → All P (xs ++ x ∷ [])
  all_more xs x all one k d inside =
      let long = length-append xs (x ∷ []) in
      each_more (λ k. P (get_or (xs ++ x ∷ []) k d)) (length xs)
      (λ k under. subst P (sym (get_or_append_left xs (x ∷ []) d k under)) (all k d under))
      (subst P (sym (get_or_at xs x [] d (length xs) refl)) one) k (omega (arith, long, inside))

  pub all_none : All P []
  all_none k d inside = absurd (omega (arith, inside))

-- no turn was made between two counts of turns where none was from the first one on
not_more : (first last : ℕ) → between first last first ≡ 0 → last ≤ first
not_more first last none = dite (dec_le last first) (λ low. low)
    (λ high.
    let above : first < last = omega (arith, high) in
    let one : between first last first ≡ 1 = ap (λ b. cond b 0 (cond (ltb first last) 1 0)) (le-ltb first first (omega arith))
    ∙ ap (λ b. cond b 1 0) (lt-ltb first last above) in
    absurd (omega (arith, none, one)))

-- a first pass has all parts, and is of its lock
pub first_parts : {D A : Type 0} (lock : TurnLock (TurnedSlot D A)) (place : Option (Pass (TurnedSlot D A))) → IsFirstAt lock place
    → parts_in (option_map pass_holds place) ≡ 65536
first_parts lock None first = absurd first
first_parts lock (Some pass) first = first.parts

locked_first : {D A : Type 0} (lock : TurnLock (TurnedSlot D A)) (place : Option (Pass (TurnedSlot D A))) → IsFirstAt lock place
    → IsOfLock lock (option_map pass_holds place)
locked_first lock None first = absurd first
locked_first lock (Some pass) first = first.of_lock

module _ {D A : Type 0} where
  -- the value of a lock of which no turn was made is the one that it was made with
  pub first_closed : (lock : TurnLock (TurnedSlot D A)) (pass : Pass (TurnedSlot D A)) (value : TurnedSlot D A) → IsFirst lock pass
      → seen_by pass ≤ turns_in value → IsHistory turns_in name_of (made_with lock) value (turns_of pass) → value ≡ made_with lock
  first_closed lock pass value x seen history =
      let first = made_with lock in
      let once : times (turns_in first) (tickets {T = TurnedSlot D A} []) ≡ between (turns_in first) (turns_in value) (turns_in first) =
      subst (λ (t : List (Turn (TurnedSlot D A))). times (turns_in first) (tickets t) ≡ between (turns_in first) (turns_in value) (turns_in first))
      x.turns (history.once (turns_in first)) in
      let low = not_more (turns_in first) (turns_in value) (sym once) in
      let saw = x.seen in
      let same : turns_in value ≡ turns_in first = omega (arith, low, seen, saw) in
      sym history.ends ∙ (ap history.at same ∙ history.begins)

  -- the slots behind locks of which there is one more
  pub unlocked_more : (fresh : List (Fresh D A)) (one : Fresh D A) → unlocked (fresh ++ one ∷ []) ≡ made_slot one.lock ∷ unlocked fresh
  unlocked_more fresh one =
      let slot : Fresh D A → Slot D A = (λ f. made_slot f.lock) in
      ap reverse (map-append slot fresh (one ∷ [])) ∙ reverse-append (map slot fresh) (slot one ∷ [])

  -- a slot goes from one list to the other
  pub slots_move : (slots : List (Slot D A)) (fresh rest : List (Fresh D A)) (one : Fresh D A) (slot : Slot D A) → fresh ≡ rest ++ one ∷ []
      → slot ≡ made_slot one.lock → (slots ++ slot ∷ []) ++ unlocked rest ≡ slots ++ unlocked fresh
  slots_move slots fresh rest one slot are same =
      append_assoc slots (slot ∷ []) (unlocked rest)
      ∙ (ap (λ s. slots ++ s ∷ unlocked rest) same ∙ ap (λ l. slots ++ l) (sym (ap unlocked are ∙ unlocked_more rest one)))

  pub made_move : (locks : List (TurnLock (TurnedSlot D A))) (fresh rest : List (Fresh D A)) (one : Fresh D A) → fresh ≡ rest ++ one ∷ []
      → made_slots (locks ++ one.lock ∷ []) ++ unlocked rest ≡ made_slots locks ++ unlocked fresh
  made_move locks fresh rest one are =
      ap (λ l. l ++ unlocked rest) (map-append made_slot locks (one.lock ∷ []))
      ∙ slots_move (made_slots locks) fresh rest one (made_slot one.lock) are refl

  pub first_none : AreFirst {D = D} {A = A} [] []
  first_none = record { long = refl; each = λ k lock inside. absurd (omega (arith, inside)) }

  -- locks with their first passes, of which there is one more
  pub first_more : (locks : List (TurnLock (TurnedSlot D A))) (passes : List (Option (Pass (TurnedSlot D A)))) (lock : TurnLock (TurnedSlot D A))
      (pass : Pass (TurnedSlot D A)) → AreFirst locks passes → IsFirst lock pass → AreFirst (locks ++ lock ∷ []) (passes ++ Some pass ∷ [])
  first_more locks passes lock pass x first =
      let long = x.long in
      let many = length-append locks (lock ∷ []) in
      let many_too = length-append passes (Some pass ∷ []) in
      record {
        long = omega (arith, long, many, many_too);
        each = λ k free inside.
            each_more (λ k. IsFirstAt (get_or (locks ++ lock ∷ []) k free) (get_or (passes ++ Some pass ∷ []) k None)) (length locks)
            (λ k under.
            let within : k < length passes = omega (arith, long, under) in
            subst (λ p. IsFirstAt (get_or (locks ++ lock ∷ []) k free) p) (sym (get_or_append_left passes (Some pass ∷ []) None k within))
            (subst (λ l. IsFirstAt l (get_or passes k None)) (sym (get_or_append_left locks (lock ∷ []) free k under)) (x.each k free under)))
            (subst (λ p. IsFirstAt (get_or (locks ++ lock ∷ []) (length locks) free) p) (sym (get_or_at passes (Some pass) [] None (length locks) long))
            (subst (λ l. IsFirstAt l (Some pass)) (sym (get_or_at locks lock [] free (length locks) refl)) first)) k (omega (arith, many, inside));
      }

  -- as many slots are behind locks as there are locks
  pub unlocked_long : (fresh : List (Fresh D A)) (slots : List (Slot D A)) → unlocked fresh ≡ slots → length fresh ≡ length slots
  unlocked_long fresh slots are =
      let slot : Fresh D A → Slot D A = (λ f. made_slot f.lock) in
      sym (length-reverse (map slot fresh) ∙ length-map fresh slot) ∙ ap length are

  pub made_long : (locks : List (TurnLock (TurnedSlot D A))) (slots : List (Slot D A)) → made_slots locks ≡ slots → length locks ≡ length slots
  made_long locks slots are = sym (length-map locks made_slot) ∙ ap length are

  pub first_all : (locks : List (TurnLock (TurnedSlot D A))) (passes : List (Option (Pass (TurnedSlot D A)))) → length locks ≡ 64 → AreFirst locks passes
      → (k : ℕ) → k < 64 → parts_in (get_or (passes_hold passes) k None) ≡ 65536
  first_all locks passes many x k below =
      let long = x.long in
      let inside : k < length locks = omega (arith, many, below) in
      let free = some_of locks k inside in
      ap parts_in (get_or-map (option_map pass_holds) passes k None None (omega (arith, long, many, below)))
      ∙ first_parts (get_or locks k free) (get_or passes k None) (x.each k free inside)

  -- locks and their first passes are a desk's
  pub first_locks : (locks : List (TurnLock (TurnedSlot D A))) (passes : List (Option (Pass (TurnedSlot D A)))) → length locks ≡ 64 → AreFirst locks passes
      → (k : ℕ) → k < 64 → IsLocked locks passes k
  first_locks locks passes many x k below lock =
      let inside : k < length locks = omega (arith, many, below) in
      locked_first (get_or locks k lock) (get_or passes k None) (x.each k lock inside)
