-- A slot that a turn lock lent, and the pass after its turn.
use Rattle.std.proofs.Common.{◌≡◌, ◌<◌, ◌+◌, ◌∙◌, ℕ, Bool, false, true, List, [], ◌∷◌, ◌++◌, get_or, length, ap, sym, arith}
use Rattle.std.proofs.lemmas.List.{get_or-map}
use Rattle.drive_base.specs.declared.plan.SetPlan.{SetPlan}
use Rattle.slot_core.specs.Views.{numbers_of}
use Rattle.slot_core.specs.declared.slot.Slot.{Slot}
use Rattle.turn_lock.specs.Passes.{is_spent, made_with, seen_by, turns_of}
use Rattle.turn_lock.specs.declared.lock.TurnLock.{TurnLock}
use Rattle.turn_lock.specs.declared.pass.Pass.{Pass}
use Rattle.turn_lock.specs.declared.view.Turn.{Turn}
use Rattle.store_shared.specs.Among.{PassSeen, pass_seen, refused, with_turn}
use Rattle.store_shared.specs.Turned.{SlotName, made_slot, made_slots, name_of}
use Rattle.store_shared.specs.declared.shared.TurnedSlot.{TurnedSlot}

-- what is seen of a pass, part by part
abbrev seen_of : {D A : Type 0} → List (Turn (TurnedSlot D A)) → ℕ → Bool → PassSeen D A
seen_of turns seen spent = record { turns = turns; seen = seen; spent = spent }

abbrev slot_name : SetPlan → ℕ → SlotName
slot_name set index = record { set = set; index = index }

module _ {D A : Type 0} where
  -- the slot with which a lock of a desk was made is that of its place, of the desk's set
  pub desk_name : (set : SetPlan) (locks : List (TurnLock (TurnedSlot D A))) (k : ℕ) (lock : TurnLock (TurnedSlot D A)) → length locks ≡ 64 → k < 64
      → ((k : ℕ) (d : Slot D A) → k < 64 → (numbers_of (get_or (made_slots locks) k d)).index ≡ k)
      → ((k : ℕ) (d : Slot D A) → k < 64 → (numbers_of (get_or (made_slots locks) k d)).set ≡ set)
      → lock ≡ get_or locks k lock → name_of (made_with lock) ≡ record { set = set; index = k }
  desk_name set locks k lock long below index of_set is =
      let inside : k < length locks = omega (arith, long, below) in
      let there : get_or (made_slots locks) k (made_slot lock) ≡ made_slot lock =
      get_or-map made_slot locks k lock (made_slot lock) inside ∙ ap made_slot (sym is) in
      let same_set = ap (λ (s : Slot D A). (numbers_of s).set) (sym there) ∙ of_set k (made_slot lock) below in
      let same_index = ap (λ (s : Slot D A). (numbers_of s).index) (sym there) ∙ index k (made_slot lock) below in
      ap (λ s. slot_name s (numbers_of (made_slot lock)).index) same_set ∙ ap (slot_name set) same_index

  -- a pass after its turn has that turn more
  pub turn_seen : (own back : Pass (TurnedSlot D A)) (before : List (Turn (TurnedSlot D A))) (ticket : ℕ) (lent from to : TurnedSlot D A)
      → before ≡ turns_of own → lent ≡ from → turns_of back ≡ before ++ record { ticket = ticket; from = lent; to = to } ∷ []
      → seen_by back ≡ ticket + 1 → is_spent back ≡ false
      → pass_seen back ≡ with_turn (pass_seen own) (record { ticket = ticket; from = from; to = to })
  turn_seen own back before ticket lent from to had is made seen spent =
      let one : TurnedSlot D A → Turn (TurnedSlot D A) = (λ value. record { ticket = ticket; from = value; to = to }) in
      let turns = made ∙ (ap (λ b. b ++ one lent ∷ []) had ∙ ap (λ value. turns_of own ++ one value ∷ []) is) in
      ap (λ t. seen_of t (seen_by back) (is_spent back)) turns
      ∙ (ap (λ s. seen_of (turns_of own ++ one from ∷ []) s (is_spent back)) seen ∙ ap (seen_of (turns_of own ++ one from ∷ []) (ticket + 1)) spent)

  -- a pass for which there was no ticket is spent, and else as before
  pub refused_seen : (own back : Pass (TurnedSlot D A)) → turns_of back ≡ turns_of own → seen_by back ≡ seen_by own → is_spent back ≡ true
      → pass_seen back ≡ refused (pass_seen own)
  refused_seen own back turns seen spent =
      ap (λ t. seen_of t (seen_by back) (is_spent back)) turns
      ∙ (ap (λ s. seen_of (turns_of own) s (is_spent back)) seen ∙ ap (seen_of (turns_of own) (seen_by own)) spent)
