-- Slots are closed, and parts moved, from the last one to the first, and stand in the other order then.
use Rattle.std.proofs.Common.{◌≡◌, ◌<◌, ◌^◌, ◌∙◌, ℕ, zero, suc, List, [], ◌∷◌, ◌++◌, Option, append-nil, append_assoc, length, reverse, slice_index_or, ap, refl, sym, subst, subst₂, arith}
use Rattle.std.proofs.lemmas.List.{length-map, reverse-append, reverse-reverse}
use Rattle.audit_trail.specs.declared.entry.Entry.{Entry}
use Rattle.drive_base.specs.View.{views}
use Rattle.drive_base.specs.declared.drive.Drive.{Ghosts}
use Rattle.slot_core.specs.Views.{numbers_of}
use Rattle.slot_core.specs.declared.slot.Slot.{Slot}
use Rattle.slot_core.specs.declared.slot.SlotParts.{SlotParts}
use Rattle.op_steps.specs.Steps.{IsSlotAt}
use Rattle.op_steps.specs.Store.{SlotSeen, slot_seen, slots_seen}
use Rattle.store_shared.specs.Closing.{IsPassApart, ShutBehind, SlotIsShut, SlotsAreShut, StoreIsShut}
use Rattle.store_shared.specs.Passes.{disks_of, slots_of}
use Rattle.store_shared.specs.declared.pass.PlainPass.{PlainPass}
use Rattle.store_shared.specs.declared.pass.StoreParts.{StoreParts}
use Rattle.store_shared.proofs.OrderLemmas.{seen_at, some_of}

module _ {D A : Type 0} where
  -- some slots of these were closed, from the last one on, and what they gave back stands behind what was there
  pub record ClosesSome (all left : List (Slot D A)) (old new : List (SlotParts D A)) : Type 0 where
    pub more : List (SlotParts D A)
    pub is : new ≡ old ++ more
    pub rest : (rest : List (SlotParts D A)) → SlotsAreShut (reverse left) rest → SlotsAreShut (reverse all) (more ++ rest)

  pub closes_none : (all : List (Slot D A)) (old : List (SlotParts D A)) → ClosesSome all all old old
  closes_none all old = record { more = []; is = sym (append-nil old); rest = λ rest closed. closed }

  pub closes_one : (all left next : List (Slot D A)) (slot : Slot D A) (parts : SlotParts D A) (old new after : List (SlotParts D A)) → ClosesSome all left old new
      → left ≡ next ++ slot ∷ [] → SlotIsShut slot parts → after ≡ new ++ parts ∷ [] → ClosesSome all next old after
  closes_one all left next slot parts old new after x is closed later = record {
    more = x.more ++ parts ∷ [];
    is = later ∙ (ap (λ l. l ++ parts ∷ []) x.is ∙ append_assoc old x.more (parts ∷ []));
    rest = λ rest others.
        let turned : reverse left ≡ slot ∷ reverse next = ap reverse is ∙ reverse-append next (slot ∷ []) in
        let whole : SlotsAreShut (slot ∷ reverse next) (parts ∷ rest) = (parts, rest, refl, closed, others) in
        subst (λ l. SlotsAreShut (reverse all) l) (sym (append_assoc x.more (parts ∷ []) rest))
        (x.rest (parts ∷ rest) (subst (λ l. SlotsAreShut l (parts ∷ rest)) (sym turned) whole));
  }

  pub closes_all : (all left : List (Slot D A)) (old new : List (SlotParts D A)) → ClosesSome all left old new → left ≡ [] → ShutBehind (reverse all) old new
  closes_all all left old new x none =
      let end : SlotsAreShut (reverse left) [] = subst (λ l. SlotsAreShut (reverse l) []) (sym none) refl in
      (x.more, x.is, subst (λ l. SlotsAreShut (reverse all) l) (append-nil x.more) (x.rest [] end))

-- the slots of a pass, which stood in the other order, were closed, and nothing was there before
pub is_shut : {D A : Type 0} (pass : PlainPass D A) (slots turned : List (Slot D A)) (home : List (SlotParts D A)) (parts : StoreParts D A) → slots ≡ slots_of pass
    → turned ≡ reverse slots → home ≡ [] → ShutBehind (reverse turned) home parts.slots.items → parts.disks.items ≡ disks_of pass → StoreIsShut pass parts
is_shut pass slots turned home parts are is empty (more, behind, shut) disks = record {
  slots = subst₂ (λ s l. SlotsAreShut s l) (ap reverse is ∙ (reverse-reverse slots ∙ are)) (sym (behind ∙ ap (λ l. l ++ more) empty)) shut;
  disks = disks;
}

-- some elements of these were moved, from the last one on, and stand behind what was there
pub record MovesSome {X : Type 0} (all left old new : List X) : Type 0 where
  pub more : List X
  pub is : new ≡ old ++ more
  pub rest : reverse all ≡ more ++ reverse left

pub moves_none : {X : Type 0} (all old : List X) → MovesSome all all old old
moves_none all old = record { more = []; is = sym (append-nil old); rest = refl }

pub moves_one : {X : Type 0} (all left next : List X) (x : X) (old new after : List X) → MovesSome all left old new → left ≡ next ++ x ∷ []
    → after ≡ new ++ x ∷ [] → MovesSome all next old after
moves_one all left next x old new after moved is later =
    let turned : reverse left ≡ x ∷ reverse next = ap reverse is ∙ reverse-append next (x ∷ []) in
    record {
      more = moved.more ++ x ∷ [];
      is = later ∙ (ap (λ l. l ++ x ∷ []) moved.is ∙ append_assoc old moved.more (x ∷ []));
      rest = moved.rest ∙ (ap (λ l. moved.more ++ l) turned ∙ sym (append_assoc moved.more (x ∷ []) (reverse next)));
    }

pub moves_all : {X : Type 0} (all left old new : List X) → MovesSome all left old new → left ≡ [] → new ≡ old ++ reverse all
moves_all all left old new moved none =
    let end : reverse left ≡ [] = ap reverse none in
    moved.is ∙ ap (λ l. old ++ l) (sym (moved.rest ∙ (ap (λ l. moved.more ++ l) end ∙ append-nil moved.more)))

-- a list without elements
pub none_left : {X : Type 0} (xs : List X) → length xs ≡ 0 → xs ≡ []
none_left [] none = refl
none_left (x ∷ xs) none = absurd (omega (arith, none))

-- as many were left as there were slots
pub shut_count : {D A : Type 0} (slots : List (Slot D A)) (parts : List (SlotParts D A)) → SlotsAreShut slots parts → length parts ≡ length slots
shut_count [] parts none = ap length none
shut_count (slot ∷ slots) parts (first, rest, is, shut, others) = ap length is ∙ ap suc (shut_count slots rest others)

-- what is in each place was left by the slot there
pub shut_at : {D A : Type 0} (slots : List (Slot D A)) (parts : List (SlotParts D A)) → SlotsAreShut slots parts → (k : ℕ) (e : Slot D A) (d : SlotParts D A)
    → k < length slots → SlotIsShut (slice_index_or slots k e) (slice_index_or parts k d)
shut_at [] parts none k e d inside = absurd (omega (arith, inside))
shut_at (slot ∷ slots) parts (first, rest, is, shut, others) zero e d inside =
    subst (λ (l : List (SlotParts _ _)). SlotIsShut slot (slice_index_or l 0 d)) (sym is) shut
shut_at (slot ∷ slots) parts (first, rest, is, shut, others) (suc k) e d inside =
    subst (λ (l : List (SlotParts _ _)). SlotIsShut (slice_index_or slots k e) (slice_index_or l (suc k) d)) (sym is)
    (shut_at slots rest others k e d (omega (arith, inside)))

module _ {D A : Type 0} (ghosts : Ghosts D) (entries : A → Option (List Entry)) (count : A → ℕ) where
  -- few numbers were drawn of any slot
  few_numbers : (slots : List (Slot D A)) (k : ℕ) (now : SlotSeen D) → IsSlotAt (slots_seen entries count slots) k now → now.numbers.seq < 2 ^ 64
  few_numbers slots k now there =
      let counted = length-map slots (slot_seen entries count) in
      let within = there.0 in
      let behind : k < length slots = omega (arith, within, counted) in
      let slot = slice_index_or slots k (some_of slots k behind) in
      let seen = seen_at entries count slots k (some_of slots k behind) behind in
      let same : now.numbers.seq ≡ (numbers_of slot).seq = ap (λ (s : SlotSeen D). s.numbers.seq) (sym (there.1 now) ∙ seen.1 now) in
      let few = slot.seq_fits in
      omega (arith, same, few)

  -- what is left of a store that was shut are its drives, and the lanes of its slots
  pub shut_apart : (pass : PlainPass D A) (parts : StoreParts D A) → StoreIsShut pass parts → IsPassApart ghosts entries count pass parts
  shut_apart pass parts shut used low = record {
    disks_are = ap (λ (l : List D). views ghosts l) shut.disks;
    lanes_are = λ k of there.
        let slots = slots_of pass in
        let counted = shut_count slots parts.slots.items shut.slots in
        let within = there.0 in
        let behind : k < length slots = omega (arith, within, counted) in
        let e = some_of slots k behind in
        let left = shut_at slots parts.slots.items shut.slots k e of behind in (
          slot_seen entries count (slice_index_or slots k e),
          seen_at entries count slots k e behind,
          ap (λ (p : SlotParts D A). p.lanes.items) (sym (there.1 of)) ∙ left.lanes,
        );
    low = low;
    fits = few_numbers (slots_of pass);
  }
