-- Slots that are opened from the last one to the first are open in the order of their indices.
use Rattle.std.proofs.Common.{◌≡◌, ◌<◌, ◌+◌, ◌∙◌, ℕ, zero, suc, List, [], ◌∷◌, ◌++◌, Option, length, reverse, slice_index_or, append-nil, append_assoc, ap, refl, subst, sym, arith}
use Rattle.std.proofs.lemmas.List.{get_or_append_left, length-append, reverse-append}
use Rattle.std.specs.Prelude.{Err}
use Rattle.audit_trail.specs.Entries.{CountsReserve}
use Rattle.audit_trail.specs.declared.audit.AuditFault.{AuditFault}
use Rattle.audit_trail.specs.declared.audit.AuditFault.TheVariants as audit
use Rattle.audit_trail.specs.declared.entry.Entry.{Entry}
use Rattle.drive_base.specs.declared.plan.SetPlan.{SetPlan}
use Rattle.slot_core.specs.Views.{numbers_of}
use Rattle.slot_core.specs.declared.slot.Slot.{Slot}
use Rattle.slot_core.specs.declared.slot.SlotParts.{SlotParts}
use Rattle.store_shared.specs.Opening.{AreOpened, AuditRefuses, OpensBehind, OpensOne, refusal_by}

module _ {D A : Type 0} (entries : A → Option (List Entry)) (count : A → ℕ) (set : SetPlan) (term : ℕ) where
  -- none are yet
  pub behind_none : (all : List (SlotParts D A)) (slots : List (Slot D A)) → slots ≡ [] → OpensBehind entries count set term all all slots
  behind_none all slots none = record { behind = []; all_is = sym (append-nil all); opened = ap reverse none }

  -- one more is
  pub behind_more : (all old new : List (SlotParts D A)) (slots_old slots_new : List (Slot D A)) → OpensBehind entries count set term all old slots_old
      → OpensOne entries count set term old new slots_old slots_new → OpensBehind entries count set term all new slots_new
  behind_more all old new slots_old slots_new x one =
      let long : length new + 1 ≡ length old = sym (ap length one.old_is ∙ length-append new (one.parts ∷ [])) in
      record {
        behind = one.parts ∷ x.behind;
        all_is = x.all_is ∙ (ap (λ l. l ++ x.behind) one.old_is ∙ append_assoc new (one.parts ∷ []) x.behind);
        opened = (
          one.slot,
          reverse slots_old,
          ap reverse one.slots_are ∙ reverse-append slots_old (one.slot ∷ []),
          one.opened,
          subst (λ n. AreOpened entries count set term n x.behind (reverse slots_old)) (sym long) x.opened,
        );
      }

  -- all are
  pub behind_all : (all front : List (SlotParts D A)) (slots : List (Slot D A)) → OpensBehind entries count set term all front slots → front ≡ []
      → AreOpened entries count set term 0 all (reverse slots)
  behind_all all front slots x none =
      let is : x.behind ≡ all = sym (x.all_is ∙ ap (λ l. l ++ x.behind) none) in
      let low : length front ≡ 0 = ap length none in
      subst (λ l. AreOpened entries count set term 0 l (reverse slots)) is
      (subst (λ n. AreOpened entries count set term n x.behind (reverse slots)) low x.opened)

  -- there are as many, each of its index and of the set
  pub opened_count : (index : ℕ) (all : List (SlotParts D A)) (slots : List (Slot D A)) → AreOpened entries count set term index all slots
      → length slots ≡ length all
  opened_count index [] slots none = ap length none
  opened_count index (parts ∷ more) slots (slot, rest, is, opened, others) = ap length is ∙ ap suc (opened_count (index + 1) more rest others)

  pub opened_index : (index : ℕ) (all : List (SlotParts D A)) (slots : List (Slot D A)) → AreOpened entries count set term index all slots
      → (k : ℕ) (d : Slot D A) → k < length slots → (numbers_of (slice_index_or slots k d)).index ≡ index + k
  opened_index index [] slots none k d inside =
      absurd (let long : length slots ≡ 0 = ap length none in omega (arith, long, inside))
  opened_index index (parts ∷ more) slots (slot, rest, is, opened, others) zero d inside =
      ap (λ (l : List (Slot D A)). (numbers_of (slice_index_or l 0 d)).index) is ∙ (ap (λ n. n.index) opened.numbers ∙ omega arith)
  opened_index index (parts ∷ more) slots (slot, rest, is, opened, others) (suc k) d inside =
      let long : length slots ≡ suc (length rest) = ap length is in
      ap (λ (l : List (Slot D A)). (numbers_of (slice_index_or l (suc k) d)).index) is
      ∙ (opened_index (index + 1) more rest others k d (omega (arith, long, inside)) ∙ omega arith)

  pub opened_set : (index : ℕ) (all : List (SlotParts D A)) (slots : List (Slot D A)) → AreOpened entries count set term index all slots
      → (k : ℕ) (d : Slot D A) → k < length slots → (numbers_of (slice_index_or slots k d)).set ≡ set
  opened_set index [] slots none k d inside =
      absurd (let long : length slots ≡ 0 = ap length none in omega (arith, long, inside))
  opened_set index (parts ∷ more) slots (slot, rest, is, opened, others) zero d inside =
      ap (λ (l : List (Slot D A)). (numbers_of (slice_index_or l 0 d)).set) is ∙ ap (λ n. n.set) opened.numbers
  opened_set index (parts ∷ more) slots (slot, rest, is, opened, others) (suc k) d inside =
      let long : length slots ≡ suc (length rest) = ap length is in
      ap (λ (l : List (Slot D A)). (numbers_of (slice_index_or l (suc k) d)).set) is ∙ opened_set (index + 1) more rest others k d (omega (arith, long, inside))

-- what is so of all is so of those in front
pub front_lanes : {D A : Type 0} (n : ℕ) (front : List (SlotParts D A)) (parts : SlotParts D A) (all : List (SlotParts D A)) → all ≡ front ++ parts ∷ []
    → ((k : ℕ) (d : SlotParts D A) → k < length all → length (slice_index_or all k d).lanes.items ≡ n)
    → (k : ℕ) (d : SlotParts D A) → k < length front → length (slice_index_or front k d).lanes.items ≡ n
front_lanes n front parts all is lanes k d inside =
    let long : length all ≡ length front + 1 = ap length is ∙ length-append front (parts ∷ []) in
    ap (λ (p : SlotParts _ _). length p.lanes.items) (sym (ap (λ l. slice_index_or l k d) is ∙ get_or_append_left front (parts ∷ []) d k inside))
    ∙ lanes k d (omega (arith, long, inside))

-- why an audit refused
pub refuses : (fault : AuditFault) (old new : ℕ) → CountsReserve {T = Unit {0}} (Err fault) old new → AuditRefuses (refusal_by fault old new) old new
refuses audit.Failed old new rose = (refl, refl, rose)
refuses audit.NoMemory old new same = same
