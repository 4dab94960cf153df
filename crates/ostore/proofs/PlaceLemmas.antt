-- Each slot of a store, from its opening to its close.
use Rattle.std.proofs.Common.{◌≡◌, ◌<◌, ◌∙◌, ◌+◌, ℕ, zero, suc, List, [], ◌∷◌, Option, length, slice_index_or, ap, sym, subst, arith}
use Rattle.std.proofs.lemmas.List.{get_or-map, length-map}
use Rattle.audit_trail.specs.declared.entry.Entry.{Entry}
use Rattle.drive_base.specs.View.{DriveView}
use Rattle.drive_base.specs.declared.drive.Drive.{Ghosts}
use Rattle.drive_base.specs.declared.plan.SetPlan.{SetPlan}
use Rattle.receipts.specs.Events.{Log}
use Rattle.slot_core.specs.Opening.{IsOpened}
use Rattle.slot_core.specs.Views.{numbers_of}
use Rattle.slot_core.specs.declared.slot.Slot.{Slot}
use Rattle.slot_core.specs.declared.slot.SlotParts.{SlotParts}
use Rattle.log_laws.specs.Calling.{AllWent}
use Rattle.op_steps.specs.Steps.{IsSlotAt}
use Rattle.op_steps.specs.Store.{AreInOrder, slot_seen, slots_seen}
use Rattle.store_shared.specs.Opening.{AreOpened}
use Rattle.store_shared.specs.Closing.{SlotsAreShut}
use Rattle.store_shared.proofs.OpeningLemmas.{opened_count}
use Rattle.store_shared.proofs.OrderLemmas.{seen_at, some_of}
use Rattle.store_shared.proofs.ShutLemmas.{shut_at}
use Rattle.ostore.specs.History.{AllRan, ClosedSlotRan}

module _ {D A : Type 0} (entries : A → Option (List Entry)) (count : A → ℕ) where
  -- the slot in each place is open over the lanes and the audit there
  pub opened_at : (set : SetPlan) (term index : ℕ) (all : List (SlotParts D A)) (slots : List (Slot D A)) → AreOpened entries count set term index all slots
      → (k : ℕ) (d : SlotParts D A) (e : Slot D A) → k < length all
      → IsOpened entries count set (index + k) term (slice_index_or all k d) (slice_index_or slots k e)
  opened_at set term index [] slots none k d e inside = absurd (omega (arith, inside))
  opened_at set term index (parts ∷ more) slots (slot, rest, is, opened, others) zero d e inside =
      let low : index ≡ index + 0 = omega arith in
      subst (λ (l : List (Slot D A)). IsOpened entries count set (index + 0) term parts (slice_index_or l 0 e)) (sym is)
      (subst (λ n. IsOpened entries count set n term parts slot) low opened)
  opened_at set term index (parts ∷ more) slots (slot, rest, is, opened, others) (suc k) d e inside =
      let same : index + 1 + k ≡ index + suc k = omega arith in
      subst (λ (l : List (Slot D A)). IsOpened entries count set (index + suc k) term (slice_index_or more k d) (slice_index_or l (suc k) e)) (sym is)
      (subst (λ n. IsOpened entries count set n term (slice_index_or more k d) (slice_index_or rest k e)) same
      (opened_at set term (index + 1) more rest others k d e (omega (arith, inside))))

module _ {D A : Type 0} (ghosts : Ghosts D) (entries : A → Option (List Entry)) (count : A → ℕ) where
  -- its index is its place
  index_at : (set : SetPlan) (slots : List (Slot D A)) (disks : List DriveView) → AreInOrder set (slots_seen entries count slots) disks
      → (k : ℕ) (e : Slot D A) → k < length slots → (numbers_of (slice_index_or slots k e)).index ≡ k
  index_at set slots disks order k e inside =
      let long = length-map slots (slot_seen entries count) in
      let d = slot_seen entries count e in
      ap (λ s. s.numbers.index) (sym (get_or-map (slot_seen entries count) slots k e d inside)) ∙ order.index k d (omega (arith, long, inside))

  -- slots that were opened, went on by a log and were closed each went through that run
  pub all_ran : (set : SetPlan) (term : ℕ) (log : Log) (old new : List (SlotParts D A)) (first last : List (Slot D A))
      (disks : List DriveView) → ClosedSlotRan entries count ghosts.tells ghosts.files → AreOpened entries count set term 0 old first
      → length first ≡ length last → AreInOrder set (slots_seen entries count last) disks
      → AllWent ghosts set log (slots_seen entries count first) (slots_seen entries count last) → SlotsAreShut last new
      → AllRan entries ghosts.tells ghosts.files set term log old new
  all_ran set term log old new first last disks law opened long order went closed k d inside =
      let counted = opened_count entries count set term 0 old first opened in
      let within : k < length first = omega (arith, counted, inside) in
      let behind : k < length last = omega (arith, long, within) in
      let e = some_of first k within in
      let left = shut_at last new closed k e d behind in
      let same : 0 + k ≡ k = omega arith in
      law set term k log (slice_index_or old k d) (slice_index_or new k d) (slice_index_or first k e) (slice_index_or last k e)
      (subst (λ n. IsOpened entries count set n term (slice_index_or old k d) (slice_index_or first k e)) same (opened_at entries count set term 0 old first opened k d e inside))
      (went k (slot_seen entries count (slice_index_or first k e)) (slot_seen entries count (slice_index_or last k e)) (seen_at entries count first k e within) (seen_at entries count last k e behind))
      (index_at set last disks order k e behind) left.lanes left.audit
