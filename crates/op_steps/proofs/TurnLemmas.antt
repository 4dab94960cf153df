-- A section of one slot of a store, as a step of the store.
use Rattle.std.proofs.Common.{◌≡◌, ◌<◌, ◌∙◌, ℕ, List, [], ◌∷◌, ◌++◌, Option, Some, None, get_or, length, option_to_list, set, append-nil, ap, refl, subst, sym, arith}
use Rattle.std.proofs.lemmas.List.{get_or-map, length-map, map-append, map-set}
use Rattle.audit_trail.specs.declared.entry.Entry.{Entry}
use Rattle.desk_base.specs.Telling.{Effect}
use Rattle.drive_base.specs.declared.drive.Drive.{Ghosts}
use Rattle.drive_base.specs.View.{DriveView}
use Rattle.drive_base.specs.declared.plan.SetPlan.{SetPlan}
use Rattle.slot_core.specs.Numbers.{NumbersMove}
use Rattle.slot_core.specs.declared.slot.Slot.{Slot}
use Rattle.slot_core.specs.declared.stub.Stub.{Stub}
use Rattle.receipts.specs.Events.{Log, Shown}
use Rattle.receipts.specs.Events.Event.{BarredFrom, Turned}
use Rattle.receipts.specs.declared.barred.Barred.{Barred}
use Rattle.op_steps.specs.Claims.{Claim}
use Rattle.op_steps.specs.Going.{AddsNotes, StepsSo}
use Rattle.op_steps.specs.Moves.{BarCause}
use Rattle.op_steps.specs.Notes.{note_of, noted, notes_by}
use Rattle.op_steps.specs.Steps.{IsSlotAt}
use Rattle.op_steps.specs.Store.{AreInOrder, FeedSeen, SlotSeen, TellerSeen, slot_seen, slots_seen, store_of}
use Rattle.op_steps.specs.Words.{BarredSo, SectionsSo, TurnsSo}
use Rattle.op_steps.specs.declared.next.OpNext.{OpNext}
use Rattle.op_steps.specs.declared.next.OpNext.TheVariants.{Section}
use Rattle.op_steps.proofs.SlotLemmas.{order_index, order_stays}

-- the stub of a section is kept behind the others
pub notes_kept : (stubs : List Stub) (stub : Option Stub) (k : ℕ) (shown : Shown) → AddsNotes (Turned k (noted stub) shown ∷ []) stubs (stubs ++ option_to_list stub)
notes_kept stubs None k shown = map-append note_of stubs []
notes_kept stubs (Some stub) k shown = map-append note_of stubs (stub ∷ [])

module _ {D A : Type 0} (entries : A → Option (List Entry)) (count : A → ℕ) where
  -- a slot is seen in its place
  pub seen_at : (slots : List (Slot D A)) (k : ℕ) (d : Slot D A) → k < length slots → IsSlotAt (slots_seen entries count slots) k (slot_seen entries count (get_or slots k d))
  seen_at slots k d inside = (
    let long = length-map slots (slot_seen entries count) in omega (arith, long, inside),
    λ e. get_or-map (slot_seen entries count) slots k d e inside,
  )

  -- slots stay in order where one of them goes on
  pub seen_order : (plan : SetPlan) (slots : List (Slot D A)) (k : ℕ) (d new : Slot D A) (old_disks new_disks : List DriveView) → k < length slots
      → AreInOrder plan (slots_seen entries count slots) old_disks
      → NumbersMove (slot_seen entries count (get_or slots k d)).numbers (slot_seen entries count new).numbers → length new_disks ≡ length old_disks
      → AreInOrder plan (slots_seen entries count (set slots k new)) new_disks
  seen_order plan slots k d new old_disks new_disks inside order moves long =
      subst (λ (l : List (SlotSeen D)). AreInOrder plan l new_disks) (sym (map-set (slot_seen entries count) slots k new))
      (order_stays plan (slots_seen entries count slots) old_disks new_disks k _ (slot_seen entries count new) order (seen_at slots k d inside) moves long)

  module _ (ghosts : Ghosts D) where
    -- what a section does to its slot it does in the store
    pub section_goes : (Old New : Claim → Log → Type 0) (plan : SetPlan) (slots : List (Slot D A)) (k : ℕ) (d new : Slot D A) (stub : Option Stub)
        (old_disks new_disks : List DriveView) → k < length slots → AreInOrder plan (slots_seen entries count slots) old_disks
        → TurnsSo ghosts Old New stub (slot_seen entries count (get_or slots k d)) (slot_seen entries count new) old_disks new_disks
        → SectionsSo ghosts Old New k stub (slots_seen entries count slots) (slots_seen entries count (set slots k new)) old_disks new_disks
    section_goes Old New plan slots k d new stub old_disks new_disks inside order turns claim log holds =
        let got = turns claim log holds in
        let at = seen_at slots k d inside in (
          got.0,
          got.1,
          slot_seen entries count (get_or slots k d),
          slot_seen entries count new,
          subst (λ i. New got.0 (log ++ Turned i (noted stub) got.1 ∷ []))
              (order_index plan (slots_seen entries count slots) old_disks k (slot_seen entries count (get_or slots k d)) order at) got.2,
          at,
          map-set (slot_seen entries count) slots k new,
          got.3,
        )

module _ {D T : Type 0} (ghosts : Ghosts D) (takes breaks : Effect T) where
  -- a section is one step, with its note
  pub turn_steps : (Old New : Claim → Log → Type 0) (plan : SetPlan) (next : OpNext) (k : ℕ) (stub : Option Stub) (old new : List (SlotSeen D)) (old_disks new_disks : List DriveView)
      (stubs later : List Stub) → next ≡ Section k → SectionsSo ghosts Old New k stub old new old_disks new_disks
      → later ≡ stubs ++ option_to_list stub → (feed : FeedSeen) (teller : TellerSeen T) → StepsSo ghosts takes breaks next Old New plan (λ claim. store_of old old_disks claim feed teller)
      (λ claim. store_of new new_disks claim feed teller) stubs later
  turn_steps Old New plan next k stub old new old_disks new_disks stubs later at sections kept feed teller claim log holds =
      let got = sections claim log holds in (
        got.0,
        Turned k (noted stub) got.1 ∷ [],
        got.4,
        (
          (at, refl),
          (
            store_of new new_disks got.0 feed teller,
            record {
              was = got.2;
              now = got.3;
              is = got.5;
              disks = new_disks;
              moves = got.7;
              leaves = ap (λ slots. store_of slots new_disks got.0 feed teller) got.6;
            },
            refl,
          ),
        ),
        subst (λ l. AddsNotes (Turned k (noted stub) got.1 ∷ []) stubs l) (sym kept) (notes_kept stubs stub k got.1),
      )

  -- a section that could not be done is one step, without a note
  pub bar_steps : (Old New : Claim → Log → Type 0) (plan : SetPlan) (next : OpNext) (k : ℕ) (why : Barred) (was : SlotSeen D) (slots : List (SlotSeen D)) (disks : List DriveView)
      (stubs later : List Stub) → IsSlotAt slots k was → BarCause why was.numbers → next ≡ Section k → BarredSo Old New next why → later ≡ stubs
      → (feed : FeedSeen) (teller : TellerSeen T) → StepsSo ghosts takes breaks next Old New plan (λ claim. store_of slots disks claim feed teller)
      (λ claim. store_of slots disks claim feed teller) stubs later
  bar_steps Old New plan next k why was slots disks stubs later is cause at barred kept feed teller claim log holds = (
    claim,
    BarredFrom k why ∷ [],
    barred claim log k at holds,
    ((at, refl), (store_of slots disks claim feed teller, record { was = was; is = is; cause = cause; leaves = refl }, refl)),
    ap notes_by kept ∙ sym (append-nil (notes_by stubs)),
  )
