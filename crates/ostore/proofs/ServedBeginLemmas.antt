-- Over a rig that holds a run of `serve` begins a history in each slot.
use Rattle.std.proofs.Common.{◌≡◌, ◌<◌, ◌∙◌, ◌+◌, ℕ, List, [], Option, length, slice_index_or, refl, sym, ap, subst, arith}
use Rattle.audit_trail.specs.declared.entry.Entry.{Entry}
use Rattle.drive_base.specs.declared.drive.Drive.{Ghosts}
use Rattle.drive_base.specs.declared.plan.SetPlan.{SetPlan}
use Rattle.io_base.specs.declared.door.Door.{Ghosts as DoorGhosts}
use Rattle.io_base.specs.declared.sink.Sink.{Ghosts as SinkGhosts}
use Rattle.io_base.specs.declared.source.Source.{Ghosts as SourceGhosts}
use Rattle.slot_data.specs.Holding.{Holding}
use Rattle.slot_core.specs.Opening.{IsOpened, opened_numbers}
use Rattle.slot_core.specs.Standing.{SlotStands}
use Rattle.slot_core.specs.Views.{SlotNumbers}
use Rattle.slot_core.specs.declared.slot.Slot.{Slot}
use Rattle.slot_core.specs.declared.slot.SlotParts.{SlotParts}
use Rattle.op_steps.specs.Leading.{Standing}
use Rattle.op_steps.specs.Store.{LanesStand, slot_seen}
use Rattle.store_shared.specs.Holders.{OpenedStoreHolds}
use Rattle.store_shared.specs.Opening.{AreOpened}
use Rattle.store_shared.specs.Passes.{set_of, slots_of}
use Rattle.store_shared.proofs.OpeningLemmas.{opened_count}
use Rattle.ostore.specs.History.{LanesBegin}
use Rattle.ostore.specs.ServedLaws.{ServesBegin}
use Rattle.ostore.proofs.PlaceLemmas.{opened_at}
use Rattle.store_shared.proofs.OrderLemmas.{seen_at, some_of}

module _ {D A : Type 0} (ghosts : Ghosts D) (entries : A → Option (List Entry)) (count : A → ℕ) where
  -- the lanes of a slot that was opened, and stands for a state, are those from which a history begins
  lanes_begin : (set : SetPlan) (term k : ℕ) (parts : SlotParts D A) (slot : Slot D A) (at : Standing) → IsOpened entries count set k term parts slot
      → LanesStand ghosts.tells ghosts.files (slot_seen entries count slot) at.records at.state
      → LanesBegin entries ghosts.tells ghosts.files set k term parts.lanes.items at
  lanes_begin set term k parts slot at is stands =
      let of_numbers = subst (λ (n : SlotNumbers). SlotStands ghosts.tells ghosts.files n (slot_seen entries count slot).holding.flights (slot_seen entries count slot).lanes at.records at.state)
      is.numbers stands in
      let of_none = subst (λ (h : Holding). SlotStands ghosts.tells ghosts.files (opened_numbers set k term) h.flights (slot_seen entries count slot).lanes at.records at.state) is.holding of_numbers in
      let own = subst (λ (l : List D). SlotStands ghosts.tells ghosts.files (opened_numbers set k term) [] l at.records at.state) is.lanes of_none in
      record { have = own.have; stands = own.stands }

module _ (R G C : Type 0) {D A O S T Root : Type 0} (ghosts : Ghosts D) (root : D → Root) (entries : A → Option (List Entry)) (count : A → ℕ) (door : DoorGhosts O S T) (source : SourceGhosts S)
    (sink : SinkGhosts T) where
  pub serves_begin : OpenedStoreHolds ghosts entries count → ServesBegin R G C ghosts root entries count door source sink
  serves_begin opens moment clock rig doors faults faults_after ended x used lost unseen at holds serve =
      let set = set_of x.opened in
      let term = x.opens.opened.term in
      let slots = slots_of x.opened in
      let many = x.opened.count in
      let counted = opened_count entries count set term 0 x.parts.slots.items slots x.opens.slots in
      let of_rig = ap length x.are.slots in
      let olds : length rig.slots.items ≡ 64 = omega (arith, counted, of_rig, many) in
      let held = opens rig.set used lost unseen at x.parts x.opened x.opens holds serve in (
        held.rises,
        λ k d inside.
            let within : k < length slots = omega (arith, many, inside) in
            let e = some_of slots k within in
            let same : 0 + k ≡ k = omega arith in
            let is = subst (λ n. IsOpened entries count set n term (slice_index_or rig.slots.items k d) (slice_index_or slots k e)) same
            (opened_at entries count set term 0 rig.slots.items slots (subst (λ l. AreOpened entries count set term 0 l slots) x.are.slots x.opens.slots) k d e
            (omega (arith, olds, inside))) in
            lanes_begin ghosts entries count set term k (slice_index_or rig.slots.items k d) (slice_index_or slots k e) (at k) is
            (held.holds k (slot_seen entries count (slice_index_or slots k e)) (seen_at entries count slots k e within)).stands,
      )
