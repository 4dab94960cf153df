-- A connection over a rig that holds leaves one that holds.
use Rattle.std.proofs.Common.{◌≡◌, ◌<◌, ◌≤◌, ◌^◌, ◌∙◌, ◌+◌, ℕ, List, [], ◌++◌, Option, length, slice_index_or, inl, inr, refl, sym, ap, subst, arith}
use Rattle.std.proofs.lemmas.List.{length-map}
use Rattle.audit_trail.specs.declared.entry.Entry.{Entry}
use Rattle.drive_base.specs.View.{DriveView, views}
use Rattle.drive_base.specs.declared.drive.Drive.{Ghosts}
use Rattle.drive_base.specs.declared.plan.SetPlan.{SetPlan}
use Rattle.slot_core.specs.Views.{numbers_of}
use Rattle.slot_core.specs.declared.slot.Slot.{Slot}
use Rattle.slot_core.specs.declared.slot.SlotParts.{SlotParts}
use Rattle.slot_data.specs.Disks.{Disks}
use Rattle.log_laws.specs.Calling.{AllWent, CallsKeep, joined}
use Rattle.op_steps.specs.Claims.{disks_of as counted}
use Rattle.log_laws.specs.Laws.{AllLead}
use Rattle.op_steps.specs.Leading.{Standing}
use Rattle.log_laws.specs.Requests.{CallsComplete}
use Rattle.op_steps.specs.Steps.{IsSlotAt}
use Rattle.op_steps.specs.Store.{SlotSeen, slot_seen, slots_seen}
use Rattle.receipts.specs.Events.{Log}
use Rattle.store_shared.proofs.OrderLemmas.{seen_at, some_of}
use Rattle.store_shared.proofs.ShutLemmas.{shut_apart}
use Rattle.store_shared.proofs.OpeningLemmas.{opened_count}
use Rattle.store_shared.specs.Holders.{ClosedStoreHolds, IsLastUsed, IsTakenApart, KeptDrivesRest, OpenedStoreHolds, RigHolds}
use Rattle.store_shared.specs.Laws.{PassesAreInOrder}
use Rattle.store_shared.specs.Opening.{AreOpened, with_out}
use Rattle.store_shared.specs.Passes.{disks_of, set_of, slots_of}
use Rattle.store_shared.specs.declared.pass.StoreParts.{StoreParts}
use Rattle.ostore.specs.Lives.{LivesAreComplete, LivesGoOn}
use Rattle.ostore.specs.Logs.{pipe_logs}
use Rattle.ostore.proofs.PlaceLemmas.{opened_at}

-- whichever drives are out, terms are kept as before
last_of_set : (set : SetPlan) (out used : ℕ) (disks : List DriveView) → IsLastUsed (with_out set out) used disks → IsLastUsed set used disks
last_of_set set out used disks (inl none) = inl none
last_of_set set out used disks (inr kept) = inr (record { holders = kept.holders; enough = kept.enough; each = kept.each })

module _ {D A : Type 0} (ghosts : Ghosts D) (entries : A → Option (List Entry)) (count : A → ℕ) where
  -- and parts hold
  holds_of_set : (set : SetPlan) (used out : ℕ) (unseen : Disks) (at : ℕ → Standing) (parts : StoreParts D A)
      → RigHolds ghosts (with_out set out) used out unseen at parts → RigHolds ghosts set used out unseen at parts
  holds_of_set set used out unseen at parts x = record {
    disks = record {
      count = x.disks.count;
      tell = x.disks.tell;
      honest = x.disks.honest;
      last = last_of_set set out used (views ghosts parts.disks.items) x.disks.last;
    };
    lost_are = record { within = x.lost_are.within; lived = x.lost_are.lived; lack = x.lost_are.lack };
    manifests = x.manifests;
    slots = x.slots;
  }

  -- a slot that was opened under a term, and went on, is of that term
  low_terms : (set : SetPlan) (term : ℕ) (log : Log) (old : List (SlotParts D A)) (first last : List (Slot D A)) → AreOpened entries count set term 0 old first
      → length first ≡ length last → AllWent ghosts set log (slots_seen entries count first) (slots_seen entries count last)
      → (k : ℕ) (now : SlotSeen D) → IsSlotAt (slots_seen entries count last) k now → now.numbers.term ≤ term
  low_terms set term log old first last opened long went k now there =
      let counted_last = length-map last (slot_seen entries count) in
      let counted_old = opened_count entries count set term 0 old first opened in
      let within = there.0 in
      let behind : k < length last = omega (arith, within, counted_last) in
      let inside : k < length first = omega (arith, behind, long) in
      let before : k < length old = omega (arith, inside, counted_old) in
      let e = some_of first k inside in
      let d = some_of old k before in
      let is = opened_at entries count set term 0 old first opened k d e before in
      let goes = went k (slot_seen entries count (slice_index_or first k e)) now (seen_at entries count first k e inside) there in
      let same : now.numbers.term ≡ term = goes.term ∙ ap (λ n. n.term) is.numbers in
      omega (arith, same)

  pub lives_go_on : ((set : SetPlan) → CallsKeep ghosts set) → PassesAreInOrder ghosts entries count
      → OpenedStoreHolds ghosts entries count → KeptDrivesRest → ClosedStoreHolds A ghosts → LivesGoOn ghosts entries count
  lives_go_on keeps passes opens kept_rest closes clock rig after end wires wires_after run used lost unseen at holds serve =
      let opened = run.opened in
      let stop = run.stop in
      let set = rig.set in
      let out = run.opens.opened.out in
      let term = run.opens.opened.term in
      let logs = pipe_logs ghosts entries count clock opened stop end wires wires_after run.session in
      let first = slots_seen entries count (slots_of opened) in
      let last = slots_seen entries count (slots_of stop) in
      let before = views ghosts (disks_of opened) in
      let behind = views ghosts (disks_of stop) in
      let went = keeps (set_of opened) logs first before last behind (passes opened) run.calls in
      let order = passes opened in
      let later_order = went.in_order in
      let long : length (slots_of opened) ≡ length (slots_of stop) = sym (length-map (slots_of opened) (slot_seen entries count)) ∙ (order.count
      ∙ (sym later_order.count ∙ length-map (slots_of stop) (slot_seen entries count))) in
      let files = counted unseen lost before in
      let open_holds = opens set used lost unseen at run.parts opened run.opens holds serve in
      let later = run.holders files [] at open_holds.holds in
      let rest = kept_rest (set_of opened) term (set_of opened).out before behind run.drives open_holds.disks open_holds.lost_are in
      let left : StoreParts D A = record { slots = after.slots; disks = run.closed.row } in
      let low = low_terms (set_of opened) term (joined logs) run.parts.slots.items (slots_of opened) (slots_of stop) run.opens.slots long went.slots_went in
      let apart = shut_apart ghosts entries count stop left (record { slots = run.closed.slots; disks = run.closed.disks }) term low in
      let held = closes (set_of opened) term files last behind ([] ++ later.left) later.later left later_order rest.0 rest.1 later.holds apart in
      let of_opened : RigHolds ghosts (with_out set out) term out files later.later left =
      subst (λ (s : SetPlan). RigHolds ghosts s term s.out files later.later left) run.opens.set_is held in
      record {
        rises = open_holds.rises;
        later = later.later;
        lead = subst (λ (s : SetPlan). AllLead s (joined logs) at later.later) run.opens.set_is later.lead;
        rig = record {
          parts = left;
          are = record { slots = refl; disks = run.closed.rows };
          holds = subst (λ (s : SetPlan). RigHolds ghosts s term out files later.later left) (sym run.closed.set_is)
              (holds_of_set set term out files later.later left of_opened);
        };
      }

  pub lives_are_complete : ((set : SetPlan) → CallsComplete ghosts set) → PassesAreInOrder ghosts entries count → OpenedStoreHolds ghosts entries count
      → LivesAreComplete ghosts entries count
  lives_are_complete complete passes opens clock rig after end wires wires_after run used lost unseen at holds serve =
      let opened = run.opened in
      let stop = run.stop in
      let before = views ghosts (disks_of opened) in
      let open_holds = opens rig.set used lost unseen at run.parts opened run.opens holds serve in
      complete (set_of opened) (pipe_logs ghosts entries count clock opened stop end wires wires_after run.session) (slots_seen entries count (slots_of opened))
      before (slots_seen entries count (slots_of stop)) (views ghosts (disks_of stop)) (counted unseen lost before) [] at (passes opened) open_holds.holds run.calls
