-- A section that leaves what the slot holds in memory leaves the data of any claim.
use Rattle.std.proofs.Common.{◌≡◌, List, Contains, Option, refl, sym, subst, subst₂, arith}
use Rattle.drive_base.specs.View.{AllOnlyRead, DriveView}
use Rattle.drive_base.specs.declared.drive.Drive.{Ghosts}
use Rattle.receipts.specs.Events.{Shown}
use Rattle.slot_history.specs.Standing.{Records}
use Rattle.slot_history.specs.State.{State}
use Rattle.slot_data.specs.Holding.{Holding}
use Rattle.slot_core.specs.Hands.{HandsStay}
use Rattle.slot_core.specs.Numbers.{NumbersMove}
use Rattle.slot_core.specs.Stubs.{entry_of}
use Rattle.slot_core.specs.Turns.{EntryMoves, Leaves}
use Rattle.slot_core.specs.Views.{last_of, quorum_of}
use Rattle.slot_core.specs.declared.stub.Stub.{Stub}
use Rattle.op_steps.specs.Claims.{Claim, HoldsAt, IsMet, among, claims_at, disks_of, hands_of}
use Rattle.op_steps.specs.Moves.{ShowsBy, TurnLeaves}
use Rattle.op_steps.specs.Notes.{noted}
use Rattle.op_steps.specs.Store.{LanesStand, SlotSeen}
use Rattle.op_steps.proofs.DataLemmas.{data_read, last_rises}
use Rattle.op_steps.proofs.NoteLemmas.{calm_noted, same_entry}

module _ {D : Type 0} (ghosts : Ghosts D) where
  -- what such a section says, with the data drives that were only read
  pub record Stays (was now : SlotSeen D) (stub : Option Stub) (shown : Shown) (Shows : State → State → Type 0) (disks_old disks_new : List DriveView) : Type 0 where
    pub numbers : NumbersMove was.numbers now.numbers
    pub holds : now.holding ≡ was.holding
    pub leaves : Leaves ghosts.tells ghosts.files was.numbers now.numbers was.holding now.holding was.lanes now.lanes stub Shows HandsStay
    pub read : AllOnlyRead disks_old disks_new
    pub shows : (records after : Records) (state later : State) → EntryMoves was.numbers.index (entry_of stub) Shows records state after later
        → EntryMoves was.numbers.index (entry_of stub) (ShowsBy (entry_of stub) shown) records state after later

  pub stays_leave : (was now : SlotSeen D) (stub : Option Stub) (shown : Shown) (Shows : State → State → Type 0) (old new : List DriveView) (claim : Claim)
      → Stays was now stub shown Shows old new → (records : Records) (state : State) → LanesStand ghosts.tells ghosts.files was records state
      → TurnLeaves ghosts was now (noted stub) shown claim claim old new records state
  stays_leave was now stub shown Shows old new claim x records state stands =
      let left = x.leaves records state stands in
      record {
        records_after = left.after;
        state_after = left.now;
        stands = left.stands;
        stay = left.stay;
        moves = subst (λ e. EntryMoves was.numbers.index e (ShowsBy e shown) records state left.after left.now) (sym (same_entry stub))
            (x.shows records left.after state left.now left.moves);
        calm = calm_noted (quorum_of was.numbers) stub records state left.after left.now left.calm;
        holds = λ unseen front rest d.
            let inner : HoldsAt was.numbers.set was.numbers.index (last_of now.numbers) now.holding unseen old (among front claim rest) left.after left.now = record {
              tell = d.tell;
              stands = left.holds (disks_of unseen was.numbers.set.out old) (hands_of (claims_at was.numbers.index (among front claim rest)))
                  (hands_of (claims_at was.numbers.index (among front claim rest))) refl d.stands;
              loose = λ k id inside in_use own above. d.loose k id inside in_use own
                  (let rises = last_rises was.numbers now.numbers x.numbers in omega (arith, rises, above));
              met = λ c there. subst (λ h. IsMet was.numbers.set h unseen old c) (sym x.holds) (d.met c there);
              apart = d.apart;
              flights_are = λ f there. d.flights_are f (subst (λ (h : Holding). Contains h.flights f) x.holds there);
              pins_are = λ p there. d.pins_are p (subst (λ (h : Holding). Contains h.pins p) x.holds there);
            } in
            data_read now.numbers now.holding unseen old new (among front claim rest) (among front claim rest) left.after left.now x.read refl
            (subst₂ (λ s i. HoldsAt s i (last_of now.numbers) now.holding unseen old (among front claim rest) left.after left.now)
            (sym x.numbers.set) (sym x.numbers.index) inner);
      }
