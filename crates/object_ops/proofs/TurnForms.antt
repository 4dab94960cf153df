-- What a section leaves, as a step leaves it, the step of a section without a note, and how data goes on to hold where all is held as before.
use Rattle.std.proofs.Common.{◌≡◌, ◌≤◌, ℕ, List, Contains, Option, Some, None, Result, sym, subst, subst₂, arith}
use Rattle.audit_trail.specs.declared.entry.Entry.{Entry}
use Rattle.drive_base.specs.declared.drive.Drive.{Ghosts}
use Rattle.drive_base.specs.View.{DriveView}
use Rattle.drive_base.specs.declared.plan.SetPlan.{SetPlan}
use Rattle.drive_base.proofs.ViewLemmas.{untouched_are_only_read}
use Rattle.slot_history.specs.Standing.{Records}
use Rattle.slot_history.specs.State.{State}
use Rattle.slot_data.specs.Disks.{Disks}
use Rattle.slot_data.specs.Holding.{Hands, Holding}
use Rattle.slot_data.specs.Standing.{DataStands}
use Rattle.slot_core.specs.Sections.{ShowsNoMore}
use Rattle.slot_core.specs.Stubs.{entry_of}
use Rattle.slot_core.specs.Turns.{EntryMoves, Leaves, TurnLeaves as SectionLeaves, TurnsQuietly}
use Rattle.slot_core.specs.Views.{last_of, quorum_of}
use Rattle.slot_core.specs.declared.slot.SlotFault.{SlotFault}
use Rattle.slot_core.specs.declared.stub.Stub.{Stub}
use Rattle.receipts.specs.Events.Shown.{NoneShown}
use Rattle.op_steps.specs.Claims.{Claim, DataHolds, HoldsAt, IsMet, among, claims_at, disks_of, hands_of}
use Rattle.op_steps.specs.Moves.{ClaimGains, ClaimMoves, ShowsBy, TurnLeaves, TurnMoves}
use Rattle.op_steps.specs.Notes.{noted}
use Rattle.op_steps.specs.Store.{SlotSeen}
use Rattle.op_steps.proofs.NoteLemmas.{calm_noted, same_entry}

-- an entry moves the state, and nothing is said of what was shown
moves_bare : (slot : ℕ) (entry : Option Entry) (Shows : State → State → Type 0) (records after : Records) (state now : State)
    → EntryMoves slot entry Shows records state after now → EntryMoves slot entry (ShowsBy entry NoneShown) records state after now
moves_bare slot None Shows records after state now x = x
moves_bare slot (Some entry) Shows records after state now x = (x.0, tt)

-- where all is held as before, the data goes on to hold as it goes on to stand
pub holds_same : (set : SetPlan) (index last later : ℕ) (held holding : Holding) (unseen : Disks) (disks : List DriveView) (claims : List Claim)
    (records after : Records) (state then : State) → last ≤ later → holding ≡ held → HoldsAt set index last held unseen disks claims records state
    → DataStands set index later after then holding (disks_of unseen set.out disks) (hands_of (claims_at index claims))
    → HoldsAt set index later holding unseen disks claims after then
holds_same set index last later held holding unseen disks claims records after state then rises same d stands = record {
  tell = d.tell;
  stands = stands;
  loose = λ k id inside in_use own above. d.loose k id inside in_use own (omega (arith, rises, above));
  met = λ c there. subst (λ (h : Holding). IsMet set h unseen disks c) (sym same) (d.met c there);
  apart = d.apart;
  flights_are = λ f there. d.flights_are f (subst (λ (h : Holding). Contains h.flights f) same there);
  pins_are = λ p there. d.pins_are p (subst (λ (h : Holding). Contains h.pins p) same there);
}

module _ {D : Type 0} (ghosts : Ghosts D) (was now : SlotSeen D) where
  -- what a section leaves that shows nothing
  pub leaves_noted : (stub : Option Stub) (Shows : State → State → Type 0) (May : Disks → Hands → Hands → Type 0) (claim later : Claim) (old new : List DriveView)
      (records : Records) (state : State)
      → (left : SectionLeaves ghosts.tells ghosts.files was.numbers now.numbers was.holding now.holding now.lanes stub Shows May records state)
      → ((unseen : Disks) (front rest : List Claim) → DataHolds was.numbers was.holding unseen old (among front claim rest) records state
      → DataHolds now.numbers now.holding unseen new (among front later rest) left.after left.now)
      → TurnLeaves ghosts was now (noted stub) NoneShown claim later old new records state
  leaves_noted stub Shows May claim later old new records state left holds = record {
    records_after = left.after;
    state_after = left.now;
    stands = left.stands;
    stay = left.stay;
    moves = subst (λ e. EntryMoves was.numbers.index e (ShowsBy e NoneShown) records state left.after left.now) (sym (same_entry stub))
        (moves_bare was.numbers.index (entry_of stub) Shows records left.after state left.now left.moves);
    calm = calm_noted (quorum_of was.numbers) stub records state left.after left.now left.calm;
    holds = holds;
  }

  -- how the data goes on to hold with another claim, by how it goes on to stand
  abbrev pub HoldsOn : (Disks → Hands → Hands → Type 0) → List DriveView → Claim → Claim → Type 0
  HoldsOn May disks claim later = (unseen : Disks) (front rest : List Claim) (records after : Records) (state then : State)
      → HoldsAt was.numbers.set was.numbers.index (last_of was.numbers) was.holding unseen disks (among front claim rest) records state
      → ((hands more : Hands) → May (disks_of unseen was.numbers.set.out disks) hands more
      → DataStands was.numbers.set was.numbers.index (last_of was.numbers) records state was.holding (disks_of unseen was.numbers.set.out disks) hands
      → DataStands was.numbers.set was.numbers.index (last_of now.numbers) after then now.holding (disks_of unseen was.numbers.set.out disks) more)
      → HoldsAt was.numbers.set was.numbers.index (last_of now.numbers) now.holding unseen disks (among front later rest) after then

  -- a section without a note is a step
  pub quiet_turn : {T : Type 0} (answer : Result T SlotFault) (May : Disks → Hands → Hands → Type 0) (disks : List DriveView) (claim later : Claim)
      → TurnsQuietly was.numbers now.numbers was.entries now.entries was.faults now.faults answer None
      → Leaves ghosts.tells ghosts.files was.numbers now.numbers was.holding now.holding was.lanes now.lanes None ShowsNoMore May
      → ClaimMoves was.numbers.index claim later → ClaimGains was.numbers now.numbers was.holding now.holding claim later → HoldsOn May disks claim later
      → TurnMoves ghosts was now None NoneShown claim later disks disks
  quiet_turn answer May disks claim later turns leaves claims gains goes = record {
    numbers = turns.numbers;
    note_is = tt;
    audit = turns.audit;
    faults = turns.faults;
    claims = claims;
    gains = gains;
    read = untouched_are_only_read disks;
    cause = tt;
    letters = λ name change made. absurd made;
    complete = tt;
    leaves = λ records state stands.
        let left = leaves records state stands in
        leaves_noted None ShowsNoMore May claim later disks disks records state left (λ unseen front rest d.
        subst₂ (λ s i. HoldsAt s i (last_of now.numbers) now.holding unseen disks (among front later rest) left.after left.now)
        (sym turns.numbers.set) (sym turns.numbers.index)
        (goes unseen front rest records left.after state left.now d (left.holds (disks_of unseen was.numbers.set.out disks))));
  }
