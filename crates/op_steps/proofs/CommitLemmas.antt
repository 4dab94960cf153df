-- A commit that ends no put is a step that leaves any claim.
use Rattle.std.proofs.Common.{◌≡◌, ◌∙◌, ℕ, List, Contains, Option, Some, None, Result, MatchOption, ap, inl, inr, refl, sym, subst, subst₂, arith}
use Rattle.std.proofs.lemmas.Option.{none-some}
use Rattle.stamp_id.specs.declared.version.VersionId.{VersionId}
use Rattle.audit_trail.specs.declared.entry.Entry.{Entry}
use Rattle.drive_base.specs.View.{views}
use Rattle.drive_base.specs.declared.drive.Drive.{Ghosts}
use Rattle.slot_history.specs.Contents.{NamedData}
use Rattle.slot_history.specs.Standing.{Flying, Records}
use Rattle.slot_history.specs.State.{State}
use Rattle.slot_data.specs.Disks.{Disks}
use Rattle.slot_data.specs.Holding.{Hands, Holding, IsInFlight, IsPinned, Pinned}
use Rattle.slot_data.specs.Standing.{IsListed}
use Rattle.slot_rules.specs.Deeds.{brings_of}
use Rattle.slot_rules.specs.declared.commit.Commit.{Commit}
use Rattle.slot_rules.specs.declared.commit.Committed.{Committed}
use Rattle.slot_core.specs.Commits.{CommitHolds, FitsFlight, MayCommitData, ShowsTrash}
use Rattle.slot_core.specs.Stubs.{entry_of}
use Rattle.slot_core.specs.Turns.{EntryMoves}
use Rattle.slot_core.specs.Views.{last_of, quorum_of}
use Rattle.slot_core.specs.declared.slot.SlotFault.{SlotFault}
use Rattle.slot_core.specs.declared.holding.Flight.{Flight}
use Rattle.slot_core.specs.declared.stub.Stub.{Stub}
use Rattle.receipts.specs.Events.Shown.{NoneShown}
use Rattle.drive_base.specs.View.{DriveView}
use Rattle.drive_base.specs.declared.plan.SetPlan.{SetPlan}
use Rattle.op_steps.specs.Claims.{Claim, HoldsAt, IsMet, among, claims_at, disks_of, hands_of}
use Rattle.op_steps.specs.Committing.{CommitIsTurn, CommitSays}
use Rattle.op_steps.specs.Moves.{ShowsBy, TurnLeaves}
use Rattle.op_steps.specs.Notes.{noted}
use Rattle.op_steps.specs.Store.{LanesStand, SlotSeen}
use Rattle.op_steps.proofs.CauseLemmas.{commit_turn_cause}
use Rattle.op_steps.proofs.ChangeLetterLemmas.{commit_letters}
use Rattle.op_steps.proofs.DataLemmas.{data_read, last_rises}
use Rattle.op_steps.proofs.MovesLemmas.{turn_moves}
use Rattle.op_steps.proofs.NoteLemmas.{audit_noted, calm_noted, entry_counts, entry_noted, same_entry}
use Rattle.op_steps.proofs.ClaimLemmas.{nothing_gained}

-- nothing is shown of the states
moves_bare : (slot : ℕ) (entry : Option Entry) (Shows : State → State → Type 0) (records after : Records) (state now : State)
    → EntryMoves slot entry Shows records state after now → EntryMoves slot entry (ShowsBy entry NoneShown) records state after now
moves_bare slot None Shows records after state now x = x
moves_bare slot (Some entry) Shows records after state now x = (x.0, tt)

-- a deed that comes without a put brings no data
abbrev is_flight : Option Flight → Type 0
is_flight None = ⊥
is_flight (Some flight) = Unit {0}

-- a put's flight comes with data that is brought, and with none else
abbrev BringsWith : Option Flight → Option NamedData → Type 0
BringsWith flight brought = MatchOption brought (flight ≡ None) (λ named. (f : Flight) × (flight ≡ Some f) × (f.id ≡ named.id))

brings_none : (deed : Commit) (named : NamedData) → FitsFlight deed None → brings_of deed ≡ Some named → ⊥
brings_none deed named fits is =
    let brought : BringsWith None (Some named) = subst (BringsWith None) is fits in
    subst is_flight (sym brought.1) tt

-- puts and pins stay where none ends
same_flights : (answer : Result Committed SlotFault) (old new : Holding) → CommitHolds None answer old new → new.flights ≡ old.flights
same_flights answer old new x = ap (λ (h : Holding). h.flights) x.holds ∙ x.ends

same_pins : (answer : Result Committed SlotFault) (old new : Holding) → CommitHolds None answer old new → new.pins ≡ old.pins
same_pins answer old new x = ap (λ (h : Holding). h.pins) x.holds

listed_on : (old new : Holding) (id : VersionId) → new.flights ≡ old.flights → new.pins ≡ old.pins → IsListed old id → IsListed new id
listed_on old new id flights pins (inl there) = inl (subst (λ (l : List Flying). IsInFlight l id) (sym flights) there)
listed_on old new id flights pins (inr there) = inr (subst (λ (l : List Pinned). IsPinned l id) (sym pins) there)

-- a claim that is met is met where the puts and the pins stay
pub met_on : (set : SetPlan) (old new : Holding) (unseen : Disks) (disks : List DriveView) (claim : Claim) → new.flights ≡ old.flights → new.pins ≡ old.pins
    → IsMet set old unseen disks claim → IsMet set new unseen disks claim
met_on set old new unseen disks claim flights pins x = record {
  flight = λ f is. subst (λ (l : List Flying). Contains l f) (sym flights) (x.flight f is);
  pin = λ p is. subst (λ (l : List Pinned). Contains l p) (sym pins) (x.pin p is);
  staged = x.staged;
  works = x.works;
  known = x.known;
  unwritten = x.unwritten;
}

module _ {D : Type 0} (ghosts : Ghosts D) where
  -- what a commit leaves of its lanes and of the slot's data
  commit_leaves : (was now : SlotSeen D) (deed : Commit) (at : ℕ) (answer : Result Committed SlotFault) (stub : Option Stub) (old new : List D) (claim : Claim)
      → CommitSays ghosts was now deed at answer stub old new → (records : Records) (state : State) → LanesStand ghosts.tells ghosts.files was records state
      → TurnLeaves ghosts was now (noted stub) NoneShown claim claim (views ghosts old) (views ghosts new) records state
  commit_leaves was now deed at answer stub old new claim x records state stands =
      let left = x.leaves records state stands in
      let flights = same_flights answer was.holding now.holding x.holds in
      let pins = same_pins answer was.holding now.holding x.holds in
      record {
        records_after = left.after;
        state_after = left.now;
        stands = left.stands;
        stay = left.stay;
        moves = subst (λ e. EntryMoves was.numbers.index e (ShowsBy e NoneShown) records state left.after left.now) (sym (same_entry stub))
            (moves_bare was.numbers.index (entry_of stub) (ShowsTrash deed answer was.holding.trash now.holding.trash) records left.after state left.now left.moves);
        calm = calm_noted (quorum_of was.numbers) stub records state left.after left.now left.calm;
        holds = λ unseen front rest d.
            let hands : Hands = hands_of (claims_at was.numbers.index (among front claim rest)) in
            let may : MayCommitData deed now.holding (disks_of unseen was.numbers.set.out (views ghosts old)) hands hands = record {
              known = λ named is. absurd (brings_none deed named x.fits is);
              goes_on = record {
                taken = λ id there. there;
                known = λ k there. there;
                listed = λ k there. listed_on was.holding now.holding k.named.id flights pins (d.stands.in_hand.listed k there);
              };
            } in
            let inner : HoldsAt was.numbers.set was.numbers.index (last_of now.numbers) now.holding unseen (views ghosts old) (among front claim rest) left.after left.now = record {
              tell = d.tell;
              stands = left.holds (disks_of unseen was.numbers.set.out (views ghosts old)) hands hands may d.stands;
              loose = λ k id inside in_use own above. d.loose k id inside in_use own
                  (let rises = last_rises was.numbers now.numbers x.turns.numbers in omega (arith, rises, above));
              met = λ c there. met_on was.numbers.set was.holding now.holding unseen (views ghosts old) c flights pins (d.met c there);
              apart = d.apart;
              flights_are = λ f there. d.flights_are f (subst (λ (l : List Flying). Contains l f) flights there);
              pins_are = λ p there. d.pins_are p (subst (λ (l : List Pinned). Contains l p) pins there);
            } in
            data_read now.numbers now.holding unseen (views ghosts old) (views ghosts new) (among front claim rest) (among front claim rest) left.after left.now
            x.read refl
            (subst₂ (λ s i. HoldsAt s i (last_of now.numbers) now.holding unseen (views ghosts old) (among front claim rest) left.after left.now)
            (sym x.turns.numbers.set) (sym x.turns.numbers.index) inner);
      }

  pub commit_is_turn : CommitIsTurn ghosts
  commit_is_turn was now deed at answer stub old new claim x = turn_moves ghosts was now (noted stub) NoneShown claim claim (views ghosts old) (views ghosts new) (
      record {
        numbers = x.turns.numbers;
        note_is = entry_noted was.numbers answer stub x.turns.stub_is;
        audit = audit_noted stub was.entries now.entries x.turns.audit;
        faults = entry_counts was.numbers answer stub was.faults now.faults x.turns.stub_is x.turns.faults;
        claims = record { slot = refl; elsewhere = λ other. refl };
        gains = nothing_gained was.numbers now.numbers was.holding now.holding claim;
        read = x.read;
        account = commit_turn_cause ghosts was now claim old new deed None at tt answer stub x.turns.stub_is x.says x.turns.spent.0 x.turns.faults
            (λ id is. absurd (none-some (x.checks.refused id is).0.0 (x.checks.refused id is).0.1)) (λ fault is id none. absurd (none-some id none)) x.cause;
        letters = commit_letters ghosts was now deed None at answer stub old new x.says x.cause;
        leaves = commit_leaves was now deed at answer stub old new claim x;
      })
