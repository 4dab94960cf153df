-- The commit of a put, as a step: its data has its holders, and nothing is held of the slot after it.
use Rattle.std.proofs.Common.{◌≡◌, ◌∙◌, ℕ, List, [], ◌∷◌, Contains, Option, Some, Result, Ok, Err, inl, inr, refl, sym, ap, subst, subst₂}
use Rattle.std.proofs.lemmas.List.Elements.{Contains-append_left, Contains-push}
use Rattle.call_types.specs.declared.names.Key.{Key}
use Rattle.call_types.specs.declared.names.Mode.{Mode}
use Rattle.drive_base.specs.View.{views}
use Rattle.drive_base.specs.declared.drive.Drive.{Ghosts}
use Rattle.drive_base.specs.declared.plan.SetPlan.{SetPlan}
use Rattle.put_stage.specs.TakenBodies.{HasTaken}
use Rattle.stamp_id.specs.declared.version.VersionId.{VersionId}
use Rattle.put_stage.specs.declared.stage.Stage.{Stage}
use Rattle.put_stage.specs.declared.answers.Staged.{Staged}
use Rattle.register_core.specs.declared.faults.QuorumFault.{QuorumFault}
use Rattle.slot_history.specs.Contents.{NamedData}
use Rattle.slot_history.specs.Names.{key_name}
use Rattle.slot_history.specs.Standing.{Flying, Records}
use Rattle.slot_history.specs.State.{State, TakesOut}
use Rattle.slot_data.specs.Disks.{Disks, HasHolders}
use Rattle.slot_data.specs.Holding.{Hands, Holding, IsInFlight, IsPinned, Known, Pinned}
use Rattle.slot_data.specs.Moves.{with_known}
use Rattle.slot_data.specs.Standing.{DataStands, IsListed}
use Rattle.slot_data.proofs.HandsLemmas.{holders_are_known}
use Rattle.slot_rules.specs.declared.commit.Commit.{Commit}
use Rattle.slot_rules.specs.declared.commit.Committed.{Committed}
use Rattle.slot_core.specs.CommitCauses.{CommitCause, deed_in}
use Rattle.slot_core.specs.Commits.{ChecksFlight, CommitHolds, MayCommitData, NothingBegun, SaysCommit, ShowsTrash}
use Rattle.slot_core.specs.Stubs.{Says, entry_of}
use Rattle.slot_core.specs.Turns.{Leaves, Turns}
use Rattle.slot_core.specs.Views.{last_of}
use Rattle.slot_core.specs.declared.slot.SlotFault.{SlotFault}
use Rattle.slot_core.specs.declared.slot.SlotFault.TheVariants.{NotInFlight, Quorum}
use Rattle.slot_core.specs.declared.holding.Flight.{Flight}
use Rattle.slot_core.specs.declared.stub.Stub.{Stub}
use Rattle.receipts.specs.Events.Shown.{NoneShown}
use Rattle.op_steps.specs.Causes.{IsPutOf}
use Rattle.op_steps.specs.Claims.{Claim, DisksTell, HoldsAt, IsMet, among, claims_at, disks_of, hands_of, no_claim}
use Rattle.op_steps.specs.Looking.{AreOnlyRead}
use Rattle.op_steps.specs.Moves.{TurnLeaves, TurnMoves}
use Rattle.op_steps.specs.Notes.{noted}
use Rattle.op_steps.specs.Store.{LanesStand, SlotSeen}
use Rattle.op_steps.proofs.Accounts.{IsNotUnlisted}
use Rattle.op_steps.proofs.CauseLemmas.{commit_turn_cause}
use Rattle.op_steps.proofs.DataLemmas.{data_read, last_rises}
use Rattle.op_steps.proofs.ChangeLetterLemmas.{commit_letters}
use Rattle.op_steps.proofs.MovesLemmas.{turn_moves}
use Rattle.op_steps.proofs.NoteLemmas.{audit_noted, entry_counts, entry_noted}
use Rattle.op_steps.proofs.ClaimLemmas.{nothing_held}
use Rattle.object_ops.specs.Put.{PutAsk}
use Rattle.object_ops.specs.PutStands.{ClaimsSo, HoldsPut, IsStageOf}
use Rattle.object_ops.specs.PutOutcome.{Answers}
use Rattle.object_ops.specs.PutTarget.{deed_of, key_of, register_of}
use Rattle.object_ops.proofs.PutTargets.{deed_brings, deed_name}
use Rattle.object_ops.proofs.PutEnds.{IsPutClaim, ends_hold, is_listed, none_knows, stays}
use Rattle.object_ops.proofs.PutHolders.{has_holders}
use Rattle.object_ops.proofs.PutMine.{met_mine}
use Rattle.object_ops.proofs.TurnForms.{leaves_noted}

some_named : (a b : NamedData) → Some a ≡ Some b → a ≡ b
some_named a b e = cc

some_flying : (a b : Flying) → Some a ≡ Some b → a ≡ b
some_flying a b e = cc

-- the claim of a put is that of its flying
pub put_claim : (at : Key) (flight : Flight) (claim : Claim) (index : ℕ) → claim.slot ≡ index → HoldsPut at flight claim
    → IsPutClaim index (record { id = flight.id; name = key_name at }) claim
put_claim at flight claim index own held = record {
  own = own;
  flies = held.flight_is;
  pinless = held.pinless;
  none_taken = held.none_taken;
  none_known = held.none_known;
}

same_flight : (a b : Flight) → Some a ≡ Some b → a ≡ b
same_flight a b same = cc

module _ {D : Type 0} (ghosts : Ghosts D) where
  -- what the commit of a put says
  pub record PutSays (was now : SlotSeen D) (deed : Commit) (at : ℕ) (flight : Flight) (answer : Result Committed SlotFault) (stub : Option Stub) (old new : List D) : Type 0 where
    pub turns : Turns was.numbers now.numbers was.entries now.entries was.faults now.faults answer stub
    pub says : Says stub (SaysCommit deed at answer)
    pub holds : CommitHolds (Some flight) answer was.holding now.holding
    pub checks : ChecksFlight (Some flight) was.holding answer
    pub cause : CommitCause ghosts was.numbers now.numbers deed (Some flight.id) at answer (deed_in (entry_of stub))
        was.lanes now.lanes old new
    pub leaves : Leaves ghosts.tells ghosts.files was.numbers now.numbers was.holding now.holding was.lanes now.lanes stub
        (ShowsTrash deed answer was.holding.trash now.holding.trash) (MayCommitData deed now.holding)
    pub read : AreOnlyRead ghosts old new

  module _ (was now : SlotSeen D) (ask : PutAsk) (flight : Flight) (stage : Stage) (staged : Staged) (mode : Mode) (at : ℕ) (answer : Result Committed SlotFault)
      (stub : Option Stub) (old new : List D) (claim : Claim) (body : List ℕ) (shards : List (List (List ℕ))) (set_is : was.numbers.set ≡ ask.set)
      (own : claim.slot ≡ was.numbers.index) (of : IsStageOf ask flight stage) (taken : HasTaken stage.load body shards) (whole : stage.load.left ≡ 0)
      (answers : Answers stage (Ok staged)) (held : HoldsPut (key_of ask.target) flight claim) (claims : ClaimsSo stage shards flight.id claim)
      (x : PutSays was now (deed_of ask.target mode flight.id staged) at flight answer stub old new) where
    abbrev f : Flying
    f = record { id = flight.id; name = key_name (key_of ask.target) }

    abbrev deed : Commit
    deed = deed_of ask.target mode flight.id staged

    abbrev index : ℕ
    index = was.numbers.index

    abbrev data_now : NamedData
    data_now = record { id = flight.id; print = staged.print; size = staged.length }

    abbrev this : Known
    this = record { named = data_now; name = register_of ask.target }

    is_put : IsPutClaim index f claim
    is_put = put_claim (key_of ask.target) flight claim index own held

    module _ (unseen : Disks) (front rest : List Claim) (records after : Records) (state then : State)
        (d : HoldsAt was.numbers.set index (last_of was.numbers) was.holding unseen (views ghosts old) (among front claim rest) records state) where
      abbrev disks : Disks
      disks = disks_of unseen was.numbers.set.out (views ghosts old)

      abbrev hands : Hands
      hands = hands_of (claims_at index (among front claim rest))

      listed_there : Contains was.holding.flights f
      listed_there = is_listed was.numbers.set index (last_of was.numbers) (last_of now.numbers) was.holding now.holding unseen (views ghosts old) front rest claim f
          records after state then (last_rises was.numbers now.numbers x.turns.numbers) is_put d

      met : IsMet was.numbers.set was.holding unseen (views ghosts old) claim
      met = met_mine was.numbers.set index (last_of was.numbers) was.holding unseen (views ghosts old) front rest claim f records state own held.flight_is
          held.none_known d

      -- the data is known to have its holders
      known_stands : DataStands was.numbers.set index (last_of was.numbers) records state was.holding disks (with_known hands this)
      known_stands = by claims
        where
          by : ClaimsSo stage shards flight.id claim → DataStands was.numbers.set index (last_of was.numbers) records state was.holding disks (with_known hands this)
          by (staging, staged_is, inl apart) =
              let put = met.staged staging staged_is in
              absurd (apart (put.2 ∙ ap (λ (g : Flying). g.id) (some_flying put.0 f (sym put.1 ∙ held.flight_is))))
          by (staging, staged_is, inr works) =
              holders_are_known was.numbers.set index (last_of was.numbers) records state was.holding disks hands this
              (inl (record { flight = f; there = listed_there; id_is = refl }))
              (subst (λ (p : SetPlan). HasHolders p (disks_of unseen p.out (views ghosts old)) data_now (register_of ask.target)) (sym set_is)
              (has_holders ask flight stage staged body shards claim staging of taken whole answers staged_is works held was.holding unseen (views ghosts old)
              (subst (λ (p : SetPlan). DisksTell p (views ghosts old)) set_is d.tell)
              (subst (λ (p : SetPlan). IsMet p was.holding unseen (views ghosts old) claim) set_is met)))
              d.stands

      -- the put ends
      module _ (g : Flying) (same : g.id ≡ flight.id) (takes : TakesOut g was.holding.flights now.holding.flights) (pins : now.holding.pins ≡ was.holding.pins) where
        still_listed : (k : Known) → Contains hands.known k → IsListed now.holding k.named.id
        still_listed k there = elim (d.stands.in_hand.listed k there) [
          | inl flying ↦ inl (record {
            flight = flying.flight;
            there = stays was.numbers.set index (last_of was.numbers) (last_of now.numbers) was.holding now.holding unseen (views ghosts old) front rest claim f
                records after state then (last_rises was.numbers now.numbers x.turns.numbers) is_put d g now.holding.flights same takes flying.flight flying.there
                (λ is. none_knows was.numbers.set index (last_of was.numbers) (last_of now.numbers) was.holding now.holding unseen (views ghosts old) front rest claim f
                records after state then (last_rises was.numbers now.numbers x.turns.numbers) is_put d k there (sym flying.id_is ∙ is));
            id_is = flying.id_is;
          })
          | inr pinned ↦ inr (subst (λ (l : List Pinned). IsPinned l k.named.id) (sym pins) pinned)
        ]

        may : MayCommitData deed now.holding disks (with_known hands this) hands
        may = record {
          known = λ given is. subst₂ (λ (n : NamedData) (name : List ℕ). Contains (with_known hands this).known (record { named = n; name = name }))
              (some_named data_now given (sym (deed_brings ask.target mode flight.id staged) ∙ is)) (sym (deed_name ask.target mode flight.id staged))
              (Contains-push hands.known this);
          goes_on = record {
            taken = λ id there. there;
            known = λ k there. Contains-append_left hands.known (this ∷ []) k there;
            listed = still_listed;
          };
        }

        pub commit_holds : ((later : Hands) → MayCommitData deed now.holding disks (with_known hands this) later
            → DataStands was.numbers.set index (last_of was.numbers) records state was.holding disks (with_known hands this)
            → DataStands was.numbers.set index (last_of now.numbers) after then now.holding disks later)
            → HoldsAt was.numbers.set index (last_of now.numbers) now.holding unseen (views ghosts old) (among front (no_claim index) rest) after then
        commit_holds leaves =
            ends_hold was.numbers.set index (last_of was.numbers) (last_of now.numbers) was.holding now.holding unseen (views ghosts old) front rest claim f records after
            state then (last_rises was.numbers now.numbers x.turns.numbers) is_put d g same takes pins (leaves hands may known_stands)

    -- what it leaves of the lanes and of the data
    leaves_so : (records : Records) (state : State) → LanesStand ghosts.tells ghosts.files was records state
        → TurnLeaves ghosts was now (noted stub) NoneShown claim (no_claim index) (views ghosts old) (views ghosts new) records state
    leaves_so records state stands =
        let left = x.leaves records state stands in
        leaves_noted ghosts was now stub (ShowsTrash deed answer was.holding.trash now.holding.trash) (MayCommitData deed now.holding) claim (no_claim index)
        (views ghosts old) (views ghosts new) records state left (λ unseen front rest d.
        let ended : (g : Flying) × (g.id ≡ flight.id) × TakesOut g was.holding.flights now.holding.flights = elim x.holds.ends [
          | inl g ↦ (g.0, g.1, subst (λ (h : Holding). TakesOut g.0 was.holding.flights h.flights) (sym x.holds.holds) g.2)
          | inr none ↦ absurd (none.0 (record { flight = f; there = listed_there unseen front rest records left.after state left.now d; id_is = refl }))
        ] in
        data_read now.numbers now.holding unseen (views ghosts old) (views ghosts new) (among front (no_claim index) rest) (among front (no_claim index) rest)
        left.after left.now x.read refl
        (subst₂ (λ s i. HoldsAt s i (last_of now.numbers) now.holding unseen (views ghosts old) (among front (no_claim index) rest) left.after left.now)
        (sym x.turns.numbers.set) (sym x.turns.numbers.index)
        (commit_holds unseen front rest records left.after state left.now d ended.0 ended.1 ended.2 (ap (λ (h : Holding). h.pins) x.holds.holds)
        (λ later. left.holds (disks_of unseen was.numbers.set.out (views ghosts old))
        (with_known (hands_of (claims_at index (among front claim rest))) this) later))))

    -- where its put isn't listed, that is the claim's
    unlisted : (id : VersionId) → answer ≡ Err (NotInFlight id) → IsPutOf claim (Some id) × (IsInFlight was.holding.flights id → ⊥)
    unlisted id is =
        let none = x.checks.refused id is in
        ((f, held.flight_is, ap (λ (g : Flight). g.id) (same_flight flight none.0.0 none.0.1) ∙ none.0.2), none.1)

    -- and where its registers refused, the put was listed
    not_unlisted : (fault : QuorumFault) → answer ≡ Err (Quorum fault) → IsNotUnlisted was.holding.flights (Some flight.id)
    not_unlisted fault is id same none =
        let one : flight.id ≡ id = cc in
        subst NothingBegun is (x.checks.unlisted flight refl (subst (λ (v : VersionId). IsInFlight was.holding.flights v → ⊥) (sym one) none))

    pub commit_turn : TurnMoves ghosts was now (noted stub) NoneShown claim (no_claim index) (views ghosts old) (views ghosts new)
    commit_turn = turn_moves ghosts was now (noted stub) NoneShown claim (no_claim index) (views ghosts old) (views ghosts new) (record {
      numbers = x.turns.numbers;
      note_is = entry_noted was.numbers answer stub x.turns.stub_is;
      audit = audit_noted stub was.entries now.entries x.turns.audit;
      faults = entry_counts was.numbers answer stub was.faults now.faults x.turns.stub_is x.turns.faults;
      claims = record { slot = sym own; elsewhere = λ other. absurd (other own) };
      gains = nothing_held was.numbers now.numbers was.holding now.holding claim index;
      read = x.read;
      account = commit_turn_cause ghosts was now claim old new deed (Some flight.id) at (f, held.flight_is, refl) answer stub x.turns.stub_is x.says
          x.turns.spent.0 x.turns.faults unlisted not_unlisted x.cause;
      letters = commit_letters ghosts was now deed (Some flight.id) at answer stub old new x.says x.cause;
      leaves = leaves_so;
    })
