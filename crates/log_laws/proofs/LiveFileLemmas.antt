-- No step takes files of live data away.
use Rattle.std.proofs.Common.{◌≡◌, ◌<◌, ◌∙◌, ℕ, zero, IsTrue, List, ◌∷◌, Contains, Some, inl, inr, refl, sym, ap, subst, arith}
use Rattle.std.proofs.lemmas.Bool.{cases_eq}
use Rattle.std.proofs.lemmas.List.Elements.{Contains-append_right}
use Rattle.desk_base.specs.Telling.{Effect}
use Rattle.drive_base.specs.View.{AllOnlyRead, DriveView, view_at}
use Rattle.drive_base.specs.declared.drive.Drive.{Ghosts}
use Rattle.drive_base.specs.declared.plan.SetPlan.{SetPlan}
use Rattle.receipts.specs.Events.{Event}
use Rattle.receipts.specs.Events.Event.{BarredFrom, Called, Fed, Told, Turned}
use Rattle.stamp_id.specs.declared.version.VersionId.{VersionId}
use Rattle.slot_history.specs.Contents.{NamedData}
use Rattle.slot_history.specs.Standing.{Flying}
use Rattle.slot_data.proofs.NamingLemmas.{record_names_id, record_of_named}
use Rattle.slot_data.specs.Disks.{Disks}
use Rattle.slot_data.specs.Live.{IsLiveData, IsNamed}
use Rattle.slot_data.specs.Standing.{RecordNamesId}
use Rattle.slot_core.specs.Views.{last_of, quorum_of}
use Rattle.op_steps.specs.Claims.{Claim, among, claims_at, disks_of, hands_of}
use Rattle.log_laws.specs.Laws.{AllHold}
use Rattle.op_steps.specs.Leading.{Standing}
use Rattle.log_laws.specs.LiveFiles.{LiveFilesStay, NamedFilesStay}
use Rattle.op_steps.specs.Moves.{LosesFile}
use Rattle.op_steps.specs.Steps.{IsSlotAt, StepMoves}
use Rattle.op_steps.specs.Store.{AreInOrder, SlotSeen, Store}
use Rattle.log_laws.proofs.FileLemmas.{read_files}
use Rattle.op_steps.proofs.OwnFileLemmas.{own_calls_lose_own_files, same_lost}
use Rattle.op_steps.proofs.SlotLemmas.{order_index, order_set}
use Rattle.log_laws.proofs.PlaceLemmas.{slot_at, slot_is_one}
use Rattle.op_steps.proofs.ClaimLemmas.{at_own, own_in_hand}

module _ {D T : Type 0} (ghosts : Ghosts D) (takes breaks : Effect T) where
  -- what a claim of a slot took isn't live there, and is of that slot
  module _ (set : SetPlan) (old : Store D T) (unseen : Disks) (front rest : List Claim) (at : ℕ → Standing) (order : AreInOrder set old.slots old.disks)
      (held : AllHold ghosts.tells ghosts.files unseen old front rest at) (id : VersionId) (was : SlotSeen D) (is : IsSlotAt old.slots id.slot was)
      (live : IsLiveData set (at id.slot).records (at id.slot).state was.holding (disks_of unseen set.out old.disks) id) where
    not_taken : (own : SlotSeen D) → IsSlotAt old.slots old.claim.slot own → Contains old.claim.taken id → ⊥
    not_taken own here taken =
        let index = order_index set old.slots old.disks old.claim.slot own order here in
        let mine = at_own own.numbers.index front rest old.claim (sym index) in
        let d = (held old.claim.slot own here).holds in
        let in_hand = subst (λ (l : List Claim). Contains (hands_of l).taken id) (sym mine)
        (own_in_hand (claims_at own.numbers.index front) (claims_at own.numbers.index rest) old.claim id taken) in
        let same : id.slot ≡ old.claim.slot = d.stands.in_hand.of_slot id in_hand ∙ index in
        let there : IsSlotAt old.slots old.claim.slot was = subst (λ (j : ℕ). IsSlotAt old.slots j was) same is in
        let one : was ≡ own = slot_is_one old.slots old.claim.slot was own there here in
        let set_is = order_set set old.slots old.disks old.claim.slot own order here in
        let here_live = subst (λ (s : SetPlan). IsLiveData s (at old.claim.slot).records (at old.claim.slot).state own.holding (disks_of unseen s.out old.disks) id) (sym set_is)
        (subst (λ (o : SlotSeen D). IsLiveData set (at old.claim.slot).records (at old.claim.slot).state o.holding (disks_of unseen set.out old.disks) id) one
        (subst (λ (j : ℕ). IsLiveData set (at j).records (at j).state was.holding (disks_of unseen set.out old.disks) id) same live)) in
        d.stands.in_hand.dead id in_hand here_live

  -- the slot of an op is there
  own_there : (set : SetPlan) (old : Store D T) → AreInOrder set old.slots old.disks → old.claim.slot < 64 → (own : SlotSeen D)
      × IsSlotAt old.slots old.claim.slot own
  own_there set old order small = slot_at old.slots old.claim.slot (let n = order.count in omega (arith, n, small))

  pub live_files_stay : LiveFilesStay ghosts takes breaks
  live_files_stay set event old new unseen front rest at k id was order small step held is live told loses = by_event event step
    where
      by_event : (e : Event) → StepMoves ghosts takes breaks set e old new → (f : Flying) × (old.claim.flight ≡ Some f) × (f.id ≡ id)
      by_event (Turned j made shown) x = absurd (same_lost id (view_at old.disks k).files (view_at new.disks k).files (read_files old.disks new.disks k
          (subst (λ (l : List DriveView). AllOnlyRead old.disks l) (sym (ap (λ (s : Store D T). s.disks) x.leaves)) x.moves.read) told) loses)
      by_event (BarredFrom j why) x = absurd (same_lost id (view_at old.disks k).files (view_at new.disks k).files (ap (λ (s : Store D T). (view_at s.disks k).files) x.leaves) loses)
      by_event (Fed bytes cut) x = absurd (same_lost id (view_at old.disks k).files (view_at new.disks k).files (ap (λ (s : Store D T). (view_at s.disks k).files) x.leaves) loses)
      by_event (Told telling cut) x = absurd (same_lost id (view_at old.disks k).files (view_at new.disks k).files (ap (λ (s : Store D T). (view_at s.disks k).files) x.leaves) loses)
      by_event (Called j made) x = elim (cases_eq k j) [
        | inl same ↦
            let own = own_there set old order small in
            elim (own_calls_lose_own_files old.claim made.call (view_at old.disks j) (view_at new.disks j) id x.moves.may x.moves.was_made.model
            (subst (λ (n : ℕ). IsTrue (view_at old.disks n).tells) same told) (subst (λ (n : ℕ). LosesFile id (view_at old.disks n).files (view_at new.disks n).files) same loses)) [
              | inl taken ↦ absurd (not_taken set old unseen front rest at order held id was is live own.0 own.1 taken)
              | inr mine ↦ mine
            ]
        | inr other ↦ absurd (same_lost id (view_at old.disks k).files (view_at new.disks k).files (ap (λ (v : DriveView). v.files) (x.moves.others k other)) loses)
      ]

  -- data that is named isn't that of a put under way
  not_own : (set : SetPlan) (old : Store D T) (unseen : Disks) (front rest : List Claim) (at : ℕ → Standing) (id : VersionId) (name : List ℕ) (named : NamedData)
      → AreInOrder set old.slots old.disks → old.claim.slot < 64 → AllHold ghosts.tells ghosts.files unseen old front rest at
      → IsNamed (at id.slot).state name named → named.id ≡ id → (f : Flying) → old.claim.flight ≡ Some f → f.id ≡ id → ⊥
  not_own set old unseen front rest at id name named order small held is_named same f flies own =
      let found = own_there set old order small in
      let here = found.0 in
      let index = order_index set old.slots old.disks old.claim.slot here order found.1 in
      let mine = at_own here.numbers.index front rest old.claim (sym index) in
      let x = held old.claim.slot here found.1 in
      let among_mine : Contains (claims_at here.numbers.index (among front old.claim rest)) old.claim =
      subst (λ (l : List Claim). Contains l old.claim) (sym mine)
      (Contains-append_right (claims_at here.numbers.index front) (old.claim ∷ claims_at here.numbers.index rest) old.claim (zero, omega arith, refl)) in
      let listed = (x.holds.met old.claim among_mine).flight f flies in
      let of_slot : id.slot ≡ old.claim.slot = ap (λ (v : VersionId). v.slot) (sym own) ∙ (x.holds.stands.flights.of_slot f listed ∙ index) in
      let n = here.numbers in
      let records = (at old.claim.slot).records in
      let here_named = subst (λ (j : ℕ). IsNamed (at j).state name named) of_slot is_named in
      let recorded = record_of_named (quorum_of n) n.set.drives (last_of n) here.holding.flights records (at old.claim.slot).state name named id x.stands.stands here_named same in
      x.holds.stands.flights.unnamed f name listed (subst (λ (v : VersionId). RecordNamesId records name v) (sym own) (record_names_id records name id recorded))

  pub named_files_stay : NamedFilesStay ghosts takes breaks
  named_files_stay set event old new unseen front rest at k id was name named order small step held is is_named same told loses =
      let live : IsLiveData set (at id.slot).records (at id.slot).state was.holding (disks_of unseen set.out old.disks) id =
      inl (id, inl (name, named, is_named, same), inl refl) in
      let found = live_files_stay set event old new unseen front rest at k id was order small step held is live told loses in
      not_own set old unseen front rest at id name named order small held is_named same found.0 found.1 found.2
