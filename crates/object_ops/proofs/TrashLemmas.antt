-- Trash is taken: a step without a note, after which an op has ids in hand.
use Rattle.std.proofs.Common.{◌≡◌, ℕ, Bool, true, List, All, Contains, Option, None, Some, Result, Ok, Err, append-nil, inl, inr, refl, sym, ap, subst, subst₂, arith}
use Rattle.std.specs.Prelude.{filter, not}
use Rattle.std.specs.List.{list_any}
use Rattle.std.proofs.lemmas.List.Elements.{All-contains, All-contains_itself, All-filter, All-take, filter_passes}
use Rattle.std.proofs.lemmas.List.Folds.{list_any_at}
use Rattle.drive_base.specs.declared.drive.Drive.{Ghosts}
use Rattle.drive_base.specs.View.{DriveView}
use Rattle.drive_base.specs.declared.plan.SetPlan.{SetPlan}
use Rattle.stamp_id.specs.declared.version.VersionId.{VersionId}
use Rattle.version_list.proofs.NamingLemmas.{same_id_law}
use Rattle.slot_history.proofs.TakenLemmas.{none_there}
use Rattle.slot_history.specs.Standing.{Flying}
use Rattle.slot_data.specs.Disks.{Disks}
use Rattle.slot_data.specs.Holding.{Hands, Holding, Pinned}
use Rattle.slot_data.specs.Moves.{with_taken as hands_with}
use Rattle.slot_data.specs.Standing.{DataStands}
use Rattle.slot_data.specs.Rows.{is_id, pin_names}
use Rattle.slot_data.specs.declared.rows.PinRow.{PinRow}
use Rattle.slot_core.specs.Sections.{ShowsNoMore, TakesFirst, TakesInHand, TrashHolds}
use Rattle.slot_core.specs.Turns.{Leaves, TurnsQuietly}
use Rattle.slot_core.specs.Views.{last_of}
use Rattle.slot_core.specs.declared.slot.SlotFault.{SlotFault}
use Rattle.slot_core.specs.declared.stub.Stub.{Stub}
use Rattle.op_steps.specs.Claims.{AllApart, Claim, IsMet, among, claims_at, disks_of, hands_of}
use Rattle.op_steps.proofs.CommitLemmas.{met_on}
use Rattle.op_steps.proofs.DataLemmas.{last_rises}
use Rattle.op_steps.specs.Store.{SlotSeen}
use Rattle.object_ops.specs.Clearing.{IsPlannedOf, TakesTrash, taken_of, with_taken, FileOn, ids_of}
use Rattle.op_steps.proofs.ClaimLemmas.{at_own}
use Rattle.object_ops.proofs.ClaimLemmas.{apart_on, each_on, flight_stays, hands_on, pin_stays}
use Rattle.object_ops.proofs.OrderLemmas.{planned_taken}
use Rattle.object_ops.proofs.TurnForms.{HoldsOn, quiet_turn}

-- puts and pins stay where trash is taken
same_flights : (most : ℕ) (rows : List PinRow) (old new : Holding) (answer : Result (List VersionId) SlotFault) → TrashHolds most rows old new answer
    → new.flights ≡ old.flights
same_flights most rows old new (Ok ids) x = ap (λ (h : Holding). h.flights) x.left
same_flights most rows old new (Err fault) x = ap (λ (h : Holding). h.flights) x

same_pins : (most : ℕ) (rows : List PinRow) (old new : Holding) (answer : Result (List VersionId) SlotFault) → TrashHolds most rows old new answer
    → new.pins ≡ old.pins
same_pins most rows old new (Ok ids) x = ap (λ (h : Holding). h.pins) x.left
same_pins most rows old new (Err fault) x = ap (λ (h : Holding). h.pins) x

-- what is taken was trash, and is none any more
taken_trash : (most : ℕ) (rows : List PinRow) (old new : Holding) (ids : List VersionId) (id : VersionId) → TakesFirst most rows old new ids → Contains ids id
    → Contains old.trash id × (Contains new.trash id → ⊥)
taken_trash most rows old new ids id x there = (
  All-contains (Contains old.trash) ids id (subst (λ (l : List VersionId). All (Contains old.trash) l) (sym x.taken)
      (All-take (Contains old.trash) most (filter is_free old.trash) (All-filter is_free (Contains old.trash) old.trash (All-contains_itself old.trash)))) there,
  λ still.
      let passes : is_left id ≡ true = All-contains (λ y. is_left y ≡ true) new.trash id
      (subst (λ (l : List VersionId). All (λ y. is_left y ≡ true) l) (sym (ap (λ (h : Holding). h.trash) x.left)) (filter_passes is_left old.trash)) still in
      let found : list_any (is_id id) ids ≡ true = list_any_at (is_id id) ids there.0 id there.1
      (subst (λ (y : VersionId). is_id id y ≡ true) (sym there.2) ((same_id_law id id).1 refl)) in
      let clash : not true ≡ true = subst (λ (b : Bool). not b ≡ true) found passes in cc,
)
  where
    is_free : VersionId → Bool
    is_free y = not (list_any (pin_names y) rows)

    is_left : VersionId → Bool
    is_left y = not (list_any (is_id y) ids)

was_trash : (most : ℕ) (rows : List PinRow) (old new : Holding) (answer : Result (List VersionId) SlotFault) (id : VersionId) → TrashHolds most rows old new answer
    → Contains (taken_of answer) id → Contains old.trash id × (Contains new.trash id → ⊥)
was_trash most rows old new (Ok ids) id x there = taken_trash most rows old new ids id x there
was_trash most rows old new (Err fault) id x there = absurd (none_there id there)

pub met_taken : (set : SetPlan) (holding : Holding) (unseen : Disks) (disks : List DriveView) (claim : Claim) (ids : List VersionId)
    → IsMet set holding unseen disks claim → IsMet set holding unseen disks (with_taken claim ids)
met_taken set holding unseen disks claim ids x = record {
  flight = x.flight;
  pin = x.pin;
  staged = x.staged;
  works = x.works;
  known = x.known;
  unwritten = x.unwritten;
}

-- ops have it in hand
in_hand : (answer : Result (List VersionId) SlotFault) (disks : Disks) (hands : Hands) → (later : Hands) × TakesInHand answer disks hands later × (later ≡ hands_with hands (taken_of answer))
in_hand (Ok ids) disks hands = (hands_with hands ids, refl, refl)
in_hand (Err fault) disks hands = (hands, refl, sym (ap (λ l. record { taken = l; known = hands.known }) (append-nil hands.taken)))

module _ {D : Type 0} (ghosts : Ghosts D) where
  -- what a section says that takes trash
  pub record TakeSays (most : ℕ) (rows : List PinRow) (was now : SlotSeen D) (answer : Result (List VersionId) SlotFault) (stub : Option Stub) : Type 0 where
    pub turns : TurnsQuietly was.numbers now.numbers was.entries now.entries was.faults now.faults answer stub
    pub stubless : stub ≡ None
    pub holds : TrashHolds most rows was.holding now.holding answer
    pub leaves : Leaves ghosts.tells ghosts.files was.numbers now.numbers was.holding now.holding was.lanes now.lanes stub ShowsNoMore (TakesInHand answer)

  -- the data goes on to hold with the ids in hand
  take_holds : (most : ℕ) (rows : List PinRow) (was now : SlotSeen D) (answer : Result (List VersionId) SlotFault) (stub : Option Stub) (ids : List VersionId)
      (claim : Claim) (disks : List DriveView) → TakeSays most rows was now answer stub → claim.slot ≡ was.numbers.index
      → ((id : VersionId) → Contains ids id → Contains (taken_of answer) id) → HoldsOn ghosts was now (TakesInHand answer) disks claim (with_taken claim ids)
  take_holds most rows was now answer stub ids claim disks x own were unseen front rest records after state then d left =
      let flights = same_flights most rows was.holding now.holding answer x.holds in
      let pins = same_pins most rows was.holding now.holding answer x.holds in
      let index = was.numbers.index in
      let mine = at_own index front rest claim own in
      let later = at_own index front rest (with_taken claim ids) own in
      let before = claims_at index front in
      let behind = claims_at index rest in
      let kept = disks_of unseen was.numbers.set.out disks in
      let hands : Hands = hands_of (among before claim behind) in
      let taken = in_hand answer kept hands in
      let d_stands = subst (λ (l : List Claim). DataStands was.numbers.set index (last_of was.numbers) records state was.holding kept (hands_of l)) mine d.stands in
      let more : DataStands was.numbers.set index (last_of now.numbers) after then now.holding kept (hands_with hands (taken_of answer)) =
      subst (λ (h : Hands). DataStands was.numbers.set index (last_of now.numbers) after then now.holding kept h) taken.2
      (left hands taken.0 taken.1 d_stands) in
      record {
        tell = d.tell;
        stands = subst (λ (l : List Claim). DataStands was.numbers.set index (last_of now.numbers) after then now.holding kept (hands_of l)) (sym later)
            (hands_on before behind claim ids was.numbers.set index (last_of now.numbers) after then now.holding kept (taken_of answer)
            (λ id there. inr (were id there)) more);
        loose = λ k id inside in_use of above. d.loose k id inside in_use of
            (let rises = last_rises was.numbers now.numbers x.turns.numbers in omega (arith, rises, above));
        met = λ c there. each_on before behind claim ids (IsMet was.numbers.set now.holding unseen disks) (met_taken was.numbers.set now.holding unseen disks claim ids)
            (λ e here. met_on was.numbers.set was.holding now.holding unseen disks e flights pins (d.met e (subst (λ (l : List Claim). Contains l e) (sym mine) here))) c
            (subst (λ (l : List Claim). Contains l c) later there);
        apart = subst AllApart (sym later) (apart_on before behind claim ids (subst AllApart mine d.apart));
        flights_are = λ f there. subst (λ (l : List Claim). (c : Claim) × Contains l c × (c.flight ≡ Some f)) (sym later)
            (flight_stays before behind claim (with_taken claim ids) f (λ is. is) (subst (λ (l : List Claim). (c : Claim) × Contains l c × (c.flight ≡ Some f)) mine
            (d.flights_are f (subst (λ (l : List Flying). Contains l f) flights there))));
        pins_are = λ p there. subst (λ (l : List Claim). (c : Claim) × Contains l c × (c.pin ≡ Some p)) (sym later)
            (pin_stays before behind claim (with_taken claim ids) p (λ is. is) (subst (λ (l : List Claim). (c : Claim) × Contains l c × (c.pin ≡ Some p)) mine
            (d.pins_are p (subst (λ (l : List Pinned). Contains l p) pins there))));
      }

  -- so it is a step
  pub takes_trash : (most : ℕ) (rows : List PinRow) (was now : SlotSeen D) (answer : Result (List VersionId) SlotFault) (stub : Option Stub) (set : SetPlan) (left : List FileOn)
      → TakeSays most rows was now answer stub → IsPlannedOf set was.numbers.index answer left → TakesTrash ghosts was now left
  takes_trash most rows was now answer stub set left x plan claim disks own =
      quiet_turn ghosts was now answer (TakesInHand answer) disks claim (with_taken claim (ids_of left))
      (subst (λ s. TurnsQuietly was.numbers now.numbers was.entries now.entries was.faults now.faults answer s) x.stubless x.turns)
      (subst (λ s. Leaves ghosts.tells ghosts.files was.numbers now.numbers was.holding now.holding was.lanes now.lanes s ShowsNoMore (TakesInHand answer)) x.stubless
      x.leaves)
      (record { slot = refl; elsewhere = λ other. absurd (other own) })
      (record {
        flight = λ f is. inl is;
        pin = λ p is. inl is;
        taken = λ id there. inr (was_trash most rows was.holding now.holding answer id x.holds (planned_taken set was.numbers.index answer left plan id there));
      })
      (take_holds most rows was now answer stub (ids_of left) claim disks x own (planned_taken set was.numbers.index answer left plan))
