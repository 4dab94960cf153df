-- A put ends: it is given up, or committed. Its flight is listed no more, and nothing is held of the slot.
use Rattle.std.proofs.Common.{◌≡◌, ◌≢◌, ◌∙◌, ◌≤◌, ℕ, List, [], ◌∷◌, ◌++◌, Contains, Option, Some, None, Result, option_to_list, option_map, inl, inr, refl, sym, ap, ap₂, subst, arith}
use Rattle.std.specs.List.{flat_map}
use Rattle.std.proofs.lemmas.Grind.{flat_map-append}
use Rattle.drive_base.specs.declared.drive.Drive.{Ghosts}
use Rattle.drive_base.specs.View.{DriveView}
use Rattle.drive_base.specs.declared.plan.SetPlan.{SetPlan}
use Rattle.stamp_id.specs.declared.version.VersionId.{VersionId}
use Rattle.version_list.specs.State.{AreDistinct}
use Rattle.slot_history.specs.Standing.{Flying, Records}
use Rattle.slot_history.specs.State.{State, TakesOut}
use Rattle.slot_history.proofs.TakenLemmas.{left_apart, left_there, taken_or_left}
use Rattle.slot_data.specs.Disks.{Disks}
use Rattle.slot_data.specs.Holding.{Hands, Holding, Known, Pinned}
use Rattle.slot_data.specs.Standing.{DataStands}
use Rattle.slot_core.specs.Sections.{MayGiveUp, PutGoes, ShowsNoMore}
use Rattle.slot_core.specs.Turns.{EntryMoves, Leaves, TurnsQuietly}
use Rattle.slot_core.specs.Views.{last_of}
use Rattle.slot_core.specs.declared.slot.SlotFault.{SlotFault}
use Rattle.slot_core.specs.declared.stub.Stub.{Stub}
use Rattle.receipts.specs.Events.Shown.{NoneShown}
use Rattle.op_steps.specs.Claims.{AllApart, Claim, HoldsAt, IsMet, among, claims_at, disks_of, flights_in, hands_of, no_claim}
use Rattle.op_steps.specs.Moves.{TurnMoves}
use Rattle.op_steps.specs.Store.{SlotSeen}
use Rattle.op_steps.proofs.DataLemmas.{last_rises}
use Rattle.op_steps.proofs.ClaimLemmas.{at_own, nothing_held}
use Rattle.object_ops.proofs.PutMine.{Other, Own, distinct, flights_without, listed, met_none, met_other, mine, other_flight, still_claimed, unknown, whose}
use Rattle.object_ops.proofs.ReadingLists.{none_some, of_some, out_distinct}
use Rattle.object_ops.proofs.TurnForms.{quiet_turn}

-- a claim holds a put, and no more
pub record IsPutClaim (index : ℕ) (f : Flying) (claim : Claim) : Type 0 where
  pub own : claim.slot ≡ index
  pub flies : claim.flight ≡ Some f
  pub pinless : claim.pin ≡ None
  pub none_taken : claim.taken ≡ []
  pub none_known : claim.known ≡ []

module _ (set : SetPlan) (index last later : ℕ) (held holding : Holding) (unseen : Disks) (disks : List DriveView) (front rest : List Claim) (claim : Claim) (f : Flying)
    (records after : Records) (state now : State) (rises : last ≤ later) (is_put : IsPutClaim index f claim)
    (d : HoldsAt set index last held unseen disks (among front claim rest) records state) where
  abbrev F : List Claim
  F = claims_at index front

  abbrev R : List Claim
  R = claims_at index rest

  was : claims_at index (among front claim rest) ≡ among F claim R
  was = mine set index last held unseen disks front rest claim f records state is_put.own is_put.flies is_put.none_known d

  then : claims_at index (among front (no_claim index) rest) ≡ among F (no_claim index) R
  then = at_own index front rest (no_claim index) refl

  -- what is in hand stays
  same_list : {A : Type 0} (read : Claim → List A) → read claim ≡ [] → read (no_claim index) ≡ [] → flat_map read (among F (no_claim index) R) ≡ flat_map read (among F claim R)
  same_list read none nothing = flat_map-append read F (no_claim index ∷ R)
      ∙ (ap (λ l. flat_map read F ++ (l ++ flat_map read R)) (nothing ∙ sym none) ∙ sym (flat_map-append read F (claim ∷ R)))

  pub same_hands : hands_of (claims_at index (among front (no_claim index) rest)) ≡ hands_of (claims_at index (among front claim rest))
  same_hands = ap hands_of then
      ∙ (ap₂ (λ t k. record { taken = t; known = k }) (same_list (λ (c : Claim). c.taken) is_put.none_taken refl)
      (same_list (λ (c : Claim). c.known) is_put.none_known refl)
      ∙ sym (ap hands_of was))

  -- the put is listed, and what is taken off the list by its id is the put
  pub is_listed : Contains held.flights f
  is_listed = listed set index last held unseen disks front rest claim f records state is_put.own is_put.flies is_put.none_known d

  pub none_knows : (x : Known) → Contains (hands_of (claims_at index (among front claim rest))).known x → x.named.id ≢ f.id
  none_knows = unknown set index last held unseen disks front rest claim f records state is_put.own is_put.flies is_put.none_known d

  -- another put stays
  pub stays : (g : Flying) (left : List Flying) → g.id ≡ f.id → TakesOut g held.flights left → (h : Flying) → Contains held.flights h → h.id ≢ f.id → Contains left h
  stays g left same takes h there apart = elim (taken_or_left g held.flights left takes h there) [
    | inl own ↦ absurd (apart (ap (λ (x : Flying). x.id) (sym own) ∙ same))
    | inr kept ↦ kept
  ]

  -- the slot's data holds with the claims of others, where it stands
  pub ends_hold : (g : Flying) → g.id ≡ f.id → TakesOut g held.flights holding.flights → holding.pins ≡ held.pins
      → DataStands set index later after now holding (disks_of unseen set.out disks) (hands_of (claims_at index (among front claim rest)))
      → HoldsAt set index later holding unseen disks (among front (no_claim index) rest) after now
  ends_hold g same takes pins stands = record {
    tell = d.tell;
    stands = subst (DataStands set index later after now holding (disks_of unseen set.out disks)) (sym same_hands) stands;
    loose = λ k id inside in_use own above. d.loose k id inside in_use own (omega (arith, rises, above));
    met = λ c there. elim (whose F (no_claim index) R c (subst (λ l. Contains l c) then there)) [
      | Own own ↦ subst (IsMet set holding unseen disks) own (met_none set holding unseen disks index)
      | Other other ↦
          let x = met_other set index last held unseen disks front rest claim f records state is_put.own is_put.flies is_put.none_known d c other in
          record {
            flight = λ h is. stays g holding.flights same takes h (x.flight h is)
                (other_flight set index last held unseen disks front rest claim f records state is_put.own is_put.flies is_put.none_known d c h other is);
            pin = λ q is. subst (λ (l : List Pinned). Contains l q) (sym pins) (x.pin q is);
            staged = x.staged;
            works = x.works;
            known = x.known;
            unwritten = x.unwritten;
          }
    ];
    apart = subst AllApart (sym then) (record {
      flights = subst AreDistinct (sym (flights_without F R (no_claim index) refl))
          (out_distinct (flights_in F) f.id (flights_in R)
          (distinct set index last held unseen disks front rest claim f records state is_put.own is_put.flies is_put.none_known d));
      pins = subst AreDistinct (sym (same_list (λ (c : Claim). option_to_list (option_map (λ (p : Pinned). p.ticket) c.pin))
          (ap (λ (p : Option Pinned). option_to_list (option_map (λ (q : Pinned). q.ticket) p)) is_put.pinless) refl)) (subst AllApart was d.apart).pins;
    });
    flights_are = λ h there. still_claimed index front rest claim (no_claim index) (λ (c : Claim). c.flight) h is_put.own refl
        (λ has. absurd (left_apart (λ (x : Flying). x.id) g held.flights holding.flights takes d.stands.flights.differ h there
        (ap (λ (x : Flying). x.id) (of_some (λ (x : Flying). x ≡ f) f h (sym is_put.flies ∙ has) refl) ∙ sym same)))
        (d.flights_are h (left_there g held.flights holding.flights takes h there));
    pins_are = λ p there. still_claimed index front rest claim (no_claim index) (λ (c : Claim). c.pin) p is_put.own refl
        (λ has. absurd (none_some p (sym is_put.pinless ∙ has))) (d.pins_are p (subst (λ (l : List Pinned). Contains l p) pins there));
  }

  -- it is given up
  pub given_up_holds : PutGoes f.id held holding
      → ((hands : Hands) → MayGiveUp f.id (disks_of unseen set.out disks) hands hands
      → DataStands set index last records state held (disks_of unseen set.out disks) hands
      → DataStands set index later after now holding (disks_of unseen set.out disks) hands)
      → HoldsAt set index later holding unseen disks (among front (no_claim index) rest) after now
  given_up_holds (inl (g, left, same, takes, is)) leaves =
      ends_hold g same (subst (λ (h : Holding). TakesOut g held.flights h.flights) (sym is) takes) (ap (λ (h : Holding). h.pins) is)
      (leaves (hands_of (claims_at index (among front claim rest))) (refl, none_knows) d.stands)
  given_up_holds (inr (unlisted, is)) leaves = absurd (unlisted (record { flight = f; there = is_listed; id_is = refl }))

-- ---- a put is given up, as a step

-- what a section leaves that writes no entry
quiet_moves : (slot : ℕ) (records after : Records) (state now : State) → EntryMoves slot None ShowsNoMore records state after now
    → (after ≡ records) × (now ≡ state)
quiet_moves slot records after state now x = x

module _ {D T : Type 0} (ghosts : Ghosts D) where
  -- what it says
  pub record DropSays (was now : SlotSeen D) (id : VersionId) (answer : Result T SlotFault) (stub : Option Stub) : Type 0 where
    pub turns : TurnsQuietly was.numbers now.numbers was.entries now.entries was.faults now.faults answer stub
    pub holds : PutGoes id was.holding now.holding
    pub leaves : Leaves ghosts.tells ghosts.files was.numbers now.numbers was.holding now.holding was.lanes now.lanes stub ShowsNoMore (MayGiveUp id)

  -- it is a step after which nothing is held
  pub drop_turn : (was now : SlotSeen D) (f : Flying) (claim : Claim) (answer : Result T SlotFault) (disks : List DriveView) → IsPutClaim was.numbers.index f claim
      → DropSays was now f.id answer None → TurnMoves ghosts was now None NoneShown claim (no_claim was.numbers.index) disks disks
  drop_turn was now f claim answer disks is_put x =
      quiet_turn ghosts was now answer (MayGiveUp f.id) disks claim (no_claim was.numbers.index) x.turns x.leaves
      (record { slot = sym is_put.own; elsewhere = λ other. absurd (other is_put.own) })
      (nothing_held was.numbers now.numbers was.holding now.holding claim was.numbers.index)
      (λ unseen front rest records after state then d left.
      given_up_holds was.numbers.set was.numbers.index (last_of was.numbers) (last_of now.numbers) was.holding now.holding unseen disks front rest claim f
      records after state then (last_rises was.numbers now.numbers x.turns.numbers) is_put d x.holds (λ hands may. left hands hands may))
