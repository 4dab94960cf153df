-- A claim to nothing comes and goes anywhere, one that is left stays, and a whole log, or a whole call, keeps the data of every slot.
use Rattle.std.proofs.Common.{◌≡◌, ◌⊎◌, ◌<◌, ◌∙◌, ℕ, Bool, true, false, List, [], ◌∷◌, ◌++◌, Contains, flat_map, append-nil, cond, inl, inr, refl, sym, ap, subst, ap₂, arith, Some, option_to_list, option_map}
use Rattle.std.proofs.lemmas.Grind.{flat_map-append}
use Rattle.std.proofs.lemmas.Option.{none-some}
use Rattle.std.proofs.lemmas.List.Elements.{Contains-append_cases, Contains-append_left, Contains-append_right, filter-append}
use Rattle.desk_base.specs.Telling.{Effect}
use Rattle.drive_base.specs.Files.{Files}
use Rattle.drive_base.specs.declared.drive.Drive.{Ghosts}
use Rattle.drive_base.specs.View.{DriveView}
use Rattle.drive_base.specs.declared.plan.SetPlan.{SetPlan}
use Rattle.receipts.specs.Events.{Log}
use Rattle.receipts.specs.Events.Event.{BarredFrom}
use Rattle.slot_data.specs.Disks.{Disks}
use Rattle.slot_data.specs.Holding.{Hands, Holding, Known, Pinned}
use Rattle.slot_data.specs.Standing.{DataStands}
use Rattle.slot_core.specs.Views.{last_of}
use Rattle.slot_history.specs.Standing.{Flying, Records}
use Rattle.slot_history.specs.State.{State}
use Rattle.slot_history.proofs.TakenLemmas.{none_there, rest_there, there_cases}
use Rattle.stamp_id.specs.declared.version.VersionId.{VersionId}
use Rattle.version_list.specs.State.{AreDistinct}
use Rattle.op_steps.specs.Claims.{Claim, DataHolds, HoldsAt, IsMet, among, claims_at, disks_of, flights_in, hands_of, is_at, no_claim, pins_in}
use Rattle.log_laws.specs.Coming.{ClaimsCome, ClaimsGo}
use Rattle.log_laws.specs.Laws.{AllHold, EachStepKeepsData, HoldsLater, LogKeepsData, RanKeepsHistory}
use Rattle.op_steps.specs.Leading.{Standing}
use Rattle.op_steps.specs.Steps.{Ran}
use Rattle.op_steps.specs.Store.{AreInOrder, Store}
use Rattle.log_laws.specs.Keeping.{CallKeepsData}
use Rattle.op_steps.specs.Holding.{StoreHolds}
use Rattle.log_laws.proofs.ShowingLemmas.{all_lead_join}
use Rattle.op_steps.proofs.LeadingLemmas.{leads_stay}

-- what it adds of a part in which it has nothing
adds_none : {X : Type 0} (f : Claim → List X) (b : Bool) (c : Claim) (rest : List Claim) → f c ≡ [] → flat_map f (cond b (c ∷ rest) rest) ≡ flat_map f rest
adds_none f true c rest e = ap (λ l. l ++ flat_map f rest) e
adds_none f false c rest e = refl

-- a part of claims among which one came that has nothing in it
part_same : {X : Type 0} (f : Claim → List X) (index : ℕ) (front rest : List Claim) (c : Claim) → f c ≡ []
    → flat_map f (claims_at index (among front c rest)) ≡ flat_map f (claims_at index (front ++ rest))
part_same f index front rest c e =
    ap (λ l. flat_map f l) (filter-append (is_at index) front (c ∷ rest))
    ∙ (flat_map-append f (claims_at index front) (claims_at index (c ∷ rest))
    ∙ (ap (λ l. flat_map f (claims_at index front) ++ l) (adds_none f (is_at index c) c (claims_at index rest) e)
    ∙ (sym (flat_map-append f (claims_at index front) (claims_at index rest))
    ∙ ap (λ l. flat_map f l) (sym (filter-append (is_at index) front rest)))))

abbrev hands_with : List VersionId → List Known → Hands
hands_with taken known = record { taken = taken; known = known }

hands_same : (index : ℕ) (front rest : List Claim) (slot : ℕ)
    → hands_of (claims_at index (among front (no_claim slot) rest)) ≡ hands_of (claims_at index (front ++ rest))
hands_same index front rest slot = ap₂ hands_with
    (part_same (λ (c : Claim). c.taken) index front rest (no_claim slot) refl) (part_same (λ (c : Claim). c.known) index front rest (no_claim slot) refl)

flights_same : (index : ℕ) (front rest : List Claim) (slot : ℕ)
    → flights_in (claims_at index (among front (no_claim slot) rest)) ≡ flights_in (claims_at index (front ++ rest))
flights_same index front rest slot =
    part_same (λ (c : Claim). option_to_list (option_map (λ (f : Flying). f.id) c.flight)) index front rest (no_claim slot) refl

pins_same : (index : ℕ) (front rest : List Claim) (slot : ℕ)
    → pins_in (claims_at index (among front (no_claim slot) rest)) ≡ pins_in (claims_at index (front ++ rest))
pins_same index front rest slot = part_same (λ (c : Claim). option_to_list (option_map (λ (p : Pinned). p.ticket) c.pin)) index front rest (no_claim slot) refl

-- a claim to nothing is met
nothing_met : (set : SetPlan) (holding : Holding) (unseen : Disks) (disks : List DriveView) (slot : ℕ) → IsMet set holding unseen disks (no_claim slot)
nothing_met set holding unseen disks slot = record {
  flight = λ f e. absurd (none-some _ e);
  pin = λ p e. absurd (none-some _ e);
  staged = λ s e. absurd (none-some _ e);
  works = λ s e. absurd (none-some _ e);
  known = λ x there. absurd (omega (arith, there.1));
  unwritten = λ f k e inside out. absurd (none-some _ e);
}

-- a claim of a part that may have one more is one of the others, or that one
one_more : (b : Bool) (c d : Claim) (rest : List Claim) → Contains (cond b (c ∷ rest) rest) d → Contains rest d ⊎ (d ≡ c)
one_more true c d rest there = elim (there_cases c rest d there) [
  | inl same ↦ inr (sym same)
  | inr other ↦ inl other
]
one_more false c d rest there = inl there

still_there : (b : Bool) (c d : Claim) (rest : List Claim) → Contains rest d → Contains (cond b (c ∷ rest) rest) d
still_there true c d rest there = rest_there c rest d there
still_there false c d rest there = there

-- one claim alone is that one
is_one : (c d : Claim) → Contains (c ∷ []) d → d ≡ c
is_one c d there = elim (there_cases c [] d there) [
  | inl same ↦ sym same
  | inr other ↦ absurd (none_there d other)
]

-- a claim of a slot is one that was there, or the one that came
member : (index : ℕ) (front rest : List Claim) (c d : Claim) → Contains (claims_at index (among front c rest)) d
    → Contains (claims_at index (front ++ rest)) d ⊎ (d ≡ c)
member index front rest c d there =
    let joined : claims_at index (front ++ rest) ≡ claims_at index front ++ claims_at index rest = filter-append (is_at index) front rest in
    let apart : Contains (claims_at index front ++ claims_at index (c ∷ rest)) d =
    subst (λ l. Contains l d) (filter-append (is_at index) front (c ∷ rest)) there in
    elim (Contains-append_cases (claims_at index front) (claims_at index (c ∷ rest)) d apart) [
      | inl before ↦ inl (subst (λ l. Contains l d) (sym joined) (Contains-append_left (claims_at index front) (claims_at index rest) d before))
      | inr behind ↦ elim (one_more (is_at index c) c d (claims_at index rest) behind) [
        | inl old ↦ inl (subst (λ l. Contains l d) (sym joined) (Contains-append_right (claims_at index front) (claims_at index rest) d old))
        | inr new ↦ inr new
      ]
    ]

-- one that was there is there
member_of : (index : ℕ) (front rest : List Claim) (c d : Claim) → Contains (claims_at index (front ++ rest)) d
    → Contains (claims_at index (among front c rest)) d
member_of index front rest c d there =
    let apart : Contains (claims_at index front ++ claims_at index rest) d = subst (λ l. Contains l d) (filter-append (is_at index) front rest) there in
    subst (λ l. Contains l d) (sym (filter-append (is_at index) front (c ∷ rest)))
    (elim (Contains-append_cases (claims_at index front) (claims_at index rest) d apart) [
      | inl before ↦ Contains-append_left (claims_at index front) (claims_at index (c ∷ rest)) d before
      | inr behind ↦ Contains-append_right (claims_at index front) (claims_at index (c ∷ rest)) d
          (still_there (is_at index c) c d (claims_at index rest) behind)
    ])

module _ (set : SetPlan) (index last : ℕ) (holding : Holding) (unseen : Disks) (disks : List DriveView) (front rest : List Claim) (slot : ℕ) (records : Records)
    (state : State) where
  -- a claim to nothing comes
  holds_comes : HoldsAt set index last holding unseen disks (front ++ rest) records state
      → HoldsAt set index last holding unseen disks (among front (no_claim slot) rest) records state
  holds_comes x = record {
    tell = x.tell;
    stands = subst (λ h. DataStands set index last records state holding (disks_of unseen set.out disks) h) (sym (hands_same index front rest slot)) x.stands;
    loose = x.loose;
    met = λ c there. elim (member index front rest (no_claim slot) c there) [
      | inl old ↦ x.met c old
      | inr new ↦ subst (λ d. IsMet set holding unseen disks d) (sym new) (nothing_met set holding unseen disks slot)
    ];
    apart = record {
      flights = subst (λ (l : List VersionId). AreDistinct l) (sym (flights_same index front rest slot)) x.apart.flights;
      pins = subst (λ (l : List ℕ). AreDistinct l) (sym (pins_same index front rest slot)) x.apart.pins;
    };
    flights_are = λ f there. let c = x.flights_are f there in (c.0, member_of index front rest (no_claim slot) c.0 c.1, c.2);
    pins_are = λ p there. let c = x.pins_are p there in (c.0, member_of index front rest (no_claim slot) c.0 c.1, c.2);
  }

  -- and goes
  holds_goes : HoldsAt set index last holding unseen disks (among front (no_claim slot) rest) records state
      → HoldsAt set index last holding unseen disks (front ++ rest) records state
  holds_goes x = record {
    tell = x.tell;
    stands = subst (λ h. DataStands set index last records state holding (disks_of unseen set.out disks) h) (hands_same index front rest slot) x.stands;
    loose = x.loose;
    met = λ c there. x.met c (member_of index front rest (no_claim slot) c there);
    apart = record {
      flights = subst (λ (l : List VersionId). AreDistinct l) (flights_same index front rest slot) x.apart.flights;
      pins = subst (λ (l : List ℕ). AreDistinct l) (pins_same index front rest slot) x.apart.pins;
    };
    flights_are = λ f there. let c = x.flights_are f there in elim (member index front rest (no_claim slot) c.0 c.1) [
      | inl old ↦ (c.0, old, c.2)
      | inr new ↦ absurd (none-some f (subst (λ (d : Claim). d.flight ≡ Some f) new c.2))
    ];
    pins_are = λ p there. let c = x.pins_are p there in elim (member index front rest (no_claim slot) c.0 c.1) [
      | inl old ↦ (c.0, old, c.2)
      | inr new ↦ absurd (none-some p (subst (λ (d : Claim). d.pin ≡ Some p) new c.2))
    ];
  }

module _ {D : Type 0} (tells : D → Bool) (files : D → Files) where
  -- of a whole store: a claim to nothing comes among its claims
  pub claims_come : ClaimsCome tells files
  claims_come unseen slots disks front rest slot at holds k was is =
      let x = holds k was is in
      record {
        stands = x.stands;
        holds = holds_comes was.numbers.set was.numbers.index (last_of was.numbers) was.holding unseen disks front rest slot (at k).records (at k).state
            x.holds;
      }

  -- and goes
  pub claims_go : ClaimsGo tells files
  claims_go unseen slots disks front rest slot at holds k was is =
      let x = holds k was is in
      record {
        stands = x.stands;
        holds = holds_goes was.numbers.set was.numbers.index (last_of was.numbers) was.holding unseen disks front rest slot (at k).records (at k).state
            x.holds;
      }

module _ {D T : Type 0} (ghosts : Ghosts D) (takes breaks : Effect T) where
  -- so one may come behind the claims that are there, as that of a call that begins
  pub claim_comes : (unseen : Disks) (store : Store D T) (claims : List Claim) (at : ℕ → Standing) → store.claim ≡ no_claim store.claim.slot
      → StoreHolds ghosts.tells ghosts.files unseen store.slots store.disks claims at → AllHold ghosts.tells ghosts.files unseen store claims [] at
  claim_comes unseen store claims at none holds k was is =
      let x = claims_come ghosts.tells ghosts.files unseen store.slots store.disks claims [] store.claim.slot at
      (subst (λ l. StoreHolds ghosts.tells ghosts.files unseen store.slots store.disks l at) (sym (append-nil claims)) holds) k was is in
      record {
        stands = x.stands;
        holds = subst (λ (c : Claim). DataHolds was.numbers was.holding unseen store.disks (among claims c []) (at k).records (at k).state) (sym none) x.holds;
      }

  -- it may go
  claim_goes : (unseen : Disks) (store : Store D T) (claims : List Claim) (at : ℕ → Standing) → store.claim ≡ no_claim store.claim.slot
      → AllHold ghosts.tells ghosts.files unseen store claims [] at → StoreHolds ghosts.tells ghosts.files unseen store.slots store.disks claims at
  claim_goes unseen store claims at none holds =
      subst (λ l. StoreHolds ghosts.tells ghosts.files unseen store.slots store.disks l at) (append-nil claims)
      (claims_go ghosts.tells ghosts.files unseen store.slots store.disks claims [] store.claim.slot at (λ k was is.
      let x = holds k was is in
      record {
        stands = x.stands;
        holds = subst (λ (c : Claim). DataHolds was.numbers was.holding unseen store.disks (among claims c []) (at k).records (at k).state) none x.holds;
      }))

  -- and any may stay, as that of a call that has ended
  claim_stays : (unseen : Disks) (store : Store D T) (claims : List Claim) (at : ℕ → Standing) → AllHold ghosts.tells ghosts.files unseen store claims [] at
      → StoreHolds ghosts.tells ghosts.files unseen store.slots store.disks (claims ++ store.claim ∷ []) at
  claim_stays unseen store claims at holds k was is = let x = holds k was is in record { stands = x.stands; holds = x.holds }

  -- a whole log keeps the data of every slot, and the op stays at its slot
  pub log_keeps : EachStepKeepsData ghosts takes breaks → RanKeepsHistory ghosts takes breaks → LogKeepsData ghosts takes breaks
  log_keeps step order set [] old new unseen front rest at in_order inside same holds = (
    ap (λ (s : Store D T). s.claim.slot) same,
    record {
      later = at;
      lead = λ k. leads_stay set k (at k);
      holds = subst (λ (s : Store D T). AllHold ghosts.tells ghosts.files unseen s front rest at) (sym same) holds;
    },
  )
  log_keeps step order set (event ∷ log) old new unseen front rest at in_order inside (mid, moves, ran) holds =
      let first = step set event old mid unseen front rest at in_order inside moves holds in
      let ordered = (order set (event ∷ []) old mid in_order (mid, moves, refl)).0 in
      let within : mid.claim.slot < 64 = subst (λ (n : ℕ). n < 64) (sym first.0) inside in
      let second = log_keeps step order set log mid new unseen front rest first.1.later ordered within ran first.1.holds in (
        second.0 ∙ first.0,
        record {
          later = second.1.later;
          lead = all_lead_join set (event ∷ []) log at first.1.later second.1.later first.1.lead second.1.lead;
          holds = second.1.holds;
        },
      )

  -- so does a whole call, with what it leaves in hand
  pub call_keeps : EachStepKeepsData ghosts takes breaks → RanKeepsHistory ghosts takes breaks → CallKeepsData ghosts takes breaks
  call_keeps step order set log old new unseen claims at in_order inside none ran lets holds =
      let came = claim_comes unseen old claims at none holds in
      let after = (log_keeps step order set log old new unseen claims [] at in_order inside ran came).1 in
      elim lets [
        | inl nothing ↦ record {
          left = [];
          are_left = λ c there. absurd (omega (arith, there.1));
          later = after.later;
          lead = after.lead;
          holds = subst (λ (l : List Claim). StoreHolds ghosts.tells ghosts.files unseen new.slots new.disks l after.later) (sym (append-nil claims))
              (claim_goes unseen new claims after.later nothing after.holds);
        }
        | inr barred ↦ record {
          left = new.claim ∷ [];
          are_left = λ c there.
              let same = is_one new.claim c there in (
                subst (λ (d : Claim). d.taken ≡ []) (sym same) barred.0,
                (barred.1.0, subst (λ (d : Claim). Contains log (BarredFrom d.slot barred.1.0)) (sym same) barred.1.1),
              );
          later = after.later;
          lead = after.lead;
          holds = claim_stays unseen new claims after.later after.holds;
        }
      ]
