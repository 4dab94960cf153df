-- A put begins, as a step: its flight is held, and its stage, which has done nothing yet.
use Rattle.std.proofs.Common.{◌≡◌, ◌∙◌, ◌<◌, ◌≤◌, ◌+◌, ◌*◌, ◌^◌, ℕ, List, [], ◌∷◌, ◌++◌, Contains, Option, Some, None, Result, Ok, Err, option_to_list, option_map, inl, inr, refl, sym, ap, ap₂, subst, subst₂, arith}
use Rattle.std.specs.Int.{IsBitSet}
use Rattle.std.specs.List.{flat_map}
use Rattle.std.proofs.lemmas.Grind.{flat_map-append}
use Rattle.std.proofs.lemmas.List.Elements.{Contains-append_cases, Contains-append_left, Contains-append_right}
use Rattle.call_types.specs.declared.names.Key.{Key}
use Rattle.drive_base.specs.declared.drive.Drive.{Ghosts}
use Rattle.drive_base.specs.View.{DriveView, view_at}
use Rattle.drive_base.specs.declared.plan.SetPlan.{SetPlan}
use Rattle.body_print.specs.Names.{manifest_name, shard_name}
use Rattle.put_stage.specs.Cells.{data_of}
use Rattle.stamp_id.specs.declared.version.VersionId.{VersionId}
use Rattle.version_list.specs.State.{AreDistinct}
use Rattle.slot_history.specs.Contents.{number_of_id}
use Rattle.slot_history.specs.Names.{key_name}
use Rattle.slot_history.specs.Standing.{Flying, Records}
use Rattle.slot_history.specs.State.{State}
use Rattle.slot_history.proofs.TakenLemmas.{first_there, left_apart, none_there}
use Rattle.slot_data.specs.Disks.{Disks, kept_on}
use Rattle.slot_data.specs.Holding.{Hands, Holding, Pinned}
use Rattle.slot_data.specs.Moves.{with_flight}
use Rattle.slot_data.specs.Standing.{DataStands}
use Rattle.slot_data.proofs.ListedLemmas.{one_there, put_last}
use Rattle.slot_core.specs.Numbers.{AreSpent}
use Rattle.slot_core.specs.Hands.{HandsStay}
use Rattle.slot_core.specs.Sections.{PutHolds, ShowsNoMore}
use Rattle.slot_core.specs.Turns.{Leaves, TurnsQuietly}
use Rattle.slot_core.specs.Views.{last_of}
use Rattle.slot_core.specs.declared.slot.SlotFault.{SlotFault}
use Rattle.slot_core.specs.declared.slot.SlotFault.TheVariants.{SeqSpent}
use Rattle.slot_core.specs.declared.holding.Flight.{Flight}
use Rattle.slot_core.specs.declared.stub.Stub.{Stub}
use Rattle.receipts.specs.Events.Shown.{NoneShown}
use Rattle.receipts.specs.Registers.{key_slot}
use Rattle.op_steps.specs.Claims.{AllApart, Claim, HoldsAt, IsExpected, IsMet, KeepsNone, Staging, among, claims_at, disks_of, flights_in, hands_of, no_claim}
use Rattle.op_steps.specs.Claims.Expected.{Exactly}
use Rattle.op_steps.specs.Moves.{TurnMoves, IsBegun}
use Rattle.op_steps.specs.Store.{SlotSeen}
use Rattle.op_steps.proofs.DataLemmas.{last_rises}
use Rattle.object_ops.specs.PutStands.{HoldsPut, no_cells}
use Rattle.op_steps.proofs.ClaimLemmas.{at_own}
use Rattle.object_ops.proofs.PutDisks.{kept_in_use, kept_out}
use Rattle.object_ops.proofs.PutMine.{Other, Own, flight_of, flights_with, flights_without, other_there, own_there, still_claimed, whose}
use Rattle.object_ops.proofs.ReadingLists.{flat_there, none_some, of_some, put_apart}
use Rattle.object_ops.proofs.TurnForms.{quiet_turn}

-- the claim of a put that has done nothing yet: nothing is under its names
abbrev pub first_staging : VersionId → Staging
first_staging id = record { id = id; expected = λ k. Exactly no_cells }

abbrev pub first_claim : ℕ → Flying → Claim
first_claim index f = record { slot = index; flight = Some f; pin = None; stage = Some (first_staging f.id); taken = []; known = [] }

-- nothing is kept under a name, where whatever is kept there is impossible
none_kept : (kept : Option (List ℕ)) → ((bytes : List ℕ) → kept ≡ Some bytes → ⊥) → kept ≡ None
none_kept None never = refl
none_kept (Some bytes) never = absurd (never bytes refl)

-- a claim with this flight
pub record Flies (claims : List Claim) (id : VersionId) : Type 0 where
  pub claim : Claim
  pub there : Contains claims claim
  pub flying : Flying
  pub flying_is : claim.flight ≡ Some flying
  pub id_is : flying.id ≡ id

own_flight : (claims : List Claim) (c : Claim) (id : VersionId) (flight : Option Flying) → c.flight ≡ flight → Contains claims c
    → Contains (option_to_list (option_map (λ (f : Flying). f.id) flight)) id → Flies claims id
own_flight claims c id None is there has = absurd (none_there id has)
own_flight claims c id (Some f) is there has = record { claim = c; there = there; flying = f; flying_is = is; id_is = one_there f.id id has }

flies : (front rest : List Claim) (id : VersionId) → Contains (flights_in front ++ flights_in rest) id → Flies (front ++ rest) id
flies front rest id has =
    let found = flat_there flight_of (front ++ rest) id (subst (λ l. Contains l id) (sym (flat_map-append flight_of front rest)) has) in
    own_flight (front ++ rest) found.0 id found.0.flight refl found.1 found.2

module _ (set : SetPlan) (index last later : ℕ) (held : Holding) (f : Flying) (unseen : Disks) (disks : List DriveView) (front rest : List Claim)
    (records after : Records) (state now : State) (rises : last ≤ later) (of_slot : f.id.slot ≡ index) (new : last < number_of_id f.id)
    (d : HoldsAt set index last held unseen disks (among front (no_claim index) rest) records state) where
  abbrev F : List Claim
  F = claims_at index front

  abbrev R : List Claim
  R = claims_at index rest

  abbrev own : Claim
  own = first_claim index f

  abbrev with_it : Holding
  with_it = with_flight held f

  was : claims_at index (among front (no_claim index) rest) ≡ among F (no_claim index) R
  was = at_own index front rest (no_claim index) refl

  is : claims_at index (among front own rest) ≡ among F own R
  is = at_own index front rest own refl

  same_list : {A : Type 0} (read : Claim → List A) → read own ≡ read (no_claim index) → flat_map read (among F own R) ≡ flat_map read (among F (no_claim index) R)
  same_list read same = flat_map-append read F (own ∷ R)
      ∙ (ap (λ l. flat_map read F ++ (l ++ flat_map read R)) same ∙ sym (flat_map-append read F (no_claim index ∷ R)))

  same_hands : hands_of (claims_at index (among front own rest)) ≡ hands_of (claims_at index (among front (no_claim index) rest))
  same_hands = ap hands_of is
      ∙ (ap₂ (λ t k. record { taken = t; known = k }) (same_list (λ (c : Claim). c.taken) refl) (same_list (λ (c : Claim). c.known) refl) ∙ sym (ap hands_of was))

  -- nothing is kept under the id
  no_manifest : (k : ℕ) → k < set.drives → kept_on (disks_of unseen set.out disks) k (manifest_name f.id) ≡ None
  no_manifest k inside = none_kept (kept_on (disks_of unseen set.out disks) k (manifest_name f.id)) (λ bytes kept.
      let low = d.stands.files.manifests k f.id bytes inside of_slot kept in omega (arith, low, new))

  no_shard : (k : ℕ) → k < set.drives → kept_on (disks_of unseen set.out disks) k (shard_name f.id) ≡ None
  no_shard k inside = none_kept (kept_on (disks_of unseen set.out disks) k (shard_name f.id)) (λ bytes kept.
      let low = d.stands.files.shards k f.id bytes inside of_slot kept in omega (arith, low, new))

  cells : (k : ℕ) → k < set.drives → (IsBitSet set.out k → ⊥) → data_of f.id (view_at disks k).files ≡ no_cells
  cells k inside in_use =
      let kept = kept_in_use unseen set disks k d.tell inside in_use in
      let loose = d.loose k f.id inside in_use of_slot new in
      let manifest = sym (ap (λ n. n (manifest_name f.id)) kept) ∙ no_manifest k inside in
      let shard = sym (ap (λ n. n (shard_name f.id)) kept) ∙ no_shard k inside in
      λ i. record { manifest = manifest i; shard = shard i; loose_manifest = loose.manifest i; loose_shard = loose.shard i }

  met_own : IsMet set with_it unseen disks own
  met_own = record {
    flight = λ g flies_so. of_some (Contains with_it.flights) f g flies_so (Contains-append_right held.flights (f ∷ []) f (first_there f []));
    pin = λ q none. absurd (none_some q none);
    staged = λ s staged. (f, refl, sym (of_some (λ (t : Staging). f.id ≡ t.id) (first_staging f.id) s staged refl));
    works = λ s staged k inside in_use.
        of_some (λ (t : Staging). IsExpected (t.expected k) (data_of t.id (view_at disks k).files)) (first_staging f.id) s staged (cells k inside in_use);
    known = λ x none. absurd (none_there x none);
    unwritten = λ g k flies_so inside out. of_some (λ (h : Flying). KeepsNone h.id (kept_on unseen k)) f g flies_so (record {
      manifest = sym (ap (λ n. n (manifest_name f.id)) (kept_out unseen set disks k d.tell inside out)) ∙ no_manifest k inside;
      shard = sym (ap (λ n. n (shard_name f.id)) (kept_out unseen set disks k d.tell inside out)) ∙ no_shard k inside;
    });
  }

  met_old : (c : Claim) → Contains (F ++ R) c → IsMet set held unseen disks c
  met_old c there = d.met c (subst (λ l. Contains l c) (sym was) (other_there F (no_claim index) R c there))

  pub begin_holds : ((hands : Hands) → DataStands set index last records state held (disks_of unseen set.out disks) hands
      → DataStands set index later after now with_it (disks_of unseen set.out disks) hands)
      → HoldsAt set index later with_it unseen disks (among front own rest) after now
  begin_holds leaves =
      let stands = leaves (hands_of (claims_at index (among front (no_claim index) rest))) d.stands in
      let apart_old = subst AllApart was d.apart in
      record {
        tell = d.tell;
        stands = subst (DataStands set index later after now with_it (disks_of unseen set.out disks)) (sym same_hands) stands;
        loose = λ k id inside in_use of above. d.loose k id inside in_use of (omega (arith, rises, above));
        met = λ c there. elim (whose F own R c (subst (λ l. Contains l c) is there)) [
          | Own same ↦ subst (IsMet set with_it unseen disks) same met_own
          | Other other ↦
              let x = met_old c other in
              record {
                flight = λ g flies_so. Contains-append_left held.flights (f ∷ []) g (x.flight g flies_so);
                pin = x.pin;
                staged = x.staged;
                works = x.works;
                known = x.known;
                unwritten = x.unwritten;
              }
        ];
        apart = subst AllApart (sym is) (record {
          flights = subst AreDistinct (sym (flights_with F R own f refl))
              (put_apart (flights_in F) f.id (flights_in R) (subst AreDistinct (flights_without F R (no_claim index) refl) apart_old.flights)
              (λ id there same.
              let t = flies F R id there in
              left_apart (λ (g : Flying). g.id) f (held.flights ++ f ∷ []) held.flights (put_last held.flights f) stands.flights.differ t.flying
              ((met_old t.claim t.there).flight t.flying t.flying_is) (t.id_is ∙ same)));
          pins = subst AreDistinct (sym (same_list (λ (c : Claim). option_to_list (option_map (λ (p : Pinned). p.ticket) c.pin)) refl)) apart_old.pins;
        });
        flights_are = λ g there. elim (Contains-append_cases held.flights (f ∷ []) g there) [
          | inl before ↦ still_claimed index front rest (no_claim index) own (λ (c : Claim). c.flight) g refl refl (λ has. absurd (none_some g has)) (d.flights_are g before)
          | inr last_one ↦ (own, subst (λ l. Contains l own) (sym is) (own_there F own R), ap (λ (h : Flying). Some h) (one_there f g last_one))
        ];
        pins_are = λ p there. still_claimed index front rest (no_claim index) own (λ (c : Claim). c.pin) p refl refl (λ has. absurd (none_some p has)) (d.pins_are p there);
      }

-- ---- as a step

module _ {D : Type 0} (ghosts : Ghosts D) where
  -- what the begin of a put says
  pub record BeginSays (was now : SlotSeen D) (at : Key) (answer : Result Flight SlotFault) (stub : Option Stub) : Type 0 where
    pub turns : TurnsQuietly was.numbers now.numbers was.entries now.entries was.faults now.faults answer stub
    pub spent : answer ≡ Err SeqSpent → AreSpent was.numbers
    pub holds : PutHolds was.numbers now.numbers at answer was.holding now.holding
    pub leaves : Leaves ghosts.tells ghosts.files was.numbers now.numbers was.holding now.holding was.lanes now.lanes stub ShowsNoMore HandsStay

  -- it began: a step after which the flight is held
  pub begin_turn : (was now : SlotSeen D) (at : Key) (flight : Flight) (disks : List DriveView) → was.numbers.index ≡ key_slot at → BeginSays was now at (Ok flight) None
      → HoldsPut at flight (first_claim was.numbers.index (record { id = flight.id; name = key_name at }))
      × TurnMoves ghosts was now None NoneShown (no_claim was.numbers.index) (first_claim was.numbers.index (record { id = flight.id; name = key_name at })) disks disks
  begin_turn was now at flight disks own x =
      let f : Flying = record { id = flight.id; name = key_name at } in
      let begun = x.holds in
      let listed : now.holding ≡ with_flight was.holding f =
      begun.listed ∙ ap (λ name. with_flight was.holding (record { id = flight.id; name = name })) begun.name_is in
      let new : last_of was.numbers < number_of_id f.id = (let term = begun.term in let seq = begun.seq in
      subst₂ (λ t s. was.numbers.term * 2 ^ 64 + was.numbers.seq < t * 2 ^ 64 + s) (sym term) (sym seq) (omega arith)) in (
        record { slot_is = own; of_slot = begun.slot ∙ own; flight_is = refl; pinless = refl; none_taken = refl; none_known = refl },
        quiet_turn ghosts was now (Ok flight) HandsStay disks (no_claim was.numbers.index) (first_claim was.numbers.index f) x.turns x.leaves
            (record { slot = refl; elsewhere = λ other. absurd (other refl) })
            (record {
              flight = λ g is. inr (of_some (IsBegun was.numbers now.numbers now.holding) f g is (record {
                slot = begun.slot;
                above = new;
                within = subst (λ (n : ℕ). number_of_id f.id ≤ n) (ap₂ (λ t s. t * 2 ^ 64 + s) (begun.term ∙ sym x.turns.numbers.term) (begun.seq ∙ sym begun.drawn))
                    (omega arith);
                listed = subst (λ (h : Holding). Contains h.flights f) (sym listed) (Contains-append_right was.holding.flights (f ∷ []) f (first_there f []));
              }));
              pin = λ p is. inl is;
              taken = λ id there. inl there;
            })
            (λ unseen front rest records after state then d left.
            subst (λ (h : Holding). HoldsAt was.numbers.set was.numbers.index (last_of now.numbers) h unseen disks
            (among front (first_claim was.numbers.index f) rest) after then) (sym listed)
            (begin_holds was.numbers.set was.numbers.index (last_of was.numbers) (last_of now.numbers) was.holding f unseen disks front rest
            records after state then (last_rises was.numbers now.numbers x.turns.numbers) begun.slot new d
            (λ hands so. subst (λ (h : Holding). DataStands was.numbers.set was.numbers.index (last_of now.numbers) after then h
            (disks_of unseen was.numbers.set.out disks) hands) listed (left hands hands refl so)))),
      )
