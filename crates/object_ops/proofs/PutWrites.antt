-- The data of the slots while a put writes under its own id.
use Rattle.std.proofs.Common.{◌≡◌, ◌≢◌, ◌⊎◌, ◌∙◌, ◌<◌, ◌≤◌, ℕ, List, [], ◌∷◌, ◌++◌, Contains, Option, Some, None, option_to_list, option_map, inl, inr, refl, sym, ap, ap₂, subst, subst₂, arith}
use Rattle.std.specs.Int.{IsBitSet}
use Rattle.std.specs.List.{flat_map}
use Rattle.std.proofs.lemmas.Bool.Decides.{eqb_tells}
use Rattle.std.proofs.lemmas.Grind.{flat_map-append}
use Rattle.stamp_id.specs.declared.version.VersionId.{VersionId}
use Rattle.drive_base.specs.View.{DriveView, view_at}
use Rattle.drive_base.specs.declared.plan.SetPlan.{SetPlan}
use Rattle.manifest_file.specs.Canonical.{IsCanonical}
use Rattle.manifest_file.specs.Spelling.{file_of}
use Rattle.manifest_file.specs.declared.manifest.Manifest.{Manifest}
use Rattle.manifest_file.proofs.LawProofs.{files_injective}
use Rattle.body_print.specs.Names.{manifest_name}
use Rattle.put_stage.specs.Cells.{data_of}
use Rattle.put_stage.specs.Work.{HasNoneLoose}
use Rattle.slot_history.specs.Contents.{number_of_id}
use Rattle.slot_history.specs.Names.{key_name}
use Rattle.slot_history.specs.Standing.{Flying, Records}
use Rattle.slot_history.specs.State.{State}
use Rattle.slot_data.specs.DiskLaws.{MayBeKept}
use Rattle.slot_data.specs.Disks.{Disks, HasPart, IsForKeyOf, IsSingle, Keeps, kept_on}
use Rattle.slot_data.specs.Holding.{Hands, Holding, Pinned}
use Rattle.slot_data.specs.Standing.{DataStands}
use Rattle.slot_data.proofs.ElsewhereLemmas.{elsewhere_is_written}
use Rattle.slot_data.proofs.FlightWriteLemmas.{flight_writes}
use Rattle.slot_data.proofs.ListedLemmas.{one_there}
use Rattle.slot_core.specs.Views.{SlotNumbers, last_of}
use Rattle.version_list.specs.State.{AreDistinct}
use Rattle.op_steps.specs.Claims.{AllApart, Claim, DataHolds, DisksTell, IsExpected, IsMet, Staging, among, claims_at, disks_of, hands_of}
use Rattle.op_steps.specs.Moves.{RecordsStand}
use Rattle.op_steps.proofs.ClaimLemmas.{claims_elsewhere}
use Rattle.op_steps.proofs.ClaimLemmas.{at_own}
use Rattle.object_ops.specs.PutTarget.{key_of, register_of}
use Rattle.object_ops.specs.declared.put_target.PutTarget.{PutTarget}
use Rattle.object_ops.proofs.PutTargets.{register_for}
use Rattle.object_ops.proofs.PutDisks.{WritesUnder, cells_same, kept_beside, only_under, tell_after}
use Rattle.object_ops.proofs.PutMine.{Other, Own, listed, met_other, mine, other_flight, still_claimed, unknown, whose}

-- the one manifest that a put may write: for its register, and of this id alone
pub record IsMade (target : PutTarget) (id : VersionId) (m : Manifest) : Type 0 where
  pub canonical : IsCanonical m
  pub name_is : m.name ≡ register_of target
  pub single : IsSingle m id

some_is : (a b : List ℕ) → Some a ≡ Some b → a ≡ b
some_is a b e = cc

-- its part is its own data
pub own_part : (m : Manifest) (id other : VersionId) → IsSingle m id → HasPart m other → other ≡ id
own_part m id other single has =
    let same = one_there single.0 has.part (subst (λ l. Contains l has.part) single.1 has.there) in
    sym has.id_is ∙ (ap (λ p. p.id) (sym same) ∙ single.2)

-- what a call leaves of the manifest on its drive: as it was, or none, or the put's
pub data ManifestMoves (target : PutTarget) (id : VersionId) (old new : Option (List ℕ)) : Type 0 where
  Stays : new ≡ old → ManifestMoves target id old new
  IsNone : new ≡ None → ManifestMoves target id old new
  IsPut : (m : Manifest) → IsMade target id m → new ≡ Some (file_of m) → ManifestMoves target id old new

module _ (set : SetPlan) (unseen : Disks) (target : PutTarget) (id : VersionId) (drive : ℕ) (old new : List DriveView) where
  abbrev before : Disks
  before = disks_of unseen set.out old

  abbrev after : Disks
  after = disks_of unseen set.out new

  abbrev Moves : Type 0
  Moves = ManifestMoves target id (kept_on before drive (manifest_name id)) (kept_on after drive (manifest_name id))

  -- what is kept under the id was so before, or is the put's
  pub kept_so : DisksTell set old → WritesUnder set id drive old new → Moves → (m : Manifest) → Keeps set after id m → Keeps set before id m ⊎ IsMade target id m
  kept_so tell writes moves m kept = elim (eqb_tells kept.drive drive) [
    | inl here ↦
        let is : kept_on after drive (manifest_name id) ≡ Some (file_of m) = subst (λ i. kept_on after i (manifest_name id) ≡ Some (file_of m)) here.1 kept.is in
        by moves is
    | inr apart ↦ inl (record {
      drive = kept.drive;
      within = kept.within;
      canonical = kept.canonical;
      is = sym (ap (λ n. n (manifest_name id)) (kept_beside set unseen id drive old new tell writes kept.drive kept.within apart.1)) ∙ kept.is;
    })
  ]
    where
      by : Moves → kept_on after drive (manifest_name id) ≡ Some (file_of m) → Keeps set before id m ⊎ IsMade target id m
      by (Stays same) is = inl (record { drive = drive; within = writes.inside; canonical = kept.canonical; is = sym same ∙ is })
      by (IsNone none) is = (let wrong : None ≡ Some (file_of m) = sym none ∙ is in absurd cc)
      by (IsPut made made_so placed) is =
          let same : made ≡ m = files_injective made m made_so.canonical kept.canonical (some_is (file_of made) (file_of m) (sym placed ∙ is)) in
          inr (subst (IsMade target id) same made_so)

-- ---- the claims

module _ (set : SetPlan) (index last : ℕ) (held : Holding) (unseen : Disks) (id : VersionId) (drive : ℕ) (old new : List DriveView) (tell : DisksTell set old)
    (writes : WritesUnder set id drive old new) where
  -- a claim whose stage is of another id is met as before
  pub met_after : (c : Claim) → ((s : Staging) → c.stage ≡ Some s → s.id ≢ id) → IsMet set held unseen old c → IsMet set held unseen new c
  met_after c apart x = record {
    flight = x.flight;
    pin = x.pin;
    staged = x.staged;
    works = λ s is k inside in_use. subst (IsExpected (s.expected k))
        (sym (cells_same set unseen id drive old new tell writes s.id k inside in_use (apart s is))) (x.works s is k inside in_use);
    known = x.known;
    unwritten = x.unwritten;
  }

  -- and no more files of another id are being written
  pub loose_after : (k : ℕ) (other : VersionId) → k < set.drives → (IsBitSet set.out k → ⊥) → other ≢ id → HasNoneLoose (data_of other (view_at old k).files)
      → HasNoneLoose (data_of other (view_at new k).files)
  loose_after k other inside in_use apart x =
      subst HasNoneLoose (sym (cells_same set unseen id drive old new tell writes other k inside in_use apart)) x

-- ---- the slot of the put

-- a claim that goes on with the same put, and holds nothing more
pub record GoesOnWith (claim later : Claim) : Type 0 where
  pub slot : later.slot ≡ claim.slot
  pub flight : later.flight ≡ claim.flight
  pub pin : later.pin ≡ claim.pin
  pub taken : later.taken ≡ claim.taken
  pub known : later.known ≡ claim.known

module _ (numbers : SlotNumbers) (held : Holding) (records : Records) (state : State) (unseen : Disks) (front rest : List Claim) (claim later : Claim) (target : PutTarget)
    (f : Flying) (drive : ℕ) (old new : List DriveView) (own : claim.slot ≡ numbers.index) (flies : claim.flight ≡ Some f) (name_is : f.name ≡ key_name (key_of target))
    (none_known : claim.known ≡ []) (goes : GoesOnWith claim later) (writes : WritesUnder numbers.set f.id drive old new)
    (moves : ManifestMoves target f.id (kept_on (disks_of unseen numbers.set.out old) drive (manifest_name f.id))
    (kept_on (disks_of unseen numbers.set.out new) drive (manifest_name f.id)))
    (stands : RecordsStand numbers held records state) (d : DataHolds numbers held unseen old (among front claim rest) records state) where
  abbrev set : SetPlan
  set = numbers.set

  abbrev index : ℕ
  index = numbers.index

  abbrev F : List Claim
  F = claims_at index front

  abbrev R : List Claim
  R = claims_at index rest

  abbrev hands : Hands
  hands = hands_of (claims_at index (among front claim rest))

  then : claims_at index (among front later rest) ≡ among F later R
  then = at_own index front rest later (goes.slot ∙ own)

  was : claims_at index (among front claim rest) ≡ among F claim R
  was = mine set index (last_of numbers) held unseen old front rest claim f records state own flies none_known d

  -- what all have in hand stays
  same_list : {A : Type 0} (read : Claim → List A) → read later ≡ read claim → flat_map read (among F later R) ≡ flat_map read (among F claim R)
  same_list read same = flat_map-append read F (later ∷ R)
      ∙ (ap (λ l. flat_map read F ++ (l ++ flat_map read R)) same ∙ sym (flat_map-append read F (claim ∷ R)))

  same_hands : hands_of (claims_at index (among front later rest)) ≡ hands
  same_hands = ap hands_of then
      ∙ (ap₂ (λ t k. record { taken = t; known = k }) (same_list (λ (c : Claim). c.taken) goes.taken) (same_list (λ (c : Claim). c.known) goes.known)
      ∙ sym (ap hands_of was))

  may_keep : (m : Manifest) → Keeps set (disks_of unseen set.out new) f.id m → Keeps set (disks_of unseen set.out old) f.id m ⊎ MayBeKept held hands f m
  may_keep m kept = elim (kept_so set unseen target f.id drive old new d.tell writes moves m kept) [
    | inl before ↦ inl before
    | inr made ↦ inr (record {
      key = subst₂ IsForKeyOf (sym name_is) (sym made.name_is) (register_for target);
      pieces = λ id has. inl (own_part m f.id id made.single has);
      single = λ part. made.single;
    })
  ]

  pub stands_after : DataStands set index (last_of numbers) records state held (disks_of unseen set.out new) hands
  stands_after = flight_writes set index (last_of numbers) records state held (disks_of unseen set.out old) (disks_of unseen set.out new) hands f stands
      (listed set index (last_of numbers) held unseen old front rest claim f records state own flies none_known d)
      (only_under set unseen f.id drive old new d.tell writes)
      (unknown set index (last_of numbers) held unseen old front rest claim f records state own flies none_known d) may_keep d.stands

  -- the claims of others
  met_others : (c : Claim) → Contains (F ++ R) c → IsMet set held unseen new c
  met_others c there =
      let x = met_other set index (last_of numbers) held unseen old front rest claim f records state own flies none_known d c there in
      met_after set index (last_of numbers) held unseen f.id drive old new d.tell writes c
      (λ s is same.
      let put = x.staged s is in
      other_flight set index (last_of numbers) held unseen old front rest claim f records state own flies none_known d c put.0 there put.1 (sym put.2 ∙ same)) x

  drawn : number_of_id f.id ≤ last_of numbers
  drawn = stands.flying f (listed set index (last_of numbers) held unseen old front rest claim f records state own flies none_known d)

  -- the slot's data holds where the put's own claim is met
  pub here : IsMet set held unseen new later → DataHolds numbers held unseen new (among front later rest) records state
  here met_own = record {
    tell = tell_after set unseen f.id drive old new d.tell writes;
    stands = subst (DataStands set index (last_of numbers) records state held (disks_of unseen set.out new)) (sym same_hands) stands_after;
    loose = λ k id inside in_use of above. loose_after set index (last_of numbers) held unseen f.id drive old new d.tell writes k id inside in_use
        (λ same. let low : number_of_id id ≤ last_of numbers = subst (λ (y : VersionId). number_of_id y ≤ last_of numbers) (sym same) drawn in absurd (omega (arith, low, above)))
        (d.loose k id inside in_use of above);
    met = λ c there. elim (whose F later R c (subst (λ l. Contains l c) then there)) [
      | Own same ↦ subst (IsMet set held unseen new) same met_own
      | Other other ↦ met_others c other
    ];
    apart = subst AllApart (sym then) (record {
      flights = subst AreDistinct (sym (same_list (λ (c : Claim). option_to_list (option_map (λ (g : Flying). g.id) c.flight))
          (ap (λ (g : Option Flying). option_to_list (option_map (λ (h : Flying). h.id) g)) goes.flight))) (subst AllApart was d.apart).flights;
      pins = subst AreDistinct (sym (same_list (λ (c : Claim). option_to_list (option_map (λ (p : Pinned). p.ticket) c.pin))
          (ap (λ (g : Option Pinned). option_to_list (option_map (λ (p : Pinned). p.ticket) g)) goes.pin))) (subst AllApart was d.apart).pins;
    });
    flights_are = λ g there. still_claimed index front rest claim later (λ (c : Claim). c.flight) g own (goes.slot ∙ own) (λ has. goes.flight ∙ has) (d.flights_are g there);
    pins_are = λ p there. still_claimed index front rest claim later (λ (c : Claim). c.pin) p own (goes.slot ∙ own) (λ has. goes.pin ∙ has) (d.pins_are p there);
  }

-- ---- another slot

module _ (numbers : SlotNumbers) (held : Holding) (records : Records) (state : State) (unseen : Disks) (front rest : List Claim) (claim later : Claim) (target : PutTarget)
    (f : Flying) (drive : ℕ) (old new : List DriveView) (other : claim.slot ≢ numbers.index) (goes : GoesOnWith claim later) (of_slot : f.id.slot ≡ claim.slot)
    (writes : WritesUnder numbers.set f.id drive old new)
    (parts : (m : Manifest) (id : VersionId) → Keeps numbers.set (disks_of unseen numbers.set.out new) f.id m → HasPart m id → id.slot ≡ claim.slot)
    (stands : RecordsStand numbers held records state) (d : DataHolds numbers held unseen old (among front claim rest) records state) where
  same_claims : claims_at numbers.index (among front later rest) ≡ claims_at numbers.index (among front claim rest)
  same_claims = claims_elsewhere numbers.index claim.slot front rest claim later (λ same. other (sym same))
      (record { slot = goes.slot; elsewhere = λ wrong. absurd (wrong refl) })

  apart_from : (id : VersionId) → id.slot ≡ numbers.index → id ≢ f.id
  apart_from id of same = other (sym of_slot ∙ (ap (λ (y : VersionId). y.slot) (sym same) ∙ of))

  pub elsewhere : DataHolds numbers held unseen new (among front later rest) records state
  elsewhere = record {
    tell = tell_after numbers.set unseen f.id drive old new d.tell writes;
    stands = subst (λ (l : List Claim). DataStands numbers.set numbers.index (last_of numbers) records state held (disks_of unseen numbers.set.out new) (hands_of l))
        (sym same_claims)
        (elsewhere_is_written numbers.set numbers.index (last_of numbers) records state held (disks_of unseen numbers.set.out old)
        (disks_of unseen numbers.set.out new) (hands_of (claims_at numbers.index (among front claim rest))) f.id stands
        (λ same. other (sym of_slot ∙ same)) (only_under numbers.set unseen f.id drive old new d.tell writes)
        (λ m id kept has same. other (sym (parts m id kept has) ∙ same)) d.stands);
    loose = λ k id inside in_use of above. loose_after numbers.set numbers.index (last_of numbers) held unseen f.id drive old new d.tell writes k id inside in_use
        (apart_from id of) (d.loose k id inside in_use of above);
    met = λ c there.
        let there_was = subst (λ l. Contains l c) same_claims there in
        let x = d.met c there_was in
        met_after numbers.set numbers.index (last_of numbers) held unseen f.id drive old new d.tell writes c
        (λ s is.
        let put = x.staged s is in
        apart_from s.id (ap (λ (y : VersionId). y.slot) put.2 ∙ d.stands.flights.of_slot put.0 (x.flight put.0 put.1))) x;
    apart = subst AllApart (sym same_claims) d.apart;
    flights_are = λ g there. subst (λ (l : List Claim). (c : Claim) × Contains l c × (c.flight ≡ Some g)) (sym same_claims) (d.flights_are g there);
    pins_are = λ p there. subst (λ (l : List Claim). (c : Claim) × Contains l c × (c.pin ≡ Some p)) (sym same_claims) (d.pins_are p there);
  }
