-- The claim of a put among the claims of its slot: no other claim is of its flight, and none knows holders of its data.
use Rattle.std.proofs.Common.{◌≡◌, ◌≢◌, ◌∙◌, ℕ, List, [], ◌∷◌, ◌++◌, Contains, Option, Some, None, option_to_list, option_map, inl, inr, sym, ap, subst}
use Rattle.std.specs.List.{flat_map}
use Rattle.std.proofs.lemmas.Grind.{flat_map-append}
use Rattle.std.proofs.lemmas.List.Elements.{Contains-append_left, Contains-append_right, Contains-append_cases}
use Rattle.drive_base.specs.View.{DriveView}
use Rattle.drive_base.specs.declared.plan.SetPlan.{SetPlan}
use Rattle.stamp_id.specs.declared.version.VersionId.{VersionId}
use Rattle.slot_history.specs.Standing.{Flying, Records}
use Rattle.slot_history.specs.State.{State}
use Rattle.slot_history.proofs.TakenLemmas.{first_there, none_there, rest_there, there_cases}
use Rattle.slot_data.specs.Disks.{Disks}
use Rattle.slot_data.specs.Holding.{Holding, Known}
use Rattle.version_list.specs.State.{AreDistinct}
use Rattle.op_steps.specs.Claims.{AllApart, Claim, HoldsAt, IsMet, among, claims_at, flights_in, hands_of, no_claim}
use Rattle.op_steps.proofs.ClaimLemmas.{at_own}
use Rattle.object_ops.proofs.ReadingLists.{flat_has, flat_there, none_some, out_apart}

-- one of the claims is this one, or it is one of the others
pub data Whose (front : List Claim) (own : Claim) (rest : List Claim) (c : Claim) : Type 0 where
  Own : own ≡ c → Whose front own rest c
  Other : Contains (front ++ rest) c → Whose front own rest c

pub whose : (front : List Claim) (own : Claim) (rest : List Claim) (c : Claim) → Contains (among front own rest) c → Whose front own rest c
whose front own rest c there = elim (Contains-append_cases front (own ∷ rest) c there) [
  | inl before ↦ Other (Contains-append_left front rest c before)
  | inr behind ↦ elim (there_cases own rest c behind) [
    | inl same ↦ Own same
    | inr later ↦ Other (Contains-append_right front rest c later)
  ]
]

pub other_there : (front : List Claim) (own : Claim) (rest : List Claim) (c : Claim) → Contains (front ++ rest) c → Contains (among front own rest) c
other_there front own rest c there = elim (Contains-append_cases front rest c there) [
  | inl before ↦ Contains-append_left front (own ∷ rest) c before
  | inr later ↦ Contains-append_right front (own ∷ rest) c (rest_there own rest c later)
]

pub own_there : (front : List Claim) (own : Claim) (rest : List Claim) → Contains (among front own rest) own
own_there front own rest = Contains-append_right front (own ∷ rest) own (first_there own rest)

-- a claim with nothing is met
pub met_none : (set : SetPlan) (holding : Holding) (unseen : Disks) (disks : List DriveView) (index : ℕ) → IsMet set holding unseen disks (no_claim index)
met_none set holding unseen disks index = record {
  flight = λ f none. absurd (none_some f none);
  pin = λ q none. absurd (none_some q none);
  staged = λ s none. absurd (none_some s none);
  works = λ s none. absurd (none_some s none);
  known = λ x none. absurd (none_there x none);
  unwritten = λ f k none. absurd (none_some f none);
}

-- what some claim has some claim has still, where the one that is changed has it still
pub still_claimed : {X : Type 0} (index : ℕ) (front rest : List Claim) (claim later : Claim) (read : Claim → Option X) (x : X) → claim.slot ≡ index → later.slot ≡ index
    → (read claim ≡ Some x → read later ≡ Some x)
    → (c : Claim) × Contains (claims_at index (among front claim rest)) c × (read c ≡ Some x)
    → (c : Claim) × Contains (claims_at index (among front later rest)) c × (read c ≡ Some x)
still_claimed index front rest claim later read x own own_later keeps (c, there, is) =
    let F = claims_at index front in
    let R = claims_at index rest in
    let was = at_own index front rest claim own in
    let now = at_own index front rest later own_later in
    elim (whose F claim R c (subst (λ l. Contains l c) was there)) [
      | Own same ↦ (later, subst (λ l. Contains l later) (sym now) (own_there F later R), keeps (subst (λ (k : Claim). read k ≡ Some x) (sym same) is))
      | Other other ↦ (c, subst (λ l. Contains l c) (sym now) (other_there F later R c other), is)
    ]

-- the ids of the puts of claims
abbrev pub flight_of : Claim → List VersionId
flight_of c = option_to_list (option_map (λ (f : Flying). f.id) c.flight)

pub flights_with : (front rest : List Claim) (own : Claim) (f : Flying) → own.flight ≡ Some f
    → flights_in (among front own rest) ≡ flights_in front ++ f.id ∷ flights_in rest
flights_with front rest own f is = flat_map-append flight_of front (own ∷ rest)
    ∙ ap (λ (flight : Option Flying). flights_in front ++ (option_to_list (option_map (λ (g : Flying). g.id) flight) ++ flights_in rest)) is

pub flights_without : (front rest : List Claim) (own : Claim) → own.flight ≡ None → flights_in (among front own rest) ≡ flights_in front ++ flights_in rest
flights_without front rest own is = flat_map-append flight_of front (own ∷ rest)
    ∙ ap (λ (flight : Option Flying). flights_in front ++ (option_to_list (option_map (λ (g : Flying). g.id) flight) ++ flights_in rest)) is

pub flight_has : (front rest : List Claim) (c : Claim) (f : Flying) → Contains (front ++ rest) c → c.flight ≡ Some f → Contains (flights_in front ++ flights_in rest) f.id
flight_has front rest c f there is =
    subst (λ l. Contains l f.id) (flat_map-append flight_of front rest)
    (flat_has flight_of (front ++ rest) c f.id there
    (subst (λ (flight : Option Flying). Contains (option_to_list (option_map (λ (g : Flying). g.id) flight)) f.id) (sym is) (first_there f.id [])))

module _ (set : SetPlan) (index last : ℕ) (held : Holding) (unseen : Disks) (disks : List DriveView) (front rest : List Claim) (claim : Claim) (f : Flying)
    (records : Records) (state : State) (own : claim.slot ≡ index) (flies : claim.flight ≡ Some f) (none_known : claim.known ≡ [])
    (d : HoldsAt set index last held unseen disks (among front claim rest) records state) where
  abbrev pub F : List Claim
  F = claims_at index front

  abbrev pub R : List Claim
  R = claims_at index rest

  pub mine : claims_at index (among front claim rest) ≡ among F claim R
  mine = at_own index front rest claim own

  pub met_all : (c : Claim) → Contains (among F claim R) c → IsMet set held unseen disks c
  met_all c there = d.met c (subst (λ l. Contains l c) (sym mine) there)

  pub met_mine : IsMet set held unseen disks claim
  met_mine = met_all claim (own_there F claim R)

  pub met_other : (c : Claim) → Contains (F ++ R) c → IsMet set held unseen disks c
  met_other c there = met_all c (other_there F claim R c there)

  pub listed : Contains held.flights f
  listed = met_mine.flight f flies

  pub apart_all : AllApart (among F claim R)
  apart_all = subst AllApart mine d.apart

  pub distinct : AreDistinct (flights_in F ++ f.id ∷ flights_in R)
  distinct = subst AreDistinct (flights_with F R claim f flies) apart_all.flights

  -- the puts of other claims are others
  pub other_flight : (c : Claim) (g : Flying) → Contains (F ++ R) c → c.flight ≡ Some g → g.id ≢ f.id
  other_flight c g there is = out_apart (flights_in F) f.id (flights_in R) distinct g.id (flight_has F R c g there is)

  -- and none knows holders of this one's data
  pub unknown : (x : Known) → Contains (hands_of (claims_at index (among front claim rest))).known x → x.named.id ≢ f.id
  unknown x there same =
      let found = flat_there (λ (c : Claim). c.known) (among F claim R) x
      (subst (λ (l : List Claim). Contains (flat_map (λ (c : Claim). c.known) l) x) mine there) in
      elim (whose F claim R found.0 found.1) [
        | Own is ↦ absurd (none_there x (subst (λ (l : List Known). Contains l x) (ap (λ (c : Claim). c.known) (sym is) ∙ none_known) found.2))
        | Other other ↦ elim ((met_other found.0 other).known x found.2) [
          | inl g ↦ absurd (other_flight found.0 g.0 other g.1 (g.2 ∙ same))
          | inr pin ↦ absurd (d.stands.flights.unpinned f listed (record {
            pin = pin.0;
            there = (met_other found.0 other).pin pin.0 pin.1;
            names = subst (λ (y : VersionId). Contains pin.0.ids y) same pin.2;
          }))
        ]
      ]
