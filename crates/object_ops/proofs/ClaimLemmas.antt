-- What an op changes of its own claim among those of others, where it is to remove other ids.
use Rattle.std.proofs.Common.{◌≡◌, ◌≢◌, ◌⊎◌, ◌∙◌, ℕ, zero, Some, List, ◌∷◌, ◌++◌, Contains, option_to_list, option_map, inl, inr, refl, sym, ap, subst, arith}
use Rattle.std.specs.List.{flat_map}
use Rattle.std.proofs.lemmas.Grind.{flat_map-append}
use Rattle.std.proofs.lemmas.List.Elements.{Contains-append_cases, Contains-append_left, Contains-append_right}
use Rattle.stamp_id.specs.declared.version.VersionId.{VersionId}
use Rattle.drive_base.specs.declared.plan.SetPlan.{SetPlan}
use Rattle.version_list.specs.State.{AreDistinct}
use Rattle.slot_history.specs.Standing.{Flying, Records}
use Rattle.slot_history.specs.State.{State}
use Rattle.slot_history.proofs.TakenLemmas.{rest_there, there_cases}
use Rattle.slot_data.specs.Disks.{Disks}
use Rattle.slot_data.specs.Holding.{Holding, Known, Pinned}
use Rattle.slot_data.specs.Moves.{with_taken as hands_with}
use Rattle.slot_data.specs.Standing.{DataStands}
use Rattle.slot_data.proofs.HandsLemmas.{hands_are_freed}
use Rattle.op_steps.specs.Claims.{AllApart, Claim, among, claims_at, hands_of}
use Rattle.op_steps.proofs.ClaimLemmas.{claims_elsewhere}
use Rattle.op_steps.proofs.ClaimLemmas.{own_in_hand}
use Rattle.object_ops.specs.Clearing.{with_taken}

-- what is in a list with an item in its midst is that item, or is there with another item in its place
in_midst : {A : Type 0} (front rest : List A) (x y z : A) → Contains (front ++ y ∷ rest) z → (y ≡ z) ⊎ Contains (front ++ x ∷ rest) z
in_midst front rest x y z there = elim (Contains-append_cases front (y ∷ rest) z there) [
  | inl before ↦ inr (Contains-append_left front (x ∷ rest) z before)
  | inr behind ↦ elim (there_cases y rest z behind) [
    | inl same ↦ inl same
    | inr later ↦ inr (Contains-append_right front (x ∷ rest) z (rest_there x rest z later))
  ]
]

-- a put or a pin that some claim has is had still, where the claim in the midst keeps it
pub flight_stays : (front rest : List Claim) (a b : Claim) (f : Flying) → (a.flight ≡ Some f → b.flight ≡ Some f)
    → (c : Claim) × Contains (among front a rest) c × (c.flight ≡ Some f) → (c : Claim) × Contains (among front b rest) c × (c.flight ≡ Some f)
flight_stays front rest a b f keeps x = elim (in_midst front rest b a x.0 x.1) [
  | inl same ↦ (b, Contains-append_right front (b ∷ rest) b (zero, omega arith, refl), keeps (subst (λ (c : Claim). c.flight ≡ Some f) (sym same) x.2))
  | inr other ↦ (x.0, other, x.2)
]

pub pin_stays : (front rest : List Claim) (a b : Claim) (p : Pinned) → (a.pin ≡ Some p → b.pin ≡ Some p)
    → (c : Claim) × Contains (among front a rest) c × (c.pin ≡ Some p) → (c : Claim) × Contains (among front b rest) c × (c.pin ≡ Some p)
pin_stays front rest a b p keeps x = elim (in_midst front rest b a x.0 x.1) [
  | inl same ↦ (b, Contains-append_right front (b ∷ rest) b (zero, omega arith, refl), keeps (subst (λ (c : Claim). c.pin ≡ Some p) (sym same) x.2))
  | inr other ↦ (x.0, other, x.2)
]

-- one that isn't changes none of them
pub at_other : (slot : ℕ) (front rest : List Claim) (claim : Claim) (ids : List VersionId) → claim.slot ≢ slot
    → claims_at slot (among front (with_taken claim ids) rest) ≡ claims_at slot (among front claim rest)
at_other slot front rest claim ids other = claims_elsewhere slot claim.slot front rest claim (with_taken claim ids) (λ same. other (sym same))
    (record { slot = refl; elsewhere = λ wrong. absurd (wrong refl) })

module _ (front rest : List Claim) (claim : Claim) (ids : List VersionId) where
  abbrev old : List Claim
  old = among front claim rest

  abbrev new : List Claim
  new = among front (with_taken claim ids) rest

  abbrev taken_by : Claim → List VersionId
  taken_by c = c.taken

  -- an id in hand is one of the op's own, or was in hand
  taken_was : (id : VersionId) → Contains (hands_of new).taken id → Contains ids id ⊎ Contains (hands_of old).taken id
  taken_was id there =
      elim (Contains-append_cases (flat_map taken_by front) (ids ++ flat_map taken_by rest) id
      (subst (λ (l : List VersionId). Contains l id) (flat_map-append taken_by front (with_taken claim ids ∷ rest)) there)) [
        | inl before ↦ inr (was (Contains-append_left (flat_map taken_by front) (claim.taken ++ flat_map taken_by rest) id before))
        | inr behind ↦ elim (Contains-append_cases ids (flat_map taken_by rest) id behind) [
          | inl own ↦ inl own
          | inr later ↦ inr (was (Contains-append_right (flat_map taken_by front) (claim.taken ++ flat_map taken_by rest) id
              (Contains-append_right claim.taken (flat_map taken_by rest) id later)))
        ]
      ]
    where
      was : Contains (flat_map taken_by front ++ (claim.taken ++ flat_map taken_by rest)) id → Contains (hands_of old).taken id
      was x = subst (λ (l : List VersionId). Contains l id) (sym (flat_map-append taken_by front (claim ∷ rest))) x

  -- all else that is in hand stays
  abbrev same_over : {A : Type 0} (f : Claim → List A) → flat_map f (with_taken claim ids ∷ rest) ≡ flat_map f (claim ∷ rest) → flat_map f new ≡ flat_map f old
  same_over f same = flat_map-append f front (with_taken claim ids ∷ rest)
      ∙ (ap (λ l. flat_map f front ++ l) same ∙ sym (flat_map-append f front (claim ∷ rest)))

  known_same : (hands_of new).known ≡ (hands_of old).known
  known_same = same_over (λ (c : Claim). c.known) refl

  pub apart_on : AllApart old → AllApart new
  apart_on x = record {
    flights = subst AreDistinct (sym (same_over (λ (c : Claim). option_to_list (option_map (λ (f : Flying). f.id) c.flight)) refl)) x.flights;
    pins = subst AreDistinct (sym (same_over (λ (c : Claim). option_to_list (option_map (λ (p : Pinned). p.ticket) c.pin)) refl)) x.pins;
  }

  -- what is true of each claim is true of each, where it is true of the op's own
  pub each_on : (P : Claim → Type 0) → (P claim → P (with_taken claim ids)) → ((c : Claim) → Contains old c → P c) → (c : Claim) → Contains new c → P c
  each_on P own all c there = elim (in_midst front rest claim (with_taken claim ids) c there) [
    | inl same ↦ subst P same (own (all claim (Contains-append_right front (claim ∷ rest) claim (zero, omega arith, refl))))
    | inr other ↦ all c other
  ]

  -- the data stands where the op is to remove what it was to remove, or what was taken
  pub hands_on : (set : SetPlan) (slot last : ℕ) (records : Records) (state : State) (holding : Holding) (disks : Disks) (more : List VersionId)
      → ((id : VersionId) → Contains ids id → Contains claim.taken id ⊎ Contains more id)
      → DataStands set slot last records state holding disks (hands_with (hands_of old) more)
      → DataStands set slot last records state holding disks (hands_of new)
  hands_on set slot last records state holding disks more were d =
      hands_are_freed set slot last records state holding disks (hands_with (hands_of old) more) (hands_of new)
      (λ id there. elim (taken_was id there) [
        | inl own ↦ elim (were id own) [
          | inl held ↦ Contains-append_left (hands_of old).taken more id (own_in_hand front rest claim id held)
          | inr taken ↦ Contains-append_right (hands_of old).taken more id taken
        ]
        | inr other ↦ Contains-append_left (hands_of old).taken more id other
      ])
      (λ (x : Known) there. subst (λ (l : List Known). Contains l x) known_same there)
      d
