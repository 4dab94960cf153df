-- What is wanted, held and live by the lists that a slot keeps.
use Rattle.std.proofs.Common.{◌≡◌, ◌≢◌, ◌⊎◌, inl, inr, List, [], ◌∷◌, ◌++◌, map, Contains, refl, sym, subst}
use Rattle.std.specs.List.{AllByRecursion}
use Rattle.std.proofs.lemmas.List.{append-nil}
use Rattle.std.proofs.lemmas.List.Elements.{Contains-append_left, Contains-append_right, Contains-append_cases}
use Rattle.stamp_id.specs.declared.version.VersionId.{VersionId}
use Rattle.drive_base.specs.declared.plan.SetPlan.{SetPlan}
use Rattle.version_list.specs.State.{AreDistinct}
use Rattle.slot_history.specs.Standing.{Flying, Records}
use Rattle.slot_history.specs.State.{State, TakesOut}
use Rattle.slot_history.proofs.TakenLemmas.{first_there, rest_there, there_cases, none_there, item_of_all}
use Rattle.slot_data.specs.Disks.{Disks}
use Rattle.slot_data.specs.Holding.{Holding, IsInFlight, IsPinned, IsPinnedFor, Pinned, Purpose}
use Rattle.slot_data.specs.Holding.Purpose.{ForComplete, ForHeal, ForRead}
use Rattle.slot_data.specs.Live.{IsHeldData, IsLiveData, IsWanted}
use Rattle.slot_data.specs.Standing.{IsListed}

-- ---- lists

-- the first list is within the second
abbrev pub Within : {A : Type 0} → List A → List A → Type 0
Within {A} xs ys = (x : A) → Contains xs x → Contains ys x

-- the one item of a list
pub one_there : {A : Type 0} (x y : A) → Contains (x ∷ []) y → x ≡ y
one_there x y there = elim (there_cases x [] y there) [
  | inl same ↦ same
  | inr more ↦ absurd (none_there y more)
]

-- an item that is put last
pub put_last : {A : Type 0} (xs : List A) (x : A) → TakesOut x (xs ++ x ∷ []) xs
put_last xs x = record { front = xs; rest = []; old_is = refl; new_is = sym (append-nil xs) }

-- what is true of each item is true of each under a function
all_mapped : {A B : Type 0} (P : B → Type 0) (f : A → B) (xs : List A) → ((y : A) → Contains xs y → P (f y)) → AllByRecursion P (map f xs)
all_mapped P f [] each = tt
all_mapped P f (x ∷ xs) each = (each x (first_there x xs), all_mapped P f xs (λ y there. each y (rest_there x xs y there)))

-- an item that differs from all others is put in
insert_distinct :
    {A B : Type 0} (f : A → B) (front : List A) (x : A) (rest : List A) → AreDistinct (map f (front ++ rest))
    → ((y : A) → Contains (front ++ rest) y → f y ≢ f x) → AreDistinct (map f (front ++ x ∷ rest))
insert_distinct f [] x rest distinct apart = (all_mapped (λ z. f x ≢ z) f rest (λ y there same. apart y there (sym same)), distinct)
insert_distinct {A} f (z ∷ front) x rest distinct apart = (
  all_mapped (λ w. f z ≢ w) f (front ++ x ∷ rest)
      (λ (y : A) there. elim (Contains-append_cases front (x ∷ rest) y there) [
        | inl before ↦ item_of_all (λ w. f z ≢ w) f (front ++ rest) y distinct.0 (Contains-append_left front rest y before)
        | inr behind ↦ elim (there_cases x rest y behind) [
          | inl same ↦ subst (λ v. f z ≢ f v) same (apart z (first_there z (front ++ rest)))
          | inr later ↦ item_of_all (λ w. f z ≢ w) f (front ++ rest) y distinct.0 (Contains-append_right front rest y later)
        ]
      ]),
  insert_distinct f front x rest distinct.1 (λ y there. apart y (rest_there z (front ++ rest) y there)),
)

pub put_distinct :
    {A B : Type 0} (f : A → B) (x : A) (more xs : List A) → TakesOut x more xs → AreDistinct (map f xs)
    → ((y : A) → Contains xs y → f y ≢ f x) → AreDistinct (map f more)
put_distinct {A} f x more xs t distinct apart =
    subst (λ (l : List A). AreDistinct (map f l)) (sym t.old_is)
    (insert_distinct f t.front x t.rest (subst (λ (l : List A). AreDistinct (map f l)) t.new_is distinct)
    (λ y there. apart y (subst (λ (l : List A). Contains l y) (sym t.new_is) there)))

-- ---- longer lists list more

pub flight_more : (xs ys : List Flying) → Within xs ys → (id : VersionId) → IsInFlight xs id → IsInFlight ys id
flight_more xs ys more id is = record { flight = is.flight; there = more is.flight is.there; id_is = is.id_is }

pub pinned_more : (purpose : Purpose) (xs ys : List Pinned) → Within xs ys → (id : VersionId) → IsPinnedFor purpose xs id → IsPinnedFor purpose ys id
pinned_more purpose xs ys more id is = record { pin = is.pin; there = more is.pin is.there; purpose_is = is.purpose_is; names = is.names }

pub any_pinned_more : (xs ys : List Pinned) → Within xs ys → (id : VersionId) → IsPinned xs id → IsPinned ys id
any_pinned_more xs ys more id is = record { pin = is.pin; there = more is.pin is.there; names = is.names }

pub some_pin : (purpose : Purpose) (xs : List Pinned) (id : VersionId) → IsPinnedFor purpose xs id → IsPinned xs id
some_pin purpose xs id is = record { pin = is.pin; there = is.there; names = is.names }

pub read_pin : (pins : List Pinned) (id : VersionId) → IsPinnedFor ForRead pins id ⊎ IsPinnedFor ForHeal pins id → IsPinned pins id
read_pin pins id is = elim is [
  | inl r ↦ some_pin ForRead pins id r
  | inr h ↦ some_pin ForHeal pins id h
]

pub listed_more : (one other : Holding) → Within one.flights other.flights → Within one.pins other.pins → (id : VersionId) → IsListed one id → IsListed other id
listed_more one other flights pins id is = elim is [
  | inl f ↦ inl (flight_more one.flights other.flights flights id f)
  | inr p ↦ inr (any_pinned_more one.pins other.pins pins id p)
]

-- ---- and make more wanted, held and live

pub wanted_more :
    (records : Records) (state : State) (one other : Holding) → Within one.flights other.flights → Within one.pins other.pins
    → (id : VersionId) → IsWanted records state one id → IsWanted records state other id
wanted_more records state one other flights pins id is = elim is [
  | inl named ↦ inl named
  | inr more ↦ elim more [
    | inl coming ↦ inr (inl coming)
    | inr kept ↦ elim kept [
      | inl f ↦ inr (inr (inl (flight_more one.flights other.flights flights id f)))
      | inr p ↦ inr (inr (inr (pinned_more ForComplete one.pins other.pins pins id p)))
    ]
  ]
]

pub held_more :
    (set : SetPlan) (records : Records) (state : State) (disks : Disks) (one other : Holding) → Within one.flights other.flights → Within one.pins other.pins
    → (id : VersionId) → IsHeldData set records state one disks id → IsHeldData set records state other disks id
held_more set records state disks one other flights pins id h = (h.0, wanted_more records state one other flights pins h.0 h.1, h.2)

pub read_more :
    (xs ys : List Pinned) → Within xs ys → (id : VersionId) → IsPinnedFor ForRead xs id ⊎ IsPinnedFor ForHeal xs id
    → IsPinnedFor ForRead ys id ⊎ IsPinnedFor ForHeal ys id
read_more xs ys pins id is = elim is [
  | inl r ↦ inl (pinned_more ForRead xs ys pins id r)
  | inr h ↦ inr (pinned_more ForHeal xs ys pins id h)
]

pub live_more :
    (set : SetPlan) (records : Records) (state : State) (disks : Disks) (one other : Holding) → Within one.flights other.flights → Within one.pins other.pins
    → (id : VersionId) → IsLiveData set records state one disks id → IsLiveData set records state other disks id
live_more set records state disks one other flights pins id live = elim live [
  | inl held ↦ inl (held_more set records state disks one other flights pins id held)
  | inr p ↦ inr (p.0, read_more one.pins other.pins pins p.0 p.1, p.2)
]
