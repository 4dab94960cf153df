-- The removals that are planned: of which ids, from which drives, and how many.
use Rattle.std.proofs.Common.{◌≡◌, ◌<◌, ◌≤◌, ◌*◌, ◌^◌, ◌==◌, ℕ, zero, suc, Bool, true, false, bit_and, List, [], ◌∷◌, All, Contains, Result, Ok, cond, length, map, filter, not, inl, inr, refl, sym, ap, subst, arith}
use Rattle.std.specs.Int.{IsBitSet}
use Rattle.std.specs.List.{flat_map, list_any}
use Rattle.std.proofs.Math.Nat.{mul-le-mul_right}
use Rattle.std.proofs.lemmas.Bool.{eqb-true}
use Rattle.std.proofs.lemmas.List.{length-append, length-map, length-take}
use Rattle.std.proofs.lemmas.List.Concat.{length-flat_map}
use Rattle.std.proofs.lemmas.List.Elements.{All-contains_itself, All-weaker, Contains-append_cases}
use Rattle.std.proofs.lemmas.List.Sums.{sum_by-le}
use Rattle.drive_base.specs.declared.plan.SetPlan.{SetPlan}
use Rattle.stamp_id.specs.declared.version.VersionId.{VersionId}
use Rattle.slot_history.proofs.TakenLemmas.{first_there, none_there, rest_there, there_cases}
use Rattle.slot_data.specs.Holding.{Holding}
use Rattle.slot_data.specs.Rows.{pin_names}
use Rattle.slot_data.specs.declared.rows.PinRow.{PinRow}
use Rattle.slot_core.specs.Sections.{TrashHolds}
use Rattle.slot_core.specs.declared.slot.SlotFault.{SlotFault}
use Rattle.object_ops.specs.Clearing.{IsPlannedOf, taken_of, AreDue, FileOn, IsDue, drives_below, ids_of, of_drives, removal_order, removals_of}
use Rattle.object_ops.specs.declared.data_files.DataFile.{DataFile}
use Rattle.object_ops.specs.declared.data_files.DataFile.TheVariants.{Manifest, Shard}

-- ---- lists

-- what a function gives of a list it gives of some item
map_was : {A B : Type 0} (f : A → B) (xs : List A) (y : B) → Contains (map f xs) y → (x : A) × Contains xs x × (f x ≡ y)
map_was f [] y there = absurd (none_there y there)
map_was f (x ∷ xs) y there = elim (there_cases (f x) (map f xs) y there) [
  | inl same ↦ (x, first_there x xs, same)
  | inr later ↦ (let was = map_was f xs y later in (was.0, rest_there x xs was.0 was.1, was.2))
]

flat_was : {A B : Type 0} (f : A → List B) (xs : List A) (y : B) → Contains (flat_map f xs) y → (x : A) × Contains xs x × Contains (f x) y
flat_was f [] y there = absurd (none_there y there)
flat_was f (x ∷ xs) y there = elim (Contains-append_cases (f x) (flat_map f xs) y there) [
  | inl here ↦ (x, first_there x xs, here)
  | inr later ↦ (let was = flat_was f xs y later in (was.0, rest_there x xs was.0 was.1, was.2))
]

-- what is true of each item that is there is true of all
all_there : {A : Type 0} (P : A → Type 0) (xs : List A) → ((x : A) → Contains xs x → P x) → All P xs
all_there P xs each = All-weaker (Contains xs) P each xs (All-contains_itself xs)

-- an item that is there only where a test is true
cond_there : {A : Type 0} (b : Bool) (xs : List A) (y : A) → Contains (cond b xs []) y → (b ≡ true) × Contains xs y
cond_there true xs y there = (refl, there)
cond_there false xs y there = absurd (none_there y there)

-- ---- drives

below_in_use : (set : SetPlan) (n k : ℕ) → Contains (drives_below set n) k → (k < n) × (IsBitSet set.out k → ⊥)
below_in_use set zero k there = absurd (none_there k there)
below_in_use set (suc n) k there = elim (Contains-append_cases (drives_below set n) (cond (bit_and set.out (2 ^ n) == 0) (n ∷ []) []) k there) [
  | inl before ↦ (let was = below_in_use set n k before in let low = was.0 in (omega (arith, low), was.1))
  | inr here ↦
      let only = cond_there (bit_and set.out (2 ^ n) == 0) (n ∷ []) k here in
      elim (there_cases n [] k only.1) [
        | inl same ↦ (
          omega (arith, same),
          subst (λ i. IsBitSet set.out i → ⊥) same (λ out. out (eqb-true (bit_and set.out (2 ^ n)) 0 only.0)),
        )
        | inr more ↦ absurd (none_there k more)
      ]
]

few_of : {A : Type 0} (b : Bool) (x : A) → length (cond b (x ∷ []) []) ≤ 1
few_of true x = omega arith
few_of false x = omega arith

below_few : (set : SetPlan) (n : ℕ) → length (drives_below set n) ≤ n
below_few set zero = omega arith
below_few set (suc n) =
    let long = length-append (drives_below set n) (cond (bit_and set.out (2 ^ n) == 0) (n ∷ []) []) in
    let few = below_few set n in
    let one = few_of (bit_and set.out (2 ^ n) == 0) n in
    omega (arith, long, few, one)

-- ---- removals

drives_due : (set : SetPlan) (slot : ℕ) (id : VersionId) (kind : DataFile) (file : FileOn) → id.slot ≡ slot
    → Contains (of_drives id kind (drives_below set set.drives)) file → IsDue set slot file × (id ≡ file.id)
drives_due set slot id kind file own there =
    let was = map_was (λ k. record { id = id; kind = kind; drive = k }) (drives_below set set.drives) file there in
    let low = below_in_use set set.drives was.0 was.1 in
    subst (λ (f : FileOn). IsDue set slot f × (id ≡ f.id)) was.2 (record { within = low.0; in_use = low.1; of_slot = own }, refl)

order_due : (set : SetPlan) (slot : ℕ) (ids : List VersionId) (file : FileOn) → Contains (removal_order set slot ids) file
    → IsDue set slot file × Contains ids file.id
order_due set slot ids file there =
    let was = flat_was (λ (id : VersionId). cond (id.slot == slot) (removals_of set id) []) ids file there in
    let own = cond_there (was.0.slot == slot) (removals_of set was.0) file was.2 in
    let due : IsDue set slot file × (was.0 ≡ file.id) = elim (Contains-append_cases (of_drives was.0 Shard (drives_below set set.drives))
    (of_drives was.0 Manifest (drives_below set set.drives)) file own.1) [
      | inl shard ↦ drives_due set slot was.0 Shard file (eqb-true was.0.slot slot own.0) shard
      | inr manifest ↦ drives_due set slot was.0 Manifest file (eqb-true was.0.slot slot own.0) manifest
    ] in
    (due.0, subst (Contains ids) due.1 was.1)

pub planned_due : (set : SetPlan) (slot : ℕ) (answer : Result (List VersionId) SlotFault) (left : List FileOn) → IsPlannedOf set slot answer left
    → AreDue set slot left
planned_due set slot answer left (inl none) = subst (AreDue set slot) (sym none) (all_there (IsDue set slot) [] (λ file there. absurd (none_there file there)))
planned_due set slot answer left (inr (ids, is, order)) =
    subst (AreDue set slot) (sym order) (all_there (IsDue set slot) (removal_order set slot ids) (λ file there. (order_due set slot ids file there).0))

-- their ids were taken
pub planned_taken : (set : SetPlan) (slot : ℕ) (answer : Result (List VersionId) SlotFault) (left : List FileOn) → IsPlannedOf set slot answer left
    → (id : VersionId) → Contains (ids_of left) id → Contains (taken_of answer) id
planned_taken set slot answer left (inl none) id there = absurd (none_there id (subst (λ (l : List FileOn). Contains (ids_of l) id) none there))
planned_taken set slot answer left (inr (ids, is, order)) id there =
    let was = map_was (λ (f : FileOn). f.id) left id there in
    subst (λ (a : Result (List VersionId) SlotFault). Contains (taken_of a) id) (sym is)
    (subst (Contains ids) was.2 (order_due set slot ids was.0 (subst (λ (l : List FileOn). Contains l was.0) order was.1)).1)

-- they are few
id_few : (set : SetPlan) (slot : ℕ) (id : VersionId) → length (cond (id.slot == slot) (removals_of set id) []) ≤ 2 * set.drives
id_few set slot id = by (id.slot == slot)
  where
    by : (b : Bool) → length (cond b (removals_of set id) []) ≤ 2 * set.drives
    by true =
        let both = length-append (of_drives id Shard (drives_below set set.drives)) (of_drives id Manifest (drives_below set set.drives)) in
        let shards : length (of_drives id Shard (drives_below set set.drives)) ≡ length (drives_below set set.drives) =
        length-map {B = FileOn} (drives_below set set.drives) (λ k. record { id = id; kind = Shard; drive = k }) in
        let manifests : length (of_drives id Manifest (drives_below set set.drives)) ≡ length (drives_below set set.drives) =
        length-map {B = FileOn} (drives_below set set.drives) (λ k. record { id = id; kind = Manifest; drive = k }) in
        let few = below_few set set.drives in
        omega (arith, both, shards, manifests, few)
    by false = omega arith

order_few : (set : SetPlan) (slot : ℕ) (ids : List VersionId) → length ids ≤ 16 → length (removal_order set slot ids) ≤ 32 * set.drives
order_few set slot ids few =
    let f : VersionId → List FileOn = λ id. cond (id.slot == slot) (removals_of set id) [] in
    let long = length-flat_map f ids in
    let each = sum_by-le (λ id. length (f id)) (2 * set.drives) ids (λ k d low. id_few set slot _) in
    let most : length ids * (2 * set.drives) ≤ 16 * (2 * set.drives) = mul-le-mul_right (2 * set.drives) few in
    omega (arith, long, each, most)

taken_few : (rows : List PinRow) (old new : Holding) (answer : Result (List VersionId) SlotFault) (ids : List VersionId) → answer ≡ Ok ids
    → TrashHolds 16 rows old new answer → length ids ≤ 16
taken_few rows old new answer ids is holds =
    let first = subst (TrashHolds 16 rows old new) is holds in
    let long = ap (λ (l : List VersionId). length l) first.taken in
    let cut = length-take 16 (filter (λ id. not (list_any (pin_names id) rows)) old.trash) in
    omega (arith, long, cut)

pub planned_few : (set : SetPlan) (slot : ℕ) (rows : List PinRow) (old new : Holding) (answer : Result (List VersionId) SlotFault) (left : List FileOn)
    → TrashHolds 16 rows old new answer → IsPlannedOf set slot answer left → length left ≤ 32 * set.drives
planned_few set slot rows old new answer left holds (inl none) = let long = ap (λ (l : List FileOn). length l) none in omega (arith, long)
planned_few set slot rows old new answer left holds (inr (ids, is, order)) =
    let long = ap (λ (l : List FileOn). length l) order in
    let few = order_few set slot ids (taken_few rows old new answer ids is holds) in
    omega (arith, long, few)
