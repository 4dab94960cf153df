-- Where lanes stand for a state, a listing of their names has each register that some change made.
use Rattle.std.specs.Prelude.{◌≡◌, ◌≢◌, ℕ, suc, zero, ◌+◌, ◌<◌, ◌≤◌, Bool, true, false, cond, IsTrue, IsSome, List, [], ◌∷◌, length, slice_index_or, count_by, Option, Some, None, refl}
use Rattle.std.specs.Int.{IsBitSet}
use Rattle.std.proofs.Common.{sym, ap, ◌∙◌, subst, inl, inr, arith}
use Rattle.std.proofs.lemmas.Bool.{eqb-true}
use Rattle.std.proofs.lemmas.List.Sums.{sum_by-cons}
use Rattle.call_types.specs.Good.{is_good}
use Rattle.call_types.specs.declared.why.FileKind.TheVariants.{Format}
use Rattle.call_types.specs.declared.why.Why.{Why}
use Rattle.call_types.specs.declared.why.Why.TheVariants.{Behind, Damaged, Failed, Good, Lacks}
use Rattle.drive_base.specs.declared.drive.Drive.{Ghosts}
use Rattle.drive_base.specs.Plan.{write_drives}
use Rattle.drive_base.specs.declared.plan.SetPlan.{SetPlan}
use Rattle.register_core.proofs.LookLemmas.{quorums_meet}
use Rattle.register_core.specs.LaneWrites.{letter_at}
use Rattle.register_core.specs.Records.{HasLane, IsHonest}
use Rattle.vote_core.specs.Lane.{Lane, backs, blank_lane, lane_at}
use Rattle.vote_core.specs.Sound.{HoldsValue}
use Rattle.slot_history.specs.Standing.{Flying, Records}
use Rattle.slot_history.specs.State.{IsHeld, State}
use Rattle.slot_core.specs.NameList.{IsGiven, IsListable, NamesAreListed, NamesLetter}
use Rattle.slot_core.specs.Standing.{SlotStands}
use Rattle.slot_core.specs.Views.{SlotNumbers, last_of, quorum_of}

-- what a test adds to a count
abbrev pub one_if : Bool → ℕ
one_if b = cond b 1 0

count_more : {X : Type 0} (p : X → Bool) (x : X) (xs : List X) → count_by p (x ∷ xs) ≡ one_if (p x) + count_by p xs
count_more p x xs = sum_by-cons (λ x. one_if (p x)) x xs

at_most : (b : Bool) → one_if b ≤ 1
at_most true = omega arith
at_most false = omega arith

-- two tests that pass together at more places than there are pass together at one
common_place : {A B : Type 0} (p : A → Bool) (q : B → Bool) (xs : List A) (ys : List B) → length xs ≡ length ys → length xs < count_by p xs + count_by q ys
    → (k : ℕ) × (k < length xs) × ((d : A) → p (slice_index_or xs k d) ≡ true) × ((d : B) → q (slice_index_or ys k d) ≡ true)
common_place p q [] [] same many = absurd (omega arith)
common_place p q [] (y ∷ ys) same many = absurd (omega arith)
common_place p q (x ∷ xs) [] same many = absurd (omega arith)
common_place {A} {B} p q (x ∷ xs) (y ∷ ys) same many = at (p x) (q y) refl refl (λ rest. common_place p q xs ys (omega arith) rest)
  where
    at : (b c : Bool) → p x ≡ b → q y ≡ c
        → (length xs < count_by p xs + count_by q ys
        → (k : ℕ) × (k < length xs) × ((d : A) → p (slice_index_or xs k d) ≡ true) × ((d : B) → q (slice_index_or ys k d) ≡ true))
        → (k : ℕ) × (k < length (x ∷ xs)) × ((d : A) → p (slice_index_or (x ∷ xs) k d) ≡ true) × ((d : B) → q (slice_index_or (y ∷ ys) k d) ≡ true)
    at true true first second below = (zero, omega arith, λ d. first, λ d. second)
    at true false first second below =
        let of_first : one_if (p x) ≡ 1 = ap one_if first in
        let of_second : one_if (q y) ≡ 0 = ap one_if second in
        let rest = below (omega (arith, count_more p x xs, count_more q y ys)) in (suc rest.0, omega (arith, rest.1), rest.2, rest.3)
    at false c first second below =
        let of_first : one_if (p x) ≡ 0 = ap one_if first in
        let of_second : one_if (q y) ≤ 1 = at_most (q y) in
        let rest = below (omega (arith, count_more p x xs, count_more q y ys)) in (suc rest.0, omega (arith, rest.1), rest.2, rest.3)

-- a good letter
good_is : (why : Why) → is_good why ≡ true → why ≡ Good
good_is Good good = refl
good_is (Failed before after) good = absurd (let apart : false ≡ true = good in cc)
good_is (Damaged damage) good = absurd (let apart : false ≡ true = good in cc)
good_is (Behind ballot) good = absurd (let apart : false ≡ true = good in cc)
good_is (Lacks kind) good = absurd (let apart : false ≡ true = good in cc)

-- a lane that backs a change keeps a file
keeps_file : (kept : Option (List ℕ)) (lane : Lane) (c ballot : ℕ) → HasLane kept lane → backs c ballot lane ≡ true → c ≢ 0 → IsSome kept
keeps_file (Some bytes) lane c ballot has passes some = refl
keeps_file None lane c ballot has passes some = absurd (some (blank_backs (subst (λ (l : Lane). backs c ballot l ≡ true) (has.3 ∙ has.2) passes)))
  where
    blank_backs : backs c ballot blank_lane ≡ true → c ≡ 0
    blank_backs passed = grind (arith, eqb-true)

-- what is kept is shown, whole or damaged
shows_file : (kept shown : Option (List ℕ)) → IsHonest kept shown → IsSome kept → IsSome shown
shows_file kept shown honest some = elim honest [
  | inl same ↦ subst (λ (o : Option (List ℕ)). IsSome o) (sym same) some
  | inr damaged ↦ subst (λ (o : Option (List ℕ)). IsSome o) (sym damaged.1) refl
]

-- an item of a list, for a place in it
item_of : {A : Type 0} (xs : List A) (k : ℕ) → k < length xs → A
item_of [] k within = absurd (omega arith)
item_of (x ∷ xs) k within = x

-- a lane with a good letter is in use
in_use : (out : Type 0) (why : Why) (old new : ℕ) → why ≡ Good → NamesLetter out why old new → out → ⊥
in_use out why old new good letter = (subst (λ (w : Why). NamesLetter out w old new) good letter).0

-- so each register that is held and that some change made is given
pub stands_listed : {D : Type 0} (ghosts : Ghosts D) (numbers : SlotNumbers) (flights : List Flying) (lanes new : List D)
    (records : Records) (state : State) (from : List ℕ) (most : ℕ) (names : List (List ℕ))
    → SlotStands ghosts.tells ghosts.files numbers flights lanes records state → NamesAreListed ghosts numbers.set from most names lanes new
    → (name : List ℕ) → IsHeld state.registers name → (state.registers name).change ≢ 0 → IsListable from name → IsGiven most names name
stands_listed {D} ghosts numbers flights lanes new records state from most names standing listed name held made listable =
    listed.are.complete place.0 d name within good told shown listable
  where
    set : SetPlan
    set = numbers.set

    c : ℕ
    c = (state.registers name).change

    holds : HoldsValue (quorum_of numbers) (last_of numbers) (records name) c (state.registers name).content
    holds = (standing.stands.under name held).holds

    top : Lane
    top = holds.sound.value.lane

    many : write_drives set.drives set.parity ≤ count_by (backs c top.base.ballot) (records name)
    many = holds.sound.backed top holds.sound.value.top.there holds.sound.value.carries

    counted : length (records name) ≡ length lanes
    counted = (standing.have.are name).counted

    drives : length (records name) ≡ set.drives
    drives = (standing.stands.lawful_under name).counted

    place : (k : ℕ) × (k < length (records name)) × ((e : Lane) → backs c top.base.ballot (slice_index_or (records name) k e) ≡ true)
        × ((w : Why) → is_good (slice_index_or listed.whys k w) ≡ true)
    place = common_place (backs c top.base.ballot) is_good (records name) listed.whys (counted ∙ sym listed.asked.lettered)
        (let meets = quorums_meet set.drives set.parity set.some_parity set.half_at_most in let enough = listed.enough in let most_lanes = many in let long = drives in omega arith)

    within : place.0 < length lanes
    within = let low = place.1 in let same = counted in omega arith

    d : D
    d = item_of lanes place.0 within

    lane : D
    lane = slice_index_or lanes place.0 d

    good : letter_at listed.whys place.0 ≡ Good
    good = good_is (letter_at listed.whys place.0) (place.3 (Lacks Format))

    used : IsBitSet set.out place.0 → ⊥
    used = in_use (IsBitSet set.out place.0) (letter_at listed.whys place.0) (ghosts.count lane) (ghosts.count (slice_index_or new place.0 d)) good (listed.asked.each place.0 d within)

    told : IsTrue (ghosts.tells lane)
    told = standing.have.tell place.0 d within used

    kept : IsSome ((ghosts.files lane).kept name)
    kept = keeps_file ((ghosts.files lane).kept name) (lane_at (records name) place.0) c top.base.ballot
        ((standing.have.are name).each place.0 d within used) (place.2 blank_lane) made

    shown : IsSome ((ghosts.files lane).shown name)
    shown = shows_file ((ghosts.files lane).kept name) ((ghosts.files lane).shown name) (standing.have.honest name place.0 d within used) kept
