-- The tests of names are those of equality.
use Rattle.std.proofs.Common.{◌≡◌, ℕ, Bool, true, false, ◌&&◌, nat_eq, refl, ap, subst, arith}
use Rattle.std.proofs.lemmas.Bool.Decides.{nat_tests}
use Rattle.stamp_id.proofs.IdLemmas.{ballot_by_parts, id_by_parts}
use Rattle.stamp_id.specs.declared.version.VersionId.{VersionId}
use Rattle.call_types.specs.declared.names.VersionName.{VersionName}
use Rattle.call_types.specs.declared.names.VersionName.TheVariants.{Null, Id}
use Rattle.version_list.specs.Naming.{same_id, same_name, SameIdIsEquality, SameNameIsEquality}

-- an id is the same as itself
pub same_id-refl : (a : VersionId) → same_id a a ≡ true
same_id-refl a = grind arith

pub same_name-refl : (a : VersionName) → same_name a a ≡ true
same_name-refl Null = refl
same_name-refl (Id a) = same_id-refl a

-- the test of two numbers is equality
nat_same : (x y : ℕ) → nat_eq x y ≡ true → x ≡ y
nat_same x y h = grind (arith, nat_tests)

and_left : (a b : Bool) → (a && b) ≡ true → a ≡ true
and_left true b h = refl
and_left false b h = cc

and_right : (a b : Bool) → (a && b) ≡ true → b ≡ true
and_right true b h = h
and_right false b h = cc

-- ids that pass the test are the same
pub same_id-true : (a b : VersionId) → same_id a b ≡ true → a ≡ b
same_id-true a b h =
    let change = and_left (nat_eq a.change.0.term b.change.0.term && nat_eq a.change.0.seq b.change.0.seq) (nat_eq a.slot b.slot) h in
    let term = nat_same _ _ (and_left (nat_eq a.change.0.term b.change.0.term) (nat_eq a.change.0.seq b.change.0.seq) change) in
    let seq = nat_same _ _ (and_right (nat_eq a.change.0.term b.change.0.term) (nat_eq a.change.0.seq b.change.0.seq) change) in
    let slot = nat_same _ _ (and_right (nat_eq a.change.0.term b.change.0.term && nat_eq a.change.0.seq b.change.0.seq) (nat_eq a.slot b.slot) h) in
    let ballot = ballot_by_parts a.change.0 b.change.0 term seq in
    let changes : a.change ≡ b.change = λ i. record { 0 = ballot i } in
    id_by_parts a b changes slot

pub same_name-true : (a b : VersionName) → same_name a b ≡ true → a ≡ b
same_name-true Null Null h = refl
same_name-true Null (Id b) h = cc
same_name-true (Id a) Null h = cc
same_name-true (Id a) (Id b) h = ap Id (same_id-true a b h)

-- the tests are those of equality
pub same_id_law : SameIdIsEquality
same_id_law a b = (same_id-true a b, λ same. subst (λ x. same_id a x ≡ true) same (same_id-refl a))

pub same_name_law : SameNameIsEquality
same_name_law a b = (same_name-true a b, λ same. subst (λ x. same_name a x ≡ true) same (same_name-refl a))
