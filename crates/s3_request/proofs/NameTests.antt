-- The test of a bucket's name tests what it says.
use Rattle.std.proofs.Common.{◌≡◌, ◌↔◌, IsTrue, ℕ, zero, suc, ◌+◌, ◌-◌, ◌≤◌, Bool, true, false, not, List, [], ◌∷◌, length, refl, sym, subst, ◌∙◌, arith, inl, inr}
use Rattle.std.specs.Prelude.{◌⊎◌, ◌&&◌, ◌||◌, ◌==◌, nat_le, slice_index}
use Rattle.std.specs.List.{All, list_all, position_or_len}
use Rattle.std.proofs.lemmas.Bool.{eqb-true, eq-eqb, leb-true, le-leb, ltb-true, lt-ltb, cases_lt}
use Rattle.std.proofs.lemmas.List.Sums.{AllPass-from_list_all, list_all-from_AllPass}
use Rattle.bucket_book.specs.Name.{dot, is_dot, IsLetterOrDigit, IsNameByte, HasTwoDots, IsGroup, BeginsWithGroup, IsAddress, IsBucketName}
use Rattle.bucket_book.proofs.NameLemmas.{begins_with, front_is, back_is, no_group, no_first, no_second, no_third, four_groups}
use Rattle.s3_request.specs.Names.{is_digit, is_letter_or_digit, is_name_byte, has_two_dots, is_group, before_dot, behind_dot, begins_with_group, is_address, is_bucket_name}

-- a test is true exactly where this holds
abbrev pub Tests : Bool → Type 0 → Type 0
Tests test Holds = IsTrue test ↔ Holds

no_true : false ≡ true → ⊥
no_true e = absurd cc

both : (a b : Bool) → (a && b) ≡ true → (a ≡ true) × (b ≡ true)
both true b e = (refl, e)
both false b e = absurd (no_true e)

and_tests : (a b : Bool) (P Q : Type 0) → Tests a P → Tests b Q → Tests (a && b) (P × Q)
and_tests true b P Q p q = (λ t. (p.0 refl, q.0 t), λ h. q.1 h.1)
and_tests false b P Q p q = (λ t. absurd (no_true t), λ h. p.1 h.0)

or_tests : (a b : Bool) (P Q : Type 0) → Tests a P → Tests b Q → Tests (a || b) (P ⊎ Q)
or_tests true b P Q p q = (λ t. inl (p.0 refl), λ h. refl)
or_tests false b P Q p q = (
  λ t. inr (q.0 t),
  λ h. elim h [
    | inl x ↦ absurd (no_true (p.1 x))
    | inr y ↦ q.1 y
  ],
)

not_tests : (a : Bool) (P : Type 0) → Tests a P → Tests (not a) (P → ⊥)
not_tests true P p = (λ t. absurd (no_true t), λ never. absurd (never (p.0 refl)))
not_tests false P p = (λ t. λ h. no_true (p.1 h), λ never. refl)

le_tests : (a b : ℕ) → Tests (nat_le a b) (a ≤ b)
le_tests a b = (leb-true a b, le-leb a b)

eq_tests : (a b : ℕ) → Tests (a == b) (a ≡ b)
eq_tests a b = (eqb-true a b, eq-eqb a b)

all_tests : (test : ℕ → Bool) (P : ℕ → Type 0) → ((x : ℕ) → Tests (test x) (P x)) → (xs : List ℕ) → Tests (list_all test xs) (All P xs)
all_tests test P each xs = (
  λ t. λ k d inside. (each _).0 (AllPass-from_list_all test xs t k d inside),
  λ all. list_all-from_AllPass test xs (λ k d inside. (each _).1 (all k d inside)),
)

digit_tests : (byte : ℕ) → Tests (is_digit byte) ((48 ≤ byte) × (byte ≤ 57))
digit_tests byte = and_tests _ _ _ _ (le_tests 48 byte) (le_tests byte 57)

letter_tests : (byte : ℕ) → Tests (is_letter_or_digit byte) (IsLetterOrDigit byte)
letter_tests byte = or_tests _ _ _ _ (and_tests _ _ _ _ (le_tests 97 byte) (le_tests byte 122)) (digit_tests byte)

byte_tests : (byte : ℕ) → Tests (is_name_byte byte) (IsNameByte byte)
byte_tests byte = or_tests _ _ _ _ (letter_tests byte) (or_tests _ _ _ _ (eq_tests byte dot) (eq_tests byte 45))

dots_further : (byte : ℕ) (rest : List ℕ) → HasTwoDots rest → HasTwoDots (byte ∷ rest)
dots_further byte rest (k, inside, one, two) =
    let e : suc (k + 1) ≡ suc k + 1 = omega arith in (suc k, omega (arith, inside), one, subst (λ (n : ℕ). slice_index (byte ∷ rest) n ≡ dot) e two)

dots_here : (byte : ℕ) (rest : List ℕ) → (byte ≡ dot) × (slice_index rest 0 ≡ dot) → HasTwoDots (byte ∷ rest)
dots_here byte [] (one, two) = absurd (omega (arith, two))
dots_here byte (next ∷ rest) (one, two) = (0, omega arith, one, two)

dots_at : (byte : ℕ) (rest : List ℕ) → HasTwoDots (byte ∷ rest) → ((byte ≡ dot) × (slice_index rest 0 ≡ dot)) ⊎ HasTwoDots rest
dots_at byte rest (zero, inside, one, two) = inl (one, two)
dots_at byte rest (suc k, inside, one, two) =
    let e : suc k + 1 ≡ suc (k + 1) = omega arith in inr (k, omega (arith, inside), one, subst (λ (n : ℕ). slice_index (byte ∷ rest) n ≡ dot) e two)

dots_tests : (name : List ℕ) → Tests (has_two_dots name) (HasTwoDots name)
dots_tests [] = (λ t. absurd (no_true t), λ two. absurd (omega (arith, two.1)))
dots_tests (byte ∷ rest) =
    let here = and_tests _ _ _ _ (eq_tests byte dot) (eq_tests (slice_index rest 0) dot) in
    let step = or_tests _ _ _ _ here (dots_tests rest) in (
      λ t. elim (step.0 t) [
        | inl two ↦ dots_here byte rest two
        | inr two ↦ dots_further byte rest two
      ],
      λ two. step.1 (dots_at byte rest two),
    )

group_tests : (text : List ℕ) → Tests (is_group text) (IsGroup text)
group_tests text =
    let parts = and_tests _ _ _ _ (and_tests _ _ _ _ (le_tests 1 (length text)) (le_tests (length text) 3)) (all_tests is_digit _ digit_tests text) in (
      λ t. let p = parts.0 t in record { some = p.0.0; few = p.0.1; digits = p.1 },
      λ is. parts.1 ((is.some, is.few), is.digits),
    )

-- ---- an address

front_found : (text : List ℕ) → begins_with_group text ≡ true → BeginsWithGroup text (behind_dot text)
front_found text t =
    let p = both _ _ t in
    begins_with text (position_or_len is_dot text) refl (ltb-true _ _ p.0) ((group_tests (before_dot text)).0 p.1)

-- what begins a text is what stands before its first dot
front_only : (text rest : List ℕ) → BeginsWithGroup text rest → begins_with_group text ≡ true
front_only text rest b = elim (cases_lt (position_or_len is_dot text) (length text)) [
  | inl lt ↦ rw (lt-ltb _ _ lt) ((group_tests (before_dot text)).1 (rw (front_is text rest _ b refl) b.is_group))
  | inr le ↦ absurd (no_group text rest le b)
]

alone : (text rest : List ℕ) → BeginsWithGroup text rest → rest ≡ behind_dot text
alone text rest b = back_is text rest _ b refl

-- a text that begins with no group and its dot
never : (text : List ℕ) → begins_with_group text ≡ false → (rest : List ℕ) → BeginsWithGroup text rest → ⊥
never text f rest b = no_true (sym f ∙ front_only text rest b)

address_by : (name : List ℕ) (one two three : Bool) → begins_with_group name ≡ one → begins_with_group (behind_dot name) ≡ two
    → begins_with_group (behind_dot (behind_dot name)) ≡ three
    → Tests (one && two && three && is_group (behind_dot (behind_dot (behind_dot name)))) (IsAddress name)
address_by name false two three is is2 is3 = no_first name (never name is)
address_by name true false three is is2 is3 = no_second name (behind_dot name) (alone name) (never (behind_dot name) is2)
address_by name true true false is is2 is3 =
    no_third name (behind_dot name) (behind_dot (behind_dot name)) (alone name) (alone (behind_dot name)) (never (behind_dot (behind_dot name)) is3)
address_by name true true true is is2 is3 =
    let second = behind_dot name in
    let third = behind_dot second in
    four_groups name second third (behind_dot third) _ (front_found name is) (front_found second is2) (front_found third is3) (alone name) (alone second)
    (alone third) (group_tests (behind_dot third))

address_tests : (name : List ℕ) → Tests (is_address name) (IsAddress name)
address_tests name = address_by name _ _ _ refl refl refl

-- ---- a name

pub is_bucket_name-is : (name : List ℕ) → Tests (is_bucket_name name) (IsBucketName name)
unfolding is_bucket_name
is_bucket_name-is name =
    let sized = and_tests _ _ _ _ (le_tests 3 (length name)) (le_tests (length name) 63) in
    let bytes = and_tests _ _ _ _ sized (all_tests is_name_byte _ byte_tests name) in
    let begins = and_tests _ _ _ _ bytes (letter_tests (slice_index name 0)) in
    let ends = and_tests _ _ _ _ begins (letter_tests (slice_index name (length name - 1))) in
    let dots = and_tests _ _ _ _ ends (not_tests _ _ (dots_tests name)) in
    let all = and_tests _ _ _ _ dots (not_tests _ _ (address_tests name)) in (
      λ t. let p = all.0 t in record {
        long = p.0.0.0.0.0.0;
        short = p.0.0.0.0.0.1;
        bytes = p.0.0.0.0.1;
        begins = p.0.0.0.1;
        ends = p.0.0.1;
        dots = p.0.1;
        no_address = p.1;
      },
      λ is. all.1 ((((((is.long, is.short), is.bytes), is.begins), is.ends), is.dots), is.no_address),
    )
