-- Groups of digits and the dots behind them.
use Rattle.std.proofs.Common.{◌≡◌, ◌↔◌, IsTrue, ℕ, ◌+◌, ◌-◌, ◌<◌, ◌≤◌, Bool, true, false, not, cond, List, ◌∷◌, ◌++◌, length, take, drop, get_or, Option, Some, None, refl, sym, ap, subst, ◌∙◌, arith, inl, inr}
use Rattle.std.specs.Prelude.{MatchOption, position, slice_index, nat_lt}
use Rattle.std.specs.List.{All, position_or_len}
use Rattle.std.proofs.lemmas.Bool.{cases_lt, lt-ltb, eqb-true}
use Rattle.std.proofs.lemmas.Bool.Decides.{nat_tests}
use Rattle.std.proofs.lemmas.List.{length-append, get_or_append_left, get_or_at, take_at, drop_at, drop-drop}
use Rattle.std.proofs.lemmas.List.Sums.{split_at_first, passes_at_first, position_or_len_is}
use Rattle.bucket_book.specs.Name.{dot, is_dot, IsDotAt, IsLetterOrDigit, IsNameByte, HasTwoDots, IsGroup, BeginsWithGroup, IsAddress, IsBucketName}

not_dot : (byte : ℕ) → 48 ≤ byte → is_dot byte ≡ false
not_dot byte low = grind (arith, nat_tests)

-- the first dot of a group with a dot behind it is that dot
dot_behind : (g rest : List ℕ) → IsGroup g → position_or_len is_dot (g ++ dot ∷ rest) ≡ length g
dot_behind g rest is =
    position_or_len_is is_dot (g ++ dot ∷ rest) (length g) 0 (omega (arith, length-append g (dot ∷ rest)))
    (λ k lt. ap is_dot (get_or_append_left g (dot ∷ rest) 0 k lt) ∙ not_dot (get_or g k 0) (is.digits k 0 lt).0)
    (λ lt. ap is_dot (get_or_at g dot rest 0 (length g) refl))

pub group_dot : (text rest : List ℕ) (b : BeginsWithGroup text rest) → position_or_len is_dot text ≡ length b.group
group_dot text rest b = ap (position_or_len is_dot) b.is ∙ dot_behind b.group rest b.is_group

-- a text without a dot begins with no group and its dot
pub no_group : (text rest : List ℕ) → length text ≤ position_or_len is_dot text → BeginsWithGroup text rest → ⊥
no_group text rest none b = omega (arith, none, group_dot text rest b, ap length b.is, length-append b.group (dot ∷ rest))

-- what stands before the first dot, and behind it
pub front_is : (text rest : List ℕ) (at : ℕ) (b : BeginsWithGroup text rest) → at ≡ position_or_len is_dot text → take at text ≡ b.group
front_is text rest at b e =
    let sized : length b.group ≡ at = sym (e ∙ group_dot text rest b) in
    ap (take at) b.is ∙ take_at b.group (dot ∷ rest) at sized

pub back_is : (text rest : List ℕ) (at : ℕ) (b : BeginsWithGroup text rest) → at ≡ position_or_len is_dot text → rest ≡ drop (at + 1) text
back_is text rest at b e =
    let sized : length b.group ≡ at = sym (e ∙ group_dot text rest b) in
    let behind : drop at text ≡ dot ∷ rest = ap (drop at) b.is ∙ drop_at b.group (dot ∷ rest) at sized in
    sym (ap (drop 1) behind) ∙ drop-drop 1 at text

begins_at : (text : List ℕ) (at : ℕ) → at ≡ position_or_len is_dot text → at < length text → text ≡ take at text ++ dot ∷ drop (at + 1) text
begins_at text at e lt =
    let within : position_or_len is_dot text < length text = omega (arith, e, lt) in
    let is_it : get_or text (position_or_len is_dot text) 0 ≡ dot = eqb-true _ _ (passes_at_first is_dot text 0 within) in
    let split = split_at_first is_dot text 0 within in
    let whole : (n : ℕ) → n ≡ position_or_len is_dot text → text ≡ take n text ++ dot ∷ drop (n + 1) text =
    λ n same. subst (λ (m : ℕ). text ≡ take m text ++ dot ∷ drop (m + 1) text) (sym same) (split ∙ ap (λ (x : ℕ). take (position_or_len is_dot text) text ++ x ∷ drop (position_or_len is_dot text + 1) text) is_it) in
    whole at e

-- A group before the first dot is what the text begins with.
pub begins_with : (text : List ℕ) (at : ℕ) → at ≡ position_or_len is_dot text → at < length text → IsGroup (take at text) → BeginsWithGroup text (drop (at + 1) text)
begins_with text at e lt is = record { group = take at text; is_group = is; is = begins_at text at e lt }

abbrev no_place : Option ℕ
no_place = None

abbrev place : ℕ → Option ℕ
place at = Some at

-- what `position` gives where a dot is there, and where none is
found_place : (text : List ℕ) (r : Option ℕ) → r ≡ position is_dot text → position_or_len is_dot text < length text → r ≡ place (position_or_len is_dot text)
found_place text r e lt = e ∙ ap (λ (within : Bool). cond within (place (position_or_len is_dot text)) no_place) (lt-ltb _ _ lt)

lost_place : (text : List ℕ) (r : Option ℕ) → r ≡ position is_dot text → length text ≤ position_or_len is_dot text → r ≡ no_place
lost_place text r e le =
    let past : nat_lt (position_or_len is_dot text) (length text) ≡ false = grind (arith, nat_tests) in
    e ∙ ap (λ (within : Bool). cond within (place (position_or_len is_dot text)) no_place) past

same_place : (a b : ℕ) → place a ≡ place b → a ≡ b
same_place a b e = cc

apart : (at : ℕ) → no_place ≡ place at → ⊥
apart at e = absurd cc

apart_too : (at : ℕ) → place at ≡ no_place → ⊥
apart_too at e = absurd cc

dot_at : (text : List ℕ) (at : ℕ) → at ≡ position_or_len is_dot text → position_or_len is_dot text < length text → IsDotAt text at
dot_at text at e lt = record { first = e; within = omega (arith, e, lt) }

pub place_cases : (text : List ℕ) (r : Option ℕ) → r ≡ position is_dot text → MatchOption r (length text ≤ position_or_len is_dot text) (IsDotAt text)
place_cases text None e =
    elim (cases_lt (position_or_len is_dot text) (length text)) [
      | inl lt ↦ absurd (apart _ (found_place text no_place e lt))
      | inr le ↦ le
    ]
place_cases text (Some at) e =
    elim (cases_lt (position_or_len is_dot text) (length text)) [
      | inl lt ↦ dot_at text at (same_place _ _ (found_place text (place at) e lt)) lt
      | inr le ↦ absurd (apart_too at (lost_place text (place at) e le))
    ]

no_true : false ≡ true → ⊥
no_true e = absurd cc

-- ---- a group and the bytes behind it

pub refuses_group : (text g : List ℕ) (at : ℕ) (passes : Bool) → IsDotAt text at → g ≡ take at text → IsTrue passes ↔ IsGroup g → passes ≡ false → (rest : List ℕ) → BeginsWithGroup text rest → ⊥
refuses_group text g at passes d cut test fails rest b =
    let is : IsGroup g = subst IsGroup (sym (cut ∙ front_is text rest at b d.first)) b.is_group in
    no_true (sym fails ∙ test.1 is)

pub takes_group : (text g rest : List ℕ) (at : ℕ) (passes : Bool) → IsDotAt text at → g ≡ take at text → rest ≡ drop (at + 1) text → IsTrue passes ↔ IsGroup g → passes ≡ true → BeginsWithGroup text rest
takes_group text g rest at passes d cut behind test holds =
    let is : IsGroup (take at text) = subst IsGroup cut (test.0 holds) in
    subst (BeginsWithGroup text) (sym behind) (begins_with text at d.first d.within is)

pub takes_alone : (text rest : List ℕ) (at : ℕ) → IsDotAt text at → rest ≡ drop (at + 1) text → (other : List ℕ) → BeginsWithGroup text other → other ≡ rest
takes_alone text rest at d behind other b = back_is text other at b d.first ∙ sym behind

-- ---- an address

-- no text begins so
abbrev pub BeginsWithNone : List ℕ → Type 0
BeginsWithNone text = (rest : List ℕ) → BeginsWithGroup text rest → ⊥

-- the bytes behind the first group and its dot are these alone
abbrev pub IsBehindAlone : List ℕ → List ℕ → Type 0
IsBehindAlone text rest = (other : List ℕ) → BeginsWithGroup text other → other ≡ rest

second_is : (name second : List ℕ) → IsBehindAlone name second → (a : IsAddress name) → BeginsWithGroup second a.third
second_is name second alone a = subst (λ (s : List ℕ). BeginsWithGroup s a.third) (alone a.second a.before_second) a.before_third

third_is : (name second third : List ℕ) → IsBehindAlone name second → IsBehindAlone second third → (a : IsAddress name) → BeginsWithGroup third a.fourth
third_is name second third alone alone_too a = subst (λ (s : List ℕ). BeginsWithGroup s a.fourth) (alone_too a.third (second_is name second alone a)) a.before_fourth

pub no_first : (name : List ℕ) → BeginsWithNone name → IsTrue false ↔ IsAddress name
no_first name none = (λ t. absurd (no_true t), λ a. absurd (none a.second a.before_second))

pub no_second : (name second : List ℕ) → IsBehindAlone name second → BeginsWithNone second → IsTrue false ↔ IsAddress name
no_second name second alone none = (λ t. absurd (no_true t), λ a. absurd (none a.third (second_is name second alone a)))

pub no_third : (name second third : List ℕ) → IsBehindAlone name second → IsBehindAlone second third → BeginsWithNone third → IsTrue false ↔ IsAddress name
no_third name second third alone alone_too none = (λ t. absurd (no_true t), λ a. absurd (none a.fourth (third_is name second third alone alone_too a)))

pub four_groups : (name second third fourth : List ℕ) (passes : Bool) → BeginsWithGroup name second → BeginsWithGroup second third → BeginsWithGroup third fourth
    → IsBehindAlone name second → IsBehindAlone second third → IsBehindAlone third fourth → IsTrue passes ↔ IsGroup fourth → IsTrue passes ↔ IsAddress name
four_groups name second third fourth passes one two three alone alone_too alone_last test = (
  λ t. record { second = second; third = third; fourth = fourth; before_second = one; before_third = two; before_fourth = three; ends = test.0 t },
  λ a. test.1 (subst IsGroup (alone_last a.fourth (third_is name second third alone alone_too a)) a.ends),
)

-- ---- a name

-- what a name has is not so
pub refused : (passes : Bool) (Part Whole : Type 0) → IsTrue passes ↔ Part → passes ≡ false → (Whole → Part) → IsTrue false ↔ Whole
refused passes Part Whole test fails part = (λ t. absurd (no_true t), λ whole. sym fails ∙ test.1 (part whole))

-- what a name has not is so
pub refused_by : (has : Bool) (Other Whole : Type 0) → IsTrue has ↔ Other → has ≡ true → (Whole → Other → ⊥) → IsTrue false ↔ Whole
refused_by has Other Whole test holds apart = (λ t. absurd (no_true t), λ whole. absurd (apart whole (test.0 holds)))

pub named : (name : List ℕ) (address : Bool) → 3 ≤ length name → length name ≤ 63 → All IsNameByte name → IsLetterOrDigit (slice_index name 0) × IsLetterOrDigit (slice_index name (length name - 1)) → (HasTwoDots name → ⊥)
    → IsTrue address ↔ IsAddress name → IsTrue (not address) ↔ IsBucketName name
named name true long short bytes ends dots test = (λ t. absurd (no_true t), λ whole. absurd (whole.no_address (test.0 refl)))
named name false long short bytes ends dots test = (λ t. record { long = long; short = short; bytes = bytes; begins = ends.0; ends = ends.1; dots = dots; no_address = λ a. no_true (test.1 a) }, λ whole. refl)

pub without : (has : Bool) (Other : Type 0) → IsTrue has ↔ Other → has ≡ false → Other → ⊥
without has Other test fails other = no_true (sym fails ∙ test.1 other)

pub holds_of : (passes : Bool) (Part : Type 0) → IsTrue passes ↔ Part → passes ≡ true → Part
holds_of passes Part test holds = test.0 holds
