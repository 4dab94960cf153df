-- Up to which name the names of a slot are known.
use Rattle.std.proofs.Common.{◌≡◌, ◌≢◌, ◌∙◌, ℕ, ◌<◌, Bool, true, false, List, [], ◌∷◌, ◌++◌, Contains, Option, Some, None, drop, length, refl, sym, ap, subst, arith}
use Rattle.std.specs.Prelude.{nat_lt, if◌then◌else◌, unwrap_or}
use Rattle.std.specs.List.{last_or}
use Rattle.std.proofs.lemmas.Bool.{le-ltb}
use Rattle.std.proofs.lemmas.List.Elements.{All-contains, Contains-append_right}
use Rattle.drive_base.specs.Names.{IsBefore, IsPage, byte_order}
use Rattle.std.specs.declared.cmp.Ordering.TheVariants.{Less}
use Rattle.receipts.specs.Pages.{PageRule, begins_with, is_before, wants}
use Rattle.receipts.specs.Paging.{IsUpTo, Reaches}
use Rattle.receipts.proofs.OrderLemmas.{before_is_upto, upto_before, upto_trans}
use Rattle.list_ops.specs.Rounds.{name_for}
use Rattle.list_ops.specs.Sheets.{bound_after, bound_by, is_within, lesser, range}
use Rattle.list_ops.proofs.KeyLemmas.{name_range}
use Rattle.list_ops.proofs.TextLemmas.{before_is, before_of, begins_is, begins_of, between, upto_is, upto_of}

-- a name is within a bound where that isn't before it
within_by : (b : Bool) → (if b then false else true) ≡ true → b ≡ false
within_by true is = absurd (let turned : false ≡ true = is in cc)
within_by false is = refl

within_not_by : (b : Bool) → (if b then false else true) ≡ false → b ≡ true
within_not_by true is = refl
within_not_by false is = absurd (let turned : true ≡ false = is in cc)

pub within_is : (bound name : List ℕ) → is_within (Some bound) name ≡ true → is_before bound name ≡ false
within_is bound name is = within_by (is_before bound name) is

pub within_of : (bound name : List ℕ) → is_before bound name ≡ false → is_within (Some bound) name ≡ true
within_of bound name is = ap (λ b. if b then false else true) is

pub beyond_is : (bound name : List ℕ) → is_within (Some bound) name ≡ false → is_before bound name ≡ true
beyond_is bound name is = within_not_by (is_before bound name) is

module _ (rule : PageRule) (bucket : List ℕ) where
  -- the bound that a full page leaves
  data Bounds (most : ℕ) (names : List (List ℕ)) (bound : Option (List ℕ)) : Type 0 where
    Stays : bound_after rule bucket most names bound ≡ bound → Bounds most names bound
    Falls : (last : List ℕ) → bound_after rule bucket most names bound ≡ Some last → begins_with (range rule bucket) last ≡ true
        → is_within bound last ≡ true → Bounds most names bound

  falls_by : (most : ℕ) (names : List (List ℕ)) (bound last : List ℕ) (less : Bool) → is_before last bound ≡ less
      → begins_with (range rule bucket) last ≡ true → bound_after rule bucket most names (Some bound) ≡ Some (if less then last else bound)
      → Bounds most names (Some bound)
  falls_by most names bound last false less begins is = Stays is
  falls_by most names bound last true less begins is =
      Falls last is begins (within_of bound last (upto_of last bound (before_is_upto last bound (before_is last bound less))))

  lesser_bounds : (most : ℕ) (names : List (List ℕ)) (bound : Option (List ℕ)) (last : List ℕ) → begins_with (range rule bucket) last ≡ true
      → bound_after rule bucket most names bound ≡ Some (lesser bound last) → Bounds most names bound
  lesser_bounds most names None last begins is = Falls last is begins refl
  lesser_bounds most names (Some bound) last begins is = falls_by most names bound last (is_before last bound) refl begins is

  range_bounds : (most : ℕ) (names : List (List ℕ)) (bound : Option (List ℕ)) (last : List ℕ) (b : Bool) → begins_with (range rule bucket) last ≡ b
      → bound_after rule bucket most names bound ≡ (if b then Some (lesser bound last) else bound) → Bounds most names bound
  range_bounds most names bound last false begins is = Stays is
  range_bounds most names bound last true begins is = lesser_bounds most names bound last begins is

  last_bounds : (most : ℕ) (names : List (List ℕ)) (bound last : Option (List ℕ)) → bound_after rule bucket most names bound ≡ bound_by rule bucket bound last
      → Bounds most names bound
  last_bounds most names bound None is = Stays is
  last_bounds most names bound (Some last) is = range_bounds most names bound last (begins_with (range rule bucket) last) refl is

  full_bounds : (most : ℕ) (names : List (List ℕ)) (bound : Option (List ℕ)) (b : Bool)
      → bound_after rule bucket most names bound ≡ (if b then bound else bound_by rule bucket bound (last_or None names)) → Bounds most names bound
  full_bounds most names bound true is = Stays is
  full_bounds most names bound false is = last_bounds most names bound (last_or None names) is

  bounds : (most : ℕ) (names : List (List ℕ)) (bound : Option (List ℕ)) → Bounds most names bound
  bounds most names bound = full_bounds most names bound (nat_lt (length names) most) refl

  -- the bound only falls
  fallen_by : (bound : Option (List ℕ)) (last name : List ℕ) → is_within bound last ≡ true → is_within (Some last) name ≡ true
      → is_within bound name ≡ true
  fallen_by None last name below within = refl
  fallen_by (Some bound) last name below within = within_of bound name (upto_of name bound (upto_trans name last bound
      (upto_is name last (within_is last name within)) (upto_is last bound (within_is bound last below))))

  within_by_bounds : (most : ℕ) (names : List (List ℕ)) (bound : Option (List ℕ)) (name : List ℕ) → Bounds most names bound
      → is_within (bound_after rule bucket most names bound) name ≡ true → is_within bound name ≡ true
  within_by_bounds most names bound name (Stays is) within = subst (λ b. is_within b name ≡ true) is within
  within_by_bounds most names bound name (Falls last is begins below) within =
      fallen_by bound last name below (subst (λ b. is_within b name ≡ true) is within)

  pub within_before : (most : ℕ) (names : List (List ℕ)) (bound : Option (List ℕ)) (name : List ℕ)
      → is_within (bound_after rule bucket most names bound) name ≡ true → is_within bound name ≡ true
  within_before most names bound name = within_by_bounds most names bound name (bounds most names bound)

  -- it is in the range
  abbrev IsInRange : Option (List ℕ) → Type 0
  IsInRange bound = (name : List ℕ) → bound ≡ Some name → begins_with (range rule bucket) name ≡ true

  some_is : (a b : List ℕ) → Some a ≡ Some b → a ≡ b
  some_is a b same = ap (λ (o : Option (List ℕ)). unwrap_or o a) same

  range_by_bounds : (most : ℕ) (names : List (List ℕ)) (bound : Option (List ℕ)) → Bounds most names bound → IsInRange bound
      → IsInRange (bound_after rule bucket most names bound)
  range_by_bounds most names bound (Stays is) in_range = λ name same. in_range name (sym is ∙ same)
  range_by_bounds most names bound (Falls last is begins below) in_range = λ name same.
      subst (λ n. begins_with (range rule bucket) n ≡ true) (some_is last name (sym is ∙ same)) begins

  pub range_after : (most : ℕ) (names : List (List ℕ)) (bound : Option (List ℕ)) → IsInRange bound → IsInRange (bound_after rule bucket most names bound)
  range_after most names bound = range_by_bounds most names bound (bounds most names bound)

-- the last of some names
pub record HasLast (names : List (List ℕ)) : Type 0 where
  pub last : List ℕ
  pub last_is : last_or None names ≡ Some last
  pub there : Contains names last

last_behind : (first : List ℕ) (names : List (List ℕ)) → (last : List ℕ) × (last_or (Some first) names ≡ Some last) × Contains (first ∷ names) last
last_behind first [] = (first, refl, (0, omega arith, refl))
last_behind first (name ∷ names) = let found = last_behind name names in (found.0, found.1, Contains-append_right (first ∷ []) (name ∷ names) found.0 found.2)

last_of : (names : List (List ℕ)) → 0 < length names → HasLast names
last_of [] some = absurd (omega (arith, some))
last_of (name ∷ names) some = let found = last_behind name names in record { last = found.0; last_is = found.1; there = found.2 }

-- a page reaches the names of wanted keys that are within the bound behind it
module _ (rule : PageRule) (bucket : List ℕ) (bound : Option (List ℕ)) (from last name : List ℕ) (before : IsBefore last name) where
  lesser_never : (least : Bool) (limit : List ℕ) → is_before last limit ≡ least → is_within (Some (if least then last else limit)) name ≡ true → ⊥
  lesser_never true limit least within = let turned : true ≡ false = sym (before_of last name before) ∙ within_is last name within in cc
  lesser_never false limit least within =
      let turned : true ≡ false = sym (before_of limit name (upto_before limit last name (upto_is limit last least) before)) ∙ within_is limit name within in
      cc

  bound_never : (limit : Option (List ℕ)) → is_within (Some (lesser limit last)) name ≡ true → ⊥
  bound_never None within = let turned : true ≡ false = sym (before_of last name before) ∙ within_is last name within in cc
  bound_never (Some limit) within = lesser_never (is_before last limit) limit refl within

  last_never : (x y : List ℕ) (b : Bool) → from ≡ range rule bucket ++ x → name ≡ range rule bucket ++ y → IsUpTo from last
      → begins_with (range rule bucket) last ≡ b → is_within (if b then Some (lesser bound last) else bound) name ≡ true → ⊥
  last_never x y true from_is name_is upto begins within = bound_never bound within
  last_never x y false from_is name_is upto begins within =
      let found = between (range rule bucket) x y last (subst (λ n. IsUpTo n last) from_is upto) (subst (λ n. IsBefore last n) name_is before) in
      let does : begins_with (range rule bucket) last ≡ true = subst (λ n. begins_with (range rule bucket) n ≡ true) (sym found.1)
      (begins_of (range rule bucket) found.0) in
      let turned : true ≡ false = sym does ∙ begins in
      cc

pub page_reaches : (rule : PageRule) (bucket from : List ℕ) (most longest : ℕ) (names : List (List ℕ)) (bound : Option (List ℕ)) (key : List ℕ) → 0 < most
    → begins_with (range rule bucket) from ≡ true → IsPage from most longest names → wants rule key ≡ true → is_before (name_for bucket key) from ≡ false
    → is_within (bound_after rule bucket most names bound) (name_for bucket key) ≡ true
    → Reaches (record { from = from; most = most; names = names }) (name_for bucket key)
page_reaches rule bucket from most longest names bound key some begins page wanted behind within =
    let name = name_for bucket key in record {
      begins = upto_is from name behind;
      ends = λ full all.
          let last = last_of names (omega (arith, some, full)) in
          let is_full : nat_lt (length names) most ≡ false = le-ltb (length names) most (omega (arith, full)) in
          let bound_is : bound_after rule bucket most names bound ≡ bound_by rule bucket bound (Some last.last) =
          ap (λ b. if b then bound else bound_by rule bucket bound (last_or None names)) is_full ∙ ap (bound_by rule bucket bound) last.last_is in
          last_never rule bucket bound from last.last name (All-contains (λ given. IsBefore given name) names last.last all last.there)
          (drop (length (range rule bucket)) from) (drop (length rule.prefix) key) (begins_with (range rule bucket) last.last)
          (begins_is (range rule bucket) from begins) (name_range rule bucket key wanted)
          (All-contains (λ given. byte_order given from ≢ Less) names last.last page.begins last.there) refl
          (subst (λ b. is_within b name ≡ true) bound_is within);
    }
