-- Listings of the keys of a map, from what a loop over a range of them has seen.
use Rattle.std.specs.Prelude.{◌≡◌, ◌≢◌, ◌⊎◌, ℕ, ◌<◌, ◌≤◌, Bool, true, false, not, cond, IsSome, List, [], ◌∷◌, ◌++◌, length, map, filter, All, Contains, Option, Some, None, String, refl, nat_le, ◌&&◌}
use Rattle.std.proofs.Common.{Bor, sym, ap, ◌∙◌, subst, inl, inr, arith}
use Rattle.std.proofs.lemmas.Bool.{leb-true, le-leb}
use Rattle.std.proofs.lemmas.Cmp.{nat_list_cmp_total}
use Rattle.std.proofs.lemmas.Bool.Decides.{nat_tests}
use Rattle.std.proofs.lemmas.List.{map-append, append-nil}
use Rattle.std.proofs.lemmas.List.Elements.{All-nil, All-cons, All-contains, All-filter, All-map, All-weaker, All-from_recursion, recursion_from_All, All-contains_itself, Contains-append_left, Contains-append_right, Contains-append_cases, Contains-push, Contains-push_cases, filter_passes, filter-append}
use Rattle.std.proofs.lemmas.List.Kept.{IsStrictlySortedBy-filter}
use Rattle.std.proofs.lemmas.Map.Text.{is_eq-slice_cmp}
use Rattle.std.proofs.lemmas.Slice.Eq.{bytes_eq-Decides}
use Rattle.std.specs.BTreeMap.{BTreeMap, get_by_text, keys, is_at, IsOrdered}
use Rattle.std.specs.BTreeMap.Range.{entries_between}
use Rattle.std.specs.Cmp.Lexicographic.{slice_cmp}
use Rattle.std.specs.List.{AllByRecursion}
use Rattle.std.specs.List.Sorted.{IsStrictlySortedBy}
use Rattle.std.specs.Map.{lookup, keys_of}
use Rattle.std.specs.Map.Iter.{deref_pair}
use Rattle.std.specs.Option.{option_map}
use Rattle.std.specs.Ordering.{nat_cmp, is_le, ordering_reverse}
use Rattle.std.specs.String.{string_bytes, string_cmp}
use Rattle.std.specs.declared.cmp.Ordering.{Ordering}
use Rattle.std.specs.declared.cmp.Ordering.TheVariants.{Less, Equal, Greater}
use Rattle.std.specs.declared.ops.Bound.TheVariants.{Included, Unbounded}
use Rattle.drive_base.specs.Files.{Named}
use Rattle.drive_base.specs.Names.{IsPage, ListsShown, byte_order, IsBefore}

module _ {K : Type 0} where
  -- an element of a list with a first element
  Contains-cases : (x : K) (xs : List K) (q : K) → Contains (x ∷ xs) q → (x ≡ q) ⊎ Contains xs q
  Contains-cases x xs q i = elim (Contains-append_cases (x ∷ []) xs q i) as (λ _. (x ≡ q) ⊎ Contains xs q) [
    | inl here ↦ elim (Contains-push_cases [] x q here) as (λ _. (x ≡ q) ⊎ Contains xs q) [ inl none ↦ absurd (omega (arith, none.1)) | inr e ↦ inl e ]
    | inr there ↦ inr there
  ]

  -- the first element is there
  Contains-head : (x : K) (xs : List K) → Contains (x ∷ xs) x
  Contains-head x xs = Contains-append_left (x ∷ []) xs x (Contains-push [] x)

  -- a filter keeps what passes
  Contains-filter : (p : K → Bool) (xs : List K) (q : K) → p q ≡ true → Contains xs q → Contains (filter p xs) q
  Contains-filter p [] q passes i = i
  Contains-filter p (x ∷ xs) q passes i = at (p x) refl (Contains-cases x xs q i) (λ there. Contains-filter p xs q passes there)
    where
      at : (b : Bool) → p x ≡ b → (x ≡ q) ⊎ Contains xs q → (Contains xs q → Contains (filter p xs) q) → Contains (cond b (x ∷ filter p xs) (filter p xs)) q
      at true e (inl here) below = subst (Contains (x ∷ filter p xs)) here (Contains-head x (filter p xs))
      at true e (inr there) below = Contains-append_right (x ∷ []) (filter p xs) q (below there)
      at false e (inl here) below = let same : p x ≡ p q = ap p here in absurd (cc)
      at false e (inr there) below = below there

-- what holds of each element holds of each in the front
recursion_front : {K : Type 0} (P : K → Type 0) (xs ys : List K) → AllByRecursion P (xs ++ ys) → AllByRecursion P xs
recursion_front P [] ys h = tt
recursion_front P (x ∷ xs) ys h = (h.0, recursion_front P xs ys h.1)

All_front : {K : Type 0} (P : K → Type 0) (xs ys : List K) → All P (xs ++ ys) → All P xs
All_front P xs ys h = All-from_recursion P xs (recursion_front P xs ys (recursion_from_All P (xs ++ ys) h))

module _ {K : Type 0} (c : K → K → Ordering) where
  -- the front of a list in order is in order
  sorted_front : (xs ys : List K) → IsStrictlySortedBy c (xs ++ ys) → IsStrictlySortedBy c xs
  unfolding IsStrictlySortedBy
  sorted_front [] ys h = tt
  sorted_front (x ∷ xs) ys h = (recursion_front (λ y. c x y ≡ Less) xs ys h.0, sorted_front xs ys h.1)

  -- each name of the front stands before each of the rest
  sorted_parts : (xs ys : List K) → IsStrictlySortedBy c (xs ++ ys) → (y : K) → Contains ys y → All (λ x. c x y ≡ Less) xs
  unfolding IsStrictlySortedBy
  sorted_parts [] ys h y i = All-nil (λ x. c x y ≡ Less)
  sorted_parts (x ∷ xs) ys h y i = All-cons (λ x. c x y ≡ Less) x xs
      (All-contains (λ z. c x z ≡ Less) (xs ++ ys) y (All-from_recursion (λ z. c x z ≡ Less) (xs ++ ys) h.0) (Contains-append_right xs ys y i))
      (sorted_parts xs ys h.1 y i)

-- a list in the order of its images
sorted-map : {K L : Type 0} (c : L → L → Ordering) (f : K → L) (ks : List K) → IsStrictlySortedBy (λ x y. c (f x) (f y)) ks → IsStrictlySortedBy c (map f ks)
unfolding IsStrictlySortedBy
sorted-map c f [] h = h
sorted-map c f (k ∷ ks) h =
    (recursion_from_All (λ y. c (f k) y ≡ Less) (map f ks) (All-map (λ y. c (f k) y ≡ Less) f ks (All-from_recursion (λ y. c (f k) (f y) ≡ Less) ks h.0)), sorted-map c f ks h.1)

module _ {Y : Type 0} where
  -- the test by which a name is looked up
  abbrev finds : List ℕ → String Y → Bool
  finds name key = is_at (λ k. slice_cmp nat_cmp name (string_bytes k)) key

  -- it finds the key of this text
  finds-is : (name : List ℕ) (key : String Y) → finds name key ≡ true → string_bytes key ≡ name
  finds-is name key e = sym ((bytes_eq-Decides name (string_bytes key)).0 (sym (is_eq-slice_cmp name (string_bytes key)) ∙ e))

  -- and that alone
  is-finds : (name : List ℕ) (key : String Y) → string_bytes key ≡ name → finds name key ≡ true
  is-finds name key e = is_eq-slice_cmp name (string_bytes key) ∙ (bytes_eq-Decides name (string_bytes key)).1 (sym e)

module _ {Y X : Type 0} where
  -- a name that a look-up finds is among the names
  Contains-from_lookup : (name : List ℕ) (es : List (String Y × X)) → IsSome (lookup (finds name) es) → Contains (map string_bytes (keys_of es)) name
  Contains-from_lookup name [] h = absurd (cc)
  Contains-from_lookup name (e ∷ es) h = at (finds name e.0) refl h (λ below. Contains-from_lookup name es below)
    where
      at : (b : Bool) → finds name e.0 ≡ b → IsSome (cond b (Some e.1) (lookup (finds name) es))
          → (IsSome (lookup (finds name) es) → Contains (map string_bytes (keys_of es)) name) → Contains (string_bytes e.0 ∷ map string_bytes (keys_of es)) name
      at true is h below = subst (Contains (string_bytes e.0 ∷ map string_bytes (keys_of es))) (finds-is name e.0 is) (Contains-head (string_bytes e.0) (map string_bytes (keys_of es)))
      at false is h below = Contains-append_right (string_bytes e.0 ∷ []) (map string_bytes (keys_of es)) name (below h)

  -- a look-up finds a name that is among the names
  lookup-from_Contains : (name : List ℕ) (es : List (String Y × X)) → Contains (map string_bytes (keys_of es)) name → IsSome (lookup (finds name) es)
  lookup-from_Contains name [] i = absurd (omega (arith, i.1))
  lookup-from_Contains name (e ∷ es) i = at (finds name e.0) refl (Contains-cases (string_bytes e.0) (map string_bytes (keys_of es)) name i) (λ below. lookup-from_Contains name es below)
    where
      at : (b : Bool) → finds name e.0 ≡ b → (string_bytes e.0 ≡ name) ⊎ Contains (map string_bytes (keys_of es)) name
          → (Contains (map string_bytes (keys_of es)) name → IsSome (lookup (finds name) es)) → IsSome (cond b (Some e.1) (lookup (finds name) es))
      at true is i below = refl
      at false is (inl here) below = let found = is-finds name e.0 here in absurd (cc)
      at false is (inr there) below = below there

-- an image is there where the value is
IsSome-option_map : {A B : Type 0} (f : A → B) (o : Option A) → IsSome o → IsSome (option_map f o)
IsSome-option_map f (Some _) h = refl
IsSome-option_map f None h = h

-- and only there
IsSome-from_option_map : {A B : Type 0} (f : A → B) (o : Option A) → IsSome (option_map f o) → IsSome o
IsSome-from_option_map f (Some _) h = refl
IsSome-from_option_map f None h = h

-- whether a name stands at some bytes or after them, as a range of a map tests it
abbrev is_from : List ℕ → List ℕ → Bool
is_from from name = is_le (byte_order from name) && not false

-- whether a name is no longer than a listing shows
abbrev pub is_short : ℕ → List ℕ → Bool
is_short longest name = nat_le (length name) longest

-- the test is for not `Less`
from_order : (one other : Ordering) → one ≡ ordering_reverse other → (is_le other && not false) ≡ true → one ≢ Less
from_order Less Less e h d = cc
from_order Less Equal e h d = cc
from_order Less Greater e h d = cc
from_order Equal other e h d = cc
from_order Greater other e h d = cc

to_order : (one other : Ordering) → one ≡ ordering_reverse other → one ≢ Less → (is_le other && not false) ≡ true
to_order one Less e d = refl
to_order one Equal e d = refl
to_order one Greater e d = absurd (d e)

is_from_not_before : (from name : List ℕ) → is_from from name ≡ true → byte_order name from ≢ Less
is_from_not_before from name h = from_order (byte_order name from) (byte_order from name) (nat_list_cmp_total.antisymm name from) h

not_before_is_from : (from name : List ℕ) → byte_order name from ≢ Less → is_from from name ≡ true
not_before_is_from from name d = to_order (byte_order name from) (byte_order from name) (nat_list_cmp_total.antisymm name from) d

-- the names from some bytes on, those seen and the rest of them, of names in order
module _ (from : List ℕ) (most longest : ℕ) (names seen rest : List (List ℕ)) (sorted : IsStrictlySortedBy byte_order names) (split : filter (is_from from) names ≡ seen ++ rest) where
  abbrev listed : List (List ℕ)
  listed = filter (is_short longest) seen

  parts_sorted : IsStrictlySortedBy byte_order (seen ++ rest)
  parts_sorted = subst (IsStrictlySortedBy byte_order) split (IsStrictlySortedBy-filter byte_order (is_from from) names sorted)

  seen_from : All (λ name. is_from from name ≡ true) seen
  seen_from = All_front (λ name. is_from from name ≡ true) seen rest (subst (All (λ name. is_from from name ≡ true)) split (filter_passes (is_from from) names))

  -- the short ones of those seen are a page
  page_of_listed : length listed ≤ most → IsPage from most longest listed
  page_of_listed few = record {
    few = few;
    rising = IsStrictlySortedBy-filter byte_order (is_short longest) seen (sorted_front byte_order seen rest parts_sorted);
    begins = All-weaker (λ name. is_from from name ≡ true) (λ name. byte_order name from ≢ Less) (λ name e. is_from_not_before from name e) listed
        (All-filter (is_short longest) (λ name. is_from from name ≡ true) seen seen_from);
    short = All-weaker (λ name. is_short longest name ≡ true) (λ name. length name ≤ longest) (λ name e. leb-true (length name) longest e) listed (filter_passes (is_short longest) seen);
  }

  -- where a name is left over, the page is full
  full_page : length listed ≤ most → (name : List ℕ) → Contains rest name → (rest ≡ []) ⊎ (most ≤ length listed) → length listed ≡ most
  full_page few name i (inl none) = let there : Contains [] name = subst (λ names. Contains names name) none i in absurd (omega (arith, there.1))
  full_page few name i (inr full) = omega arith

  -- they are the first names that are shown
  shown_of_listed : {T : Type 0} (shown : Named T) → length listed ≤ most → (rest ≡ []) ⊎ (most ≤ length listed)
      → All (λ name. IsSome (shown name)) names → ((name : List ℕ) → IsSome (shown name) → Contains names name)
      → ListsShown shown from most longest listed
  shown_of_listed shown few full each has = record {
    shows = All-filter (is_short longest) (λ name. IsSome (shown name)) seen (All_front (λ name. IsSome (shown name)) seen rest
        (subst (All (λ name. IsSome (shown name))) split (All-filter (is_from from) (λ name. IsSome (shown name)) names each)));
    complete = λ name there ge short.
        let i = subst (λ names. Contains names name) split (Contains-filter (is_from from) names name (not_before_is_from from name ge) (has name there)) in
        elim (Contains-append_cases seen rest name i) as (λ _. Contains listed name ⊎ ((length listed ≡ most) × All (λ given. IsBefore given name) listed)) [
          | inl i ↦ inl (Contains-filter (is_short longest) seen name (le-leb (length name) longest short) i)
          | inr i ↦ inr (full_page few name i full, All-filter (is_short longest) (λ given. IsBefore given name) seen (sorted_parts byte_order seen rest parts_sorted name i))
        ];
  }

module _ {Y X : Type 0} where
  -- the names of the keys that pass a test are the names that pass
  names_filter : (p : List ℕ → Bool) (es : List (String Y × X))
      → map string_bytes (keys_of (filter (λ e. p (string_bytes e.0)) es)) ≡ filter p (map string_bytes (keys_of es))
  names_filter p [] = refl
  names_filter p (e ∷ es) = at (p (string_bytes e.0)) (names_filter p es)
    where
      at : (b : Bool) → map string_bytes (keys_of (filter (λ e. p (string_bytes e.0)) es)) ≡ filter p (map string_bytes (keys_of es))
          → map string_bytes (keys_of (cond b (e ∷ filter (λ e. p (string_bytes e.0)) es) (filter (λ e. p (string_bytes e.0)) es)))
          ≡ cond b (string_bytes e.0 ∷ filter p (map string_bytes (keys_of es))) (filter p (map string_bytes (keys_of es)))
      at true below = ap (λ names. string_bytes e.0 ∷ names) below
      at false below = below

-- the names of the keys that a loop has seen
abbrev pub names_seen : {Y X : Type 0} → List (Bor (String Y) × Bor X) → List (List ℕ)
names_seen seen = map (λ entry. string_bytes entry.0.now) seen

-- they are the names of the entries
names_of_seen : {Y X : Type 0} (seen : List (Bor (String Y) × Bor X)) → names_seen seen ≡ map string_bytes (keys_of (map deref_pair seen))
names_of_seen [] = refl
names_of_seen (entry ∷ seen) = ap (λ names. string_bytes entry.0.now ∷ names) (names_of_seen seen)

-- a name that is too long is not listed
long_is_not_short : (longest : ℕ) (name : List ℕ) → longest < length name → is_short longest name ≡ false
long_is_not_short longest name long = grind (arith, nat_tests)

not_short : (longest : ℕ) (name : List ℕ) → is_short longest name ≡ false → filter (is_short longest) (name ∷ []) ≡ []
not_short longest name long = ap (λ (b : Bool). cond b (name ∷ []) []) long

pub passed_over : {Y X : Type 0} (longest : ℕ) (seen : List (Bor (String Y) × Bor X)) (entry : Bor (String Y) × Bor X) → longest < length (string_bytes entry.0.now)
    → filter (is_short longest) (names_seen (seen ++ entry ∷ [])) ≡ filter (is_short longest) (names_seen seen)
passed_over {Y} {X} longest seen entry long =
    ap (filter (is_short longest)) (map-append (λ (entry : Bor (String Y) × Bor X). string_bytes entry.0.now) seen (entry ∷ []))
    ∙ filter-append (is_short longest) (names_seen seen) (string_bytes entry.0.now ∷ [])
    ∙ ap (λ names. filter (is_short longest) (names_seen seen) ++ names) (not_short longest (string_bytes entry.0.now) (long_is_not_short longest (string_bytes entry.0.now) long))
    ∙ append-nil (filter (is_short longest) (names_seen seen))

module _ {Y X : Type 0} (m : BTreeMap (String Y) X) where
  -- the names of the keys are the names that are there
  each_there : All (λ name. IsSome (get_by_text m name)) (map string_bytes (keys m))
  each_there = All-weaker (Contains (map string_bytes (keys m))) (λ name. IsSome (get_by_text m name))
      (λ name i. lookup-from_Contains name m.entries i) (map string_bytes (keys m)) (All-contains_itself (map string_bytes (keys m)))

  -- a name that is there is the name of a key
  there_has : (name : List ℕ) → IsSome (get_by_text m name) → Contains (map string_bytes (keys m)) name
  there_has name h = Contains-from_lookup name m.entries h

  -- a listing of the keys of a range that were seen, where all were or the listing is full
  pub page_of_keys : IsOrdered string_cmp m → (start : String Y) (from : List ℕ) → string_bytes start ≡ from → (most longest : ℕ)
      → (yielded : List (Bor (String Y) × Bor X)) (rest : List (String Y × X)) (names : List (List ℕ))
      → entries_between string_cmp (Included start) Unbounded m.entries ≡ map deref_pair yielded ++ rest
      → names ≡ filter (is_short longest) (names_seen yielded) → length names ≤ most → (rest ≡ []) ⊎ (most ≤ length names)
      → IsPage from most longest names × ListsShown (get_by_text m) from most longest names
  page_of_keys ordered start from same most longest yielded rest names split listed few full =
      let begin : List ℕ = string_bytes start in
      let seen : List (String Y × X) = map deref_pair yielded in
      let front : List (List ℕ) = map string_bytes (keys_of seen) in
      let is : names ≡ filter (is_short longest) front = listed ∙ ap (filter (is_short longest)) (names_of_seen yielded) in
      let names_rest : List (List ℕ) = map string_bytes (keys_of rest) in
      let split_names : filter (is_from begin) (map string_bytes (keys m)) ≡ front ++ names_rest =
      sym (names_filter (is_from begin) m.entries) ∙ ap (λ (es : List (String Y × X)). map string_bytes (keys_of es)) split
      ∙ ap (map string_bytes) (map-append (λ (e : String Y × X). e.0) seen rest) ∙ map-append string_bytes (keys_of seen) (keys_of rest) in
      let sorted : IsStrictlySortedBy byte_order (map string_bytes (keys m)) = sorted-map byte_order string_bytes (keys m) ordered in
      let few_listed : length (filter (is_short longest) front) ≤ most = subst (λ names. length names ≤ most) is few in
      let all_or_full : (names_rest ≡ []) ⊎ (most ≤ length (filter (is_short longest) front)) =
      elim full as (λ _. (names_rest ≡ []) ⊎ (most ≤ length (filter (is_short longest) front)))
      [ inl none ↦ inl (ap (λ (es : List (String Y × X)). map string_bytes (keys_of es)) none) | inr reached ↦ inr (subst (λ names. most ≤ length names) is reached) ] in
      let P : List ℕ → List (List ℕ) → Type 0 = λ from names. IsPage from most longest names × ListsShown (get_by_text m) from most longest names in
      subst (λ from. P from names) same (subst (P begin) (sym is) (
        page_of_listed begin most longest (map string_bytes (keys m)) front names_rest sorted split_names few_listed,
        shown_of_listed begin most longest (map string_bytes (keys m)) front names_rest sorted split_names (get_by_text m) few_listed all_or_full each_there there_has,
      ))

-- a listing of the names that have images
pub shown_images : {S T : Type 0} (f : S → T) (named : Named S) (from : List ℕ) (most longest : ℕ) (names : List (List ℕ))
    → ListsShown named from most longest names → ListsShown (λ name. option_map f (named name)) from most longest names
shown_images f named from most longest names lists = record {
  shows = All-weaker (λ name. IsSome (named name)) (λ name. IsSome (option_map f (named name))) (λ name h. IsSome-option_map f (named name) h) names lists.shows;
  complete = λ name there ge short. lists.complete name (IsSome-from_option_map f (named name) there) ge short;
}

-- no name is a page
pub empty_page : (from : List ℕ) (most longest : ℕ) → IsPage from most longest []
unfolding IsStrictlySortedBy
empty_page from most longest = record {
  few = omega arith;
  rising = tt;
  begins = All-nil (λ name. byte_order name from ≢ Less);
  short = All-nil (λ name. length name ≤ longest);
}
