-- Which names are found, and up to which name they are known.
use Rattle.std.proofs.Common.{◌≡◌, ℕ, ◌-◌, ◌<◌, ◌≤◌, Bool, true, false, List, [], ◌∷◌, ◌++◌, length, map, drop, take, Option, Some, None, refl, sym, ap, ap₂, subst, ◌∙◌, append_assoc, arith, length-append, length-drop, take_all, le-ltb, lt-ltb, leb-true}
use Rattle.std.specs.Prelude.{◌&&◌, if◌then◌else◌, cond, filter, nat_lt, nat_le, option_map, slice_get, string_bytes, String}
use Rattle.std.specs.List.{last_or}
use Rattle.std.proofs.lemmas.Bool.Decides.{Decides-eqb}
use Rattle.std.proofs.lemmas.List.{length-map}
use Rattle.std.proofs.lemmas.List.Prefix.{front_rest}
use Rattle.std.proofs.lemmas.Option.{slice_get-map}
use Rattle.std.proofs.lemmas.Slice.Eq.{starts_is}
use Rattle.receipts.specs.Pages.{PageRule, begins_with}
use Rattle.slot_history.specs.Names.{key_name}
use Rattle.receipts.specs.Listing.{key_in}
use Rattle.list_ops.specs.Names.{front, is_name, key_of}
use Rattle.list_ops.specs.Sheets.{bound_after, lesser, range}

-- two tests are the same where each gives the other
same_test : (x y : Bool) → (x ≡ true → y ≡ true) → (y ≡ true → x ≡ true) → x ≡ y
same_test true y f g = sym (f refl)
same_test false true f g = g refl
same_test false false f g = refl

both : (x y : Bool) → x ≡ true → y ≡ true → (x && y) ≡ true
both true y f g = g
both false y f g = f

first_of : (x y : Bool) → (x && y) ≡ true → x ≡ true
first_of true y h = refl
first_of false y h = h

second_of : (x y : Bool) → (x && y) ≡ true → y ≡ true
second_of true y h = h
second_of false true h = refl
second_of false false h = h

-- a text that begins with another is that one and a rest
pub splits : (first text : List ℕ) → begins_with first text ≡ true → text ≡ first ++ drop (length first) text
splits first text h = (starts_is Decides-eqb text first (begins_with first text) refl).0 h

pub begins : (first text rest : List ℕ) → text ≡ first ++ rest → begins_with first text ≡ true
begins first text rest is = (starts_is Decides-eqb text first (begins_with first text) refl).1 rest is

-- it begins with two texts in a row where it begins with the first, and the rest with the second
pub begins_both : (a b text : List ℕ) → begins_with (a ++ b) text ≡ (begins_with a text && begins_with b (drop (length a) text))
begins_both a b text = same_test (begins_with (a ++ b) text) (begins_with a text && begins_with b (drop (length a) text))
    (λ h.
    let rest = drop (length (a ++ b)) text in
    let is : text ≡ a ++ (b ++ rest) = splits (a ++ b) text h ∙ append_assoc a b rest in
    both (begins_with a text) (begins_with b (drop (length a) text)) (begins a text (b ++ rest) is)
    (begins b (drop (length a) text) rest (front_rest text a (b ++ rest) is)))
    (λ h.
    let ends = drop (length a) text in
    let first = splits a text (first_of (begins_with a text) (begins_with b ends) h) in
    let second = splits b ends (second_of (begins_with a text) (begins_with b ends) h) in
    let rest = drop (length b) ends in
    begins (a ++ b) text rest ((first ∙ ap (λ l. a ++ l) second) ∙ sym (append_assoc a b rest)))

-- a text that doesn't begin with the first doesn't begin with both
pub begins_neither : (a b text : List ℕ) → begins_with a text ≡ false → false ≡ begins_with (a ++ b) text
begins_neither a b text h = sym (begins_both a b text ∙ ap (λ x. x && begins_with b (drop (length a) text)) h)

-- it begins with both where it begins with the first and the rest, cut out, begins with the second
pub begins_first : (begin given first prefix text : List ℕ) → begin ≡ first → given ≡ prefix → begins_with begin text ≡ true → (found : Bool)
    → found ≡ begins_with given (take (length text - length begin) (drop (length begin) text)) → found ≡ begins_with (first ++ prefix) text
begins_first begin given first prefix text begin_is given_is h found is =
    let long = length-drop (length begin) text in
    let all : take (length text - length begin) (drop (length begin) text) ≡ drop (length begin) text
    = take_all (length text - length begin) (drop (length begin) text) (omega (arith, long)) in
    is ∙ (ap (begins_with given) all ∙ (ap (λ x. x && begins_with given (drop (length begin) text)) (sym h)
    ∙ (sym (begins_both begin given text) ∙ ap₂ (λ a b. begins_with (a ++ b) text) begin_is given_is)))

-- the name of a key's register
pub name_is : (bucket name : List ℕ) → is_name bucket name ≡ true → name ≡ key_name (key_in bucket (key_of bucket name))
name_is bucket name h =
    let key = key_of bucket name in
    let is : name ≡ front bucket ++ key = splits (front bucket) name (first_of (begins_with (front bucket) name) (nat_lt (length (front bucket)) (length name)
    && nat_le (length key) 1024) h) in
    is ∙ ap (λ l. 107 ∷ 47 ∷ l) (append_assoc bucket (47 ∷ []) key)

pub name_short : (bucket name : List ℕ) → length bucket ≤ 63 → is_name bucket name ≡ true → length name ≤ 1129
name_short bucket name few h =
    let key = key_of bucket name in
    let short = second_of (nat_lt (length (front bucket)) (length name)) (nat_le (length key) 1024) (second_of (begins_with (front bucket) name)
    (nat_lt (length (front bucket)) (length name) && nat_le (length key) 1024) h) in
    let is = ap length (name_is bucket name h) in
    let parts = length-append bucket (47 ∷ key) in
    let most = leb-true (length key) 1024 short in
    omega (arith, is, parts, most, few)

-- the last of a list
last_at : {A : Type 0} (o : Option A) (x : A) (xs : List A) → last_or o (x ∷ xs) ≡ slice_get (x ∷ xs) (length xs)
last_at o x [] = refl
last_at o x (y ∷ xs) = last_at (Some x) y xs

pub last_is : {A : Type 0} (xs : List A) (x : A) → slice_get xs (length xs - 1) ≡ Some x → last_or None xs ≡ Some x
last_is [] x is = is
last_is (y ∷ xs) x is =
    let at : length (y ∷ xs) - 1 ≡ length xs = omega arith in
    last_at None y xs ∙ subst (λ n. slice_get (y ∷ xs) n ≡ Some x) at is

pub last_string : {Y : Type 0} (names : List (String Y)) (last : String Y) → slice_get names (length names - 1) ≡ Some last
    → last_or None (map string_bytes names) ≡ Some (string_bytes last)
last_string names last is =
    let long = length-map names string_bytes in
    last_is (map string_bytes names) (string_bytes last) (ap (λ n. slice_get (map string_bytes names) (n - 1)) long
    ∙ (slice_get-map string_bytes names (length names - 1) ∙ ap (option_map string_bytes) is))

-- texts of strings that pass a test of their bytes
cond_map : {A B : Type 0} (f : A → B) (b : Bool) (xs ys : List A) → map f (cond b xs ys) ≡ cond b (map f xs) (map f ys)
cond_map f true xs ys = refl
cond_map f false xs ys = refl

pub filter_bytes : {Y : Type 0} (test : List ℕ → Bool) (names : List (String Y))
    → map string_bytes (filter (λ name. test (string_bytes name)) names) ≡ filter test (map string_bytes names)
filter_bytes test [] = refl
filter_bytes test (name ∷ names) =
    cond_map string_bytes (test (string_bytes name)) (name ∷ filter (λ n. test (string_bytes n)) names) (filter (λ n. test (string_bytes n)) names)
    ∙ ap (λ rest. cond (test (string_bytes name)) (string_bytes name ∷ rest) rest) (filter_bytes test names)

module _ (rule : PageRule) (bucket : List ℕ) (most : ℕ) (names : List (List ℕ)) (bound : Option (List ℕ)) where
  -- the bound behind a page that isn't full
  pub few_bound : length names < most → bound ≡ bound_after rule bucket most names bound
  few_bound few = let short : nat_lt (length names) most ≡ true = lt-ltb (length names) most few in rw short refl

  -- that behind a full page, by its last name
  full_bound : most ≤ length names → (name : List ℕ) → last_or None names ≡ Some name
      → bound_after rule bucket most names bound ≡ (if begins_with (range rule bucket) name then Some (lesser bound name) else bound)
  full_bound full name last = let long : nat_lt (length names) most ≡ false = le-ltb (length names) most full in rw long (rw last refl)

  pub outside_bound : most ≤ length names → (name : List ℕ) → last_or None names ≡ Some name → begins_with (range rule bucket) name ≡ false
      → bound ≡ bound_after rule bucket most names bound
  outside_bound full name last outside = sym (full_bound full name last ∙ ap (λ b. if b then Some (lesser bound name) else bound) outside)

  pub inside_bound : most ≤ length names → (name : List ℕ) → last_or None names ≡ Some name → begins_with (range rule bucket) name ≡ true
      → Some (lesser bound name) ≡ bound_after rule bucket most names bound
  inside_bound full name last inside = sym (full_bound full name last ∙ ap (λ b. if b then Some (lesser bound name) else bound) inside)
