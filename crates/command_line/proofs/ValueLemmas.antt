-- The value that options have under a name, and what options say of it.
use Rattle.std.proofs.Common.{◌≡◌, ◌≢◌, ℕ, zero, suc, ◌+◌, ◌<◌, Bool, true, false, cond, List, [], ◌∷◌, ◌++◌, Contains, length, slice_index_or, map, Some, None, MatchOption, refl, sym, ap, subst, ◌∙◌, inl, inr, add-one, arith}
use Rattle.std.specs.List.{AllByRecursion}
use Rattle.std.specs.Str.{bytes_eq}
use Rattle.std.proofs.lemmas.Bool.{false_from_ne_true}
use Rattle.std.proofs.lemmas.List.{map-append}
use Rattle.std.proofs.lemmas.Slice.Eq.{bytes_eq-Decides}
use Rattle.command_line.specs.Words.{AreDistinct, Choice, OptionSays}
use Rattle.command_line.specs.Values.{value_of}

-- the name of an option
abbrev pub name_in : Choice → List ℕ
name_in c = c.name

-- the names of options
abbrev pub names_of : List Choice → List (List ℕ)
names_of = map (λ (c : Choice). c.name)

same_text : (a b : List ℕ) → a ≡ b → bytes_eq a b ≡ true
same_text a b e = (bytes_eq-Decides a b).1 e

other_text : (a b : List ℕ) → a ≢ b → bytes_eq a b ≡ false
other_text a b ne = false_from_ne_true (bytes_eq a b) (λ e. ne ((bytes_eq-Decides a b).0 e))

-- ---- an option more

push_all : {A : Type 0} (x n : A) (xs : List A) → AllByRecursion (λ y. x ≢ y) xs → x ≢ n → AllByRecursion (λ y. x ≢ y) (xs ++ n ∷ [])
push_all x n [] all ne = (ne, tt)
push_all x n (y ∷ xs) all ne = (all.0, push_all x n xs all.1 ne)

-- distinct items, and one more that is none of them
distinct_push : {A : Type 0} (xs : List A) (n : A) → AreDistinct xs → AllByRecursion (λ y. y ≢ n) xs → AreDistinct (xs ++ n ∷ [])
distinct_push [] n once none = (tt, tt)
distinct_push (x ∷ xs) n once none = (push_all x n xs once.0 none.0, distinct_push xs n once.1 none.1)

-- a test is true or false
two_ways : (b : Bool) (P : Type 0) → (b ≡ true → P) → (b ≡ false → P) → P
two_ways true P so not_so = so refl
two_ways false P so not_so = not_so refl

-- no option has a name that has no value
absent : (cs : List Choice) (name : List ℕ) → value_of cs name ≡ None → AllByRecursion (λ y. y ≢ name) (names_of cs)
absent [] name none = tt
absent (c ∷ cs) name none = two_ways (bytes_eq c.name name) ((c.name ≢ name) × AllByRecursion (λ y. y ≢ name) (names_of cs))
    (λ t. let bad : Some c.value ≡ None = rw t at none in absurd cc)
    (λ t.
    let less : value_of cs name ≡ None = rw t at none in
    ((λ e. let so = same_text c.name name e in let bad : true ≡ false = cc in absurd cc), absent cs name less))

-- options and one more, of a name that has no value
pub once_more : (cs : List Choice) (c : Choice) → AreDistinct (names_of cs) → value_of cs c.name ≡ None → AreDistinct (names_of (cs ++ c ∷ []))
once_more cs c once none = rw (map-append name_in cs (c ∷ [])) (distinct_push (names_of cs) c.name once (absent cs c.name none))

-- the values of options and one more
pub value_more : (cs : List Choice) (c : Choice) (name : List ℕ) → value_of cs c.name ≡ None → value_of (cs ++ c ∷ []) name ≡ cond (bytes_eq c.name name) (Some c.value) (value_of cs name)
value_more [] c name none = refl
value_more (x ∷ cs) c name none =
    let other : bytes_eq x.name c.name ≡ false = two_ways (bytes_eq x.name c.name) (bytes_eq x.name c.name ≡ false) (λ t. let bad : Some x.value ≡ None = rw t at none in absurd cc) (λ t. t) in
    let less : value_of cs c.name ≡ None = rw other at none in
    let more = value_more cs c name less in
    two_ways (bytes_eq x.name name) (value_of ((x ∷ cs) ++ c ∷ []) name ≡ cond (bytes_eq c.name name) (Some c.value) (value_of (x ∷ cs) name))
    (λ u.
    let same : x.name ≡ name = (bytes_eq-Decides x.name name).0 u in
    let apart : bytes_eq c.name name ≡ false = other_text c.name name (λ e. let so = same_text x.name c.name (same ∙ sym e) in let bad : true ≡ false = cc in absurd cc) in
    rw (u, apart) refl)
    (λ u. rw u more)

-- ---- an option in a row

among : (P : List ℕ → Type 0) (cs : List Choice) (c : Choice) (more : List Choice) → AllByRecursion P (names_of (cs ++ c ∷ more)) → P c.name
among P [] c more all = all.0
among P (x ∷ cs) c more all = among P cs c more all.1

-- an option of distinct ones has no value before it
pub none_before : (cs : List Choice) (c : Choice) (more : List Choice) → AreDistinct (names_of (cs ++ c ∷ more)) → value_of cs c.name ≡ None
none_before [] c more once = refl
none_before (x ∷ cs) c more once =
    let other : bytes_eq x.name c.name ≡ false = other_text x.name c.name (among (λ y. x.name ≢ y) cs c more once.0) in
    rw other (none_before cs c more once.1)

-- ---- what options say

-- an option of distinct ones is the first of its name
value_at : (cs : List Choice) (c : Choice) → AreDistinct (names_of cs) → (k : ℕ) → k < length cs → slice_index_or cs k c ≡ c → value_of cs c.name ≡ Some c.value
value_at [] c once k low is = absurd (omega arith)
value_at (x ∷ cs) c once zero low is = rw (is, same_text c.name c.name refl) refl
value_at (x ∷ cs) c once (suc k) low is =
    let lower : k < length cs = omega arith in
    let other : bytes_eq x.name c.name ≡ false = other_text x.name c.name (at_place cs k once.0 lower is) in
    rw other (value_at cs c once.1 k lower is)
  where
    at_place : (ds : List Choice) (j : ℕ) → AllByRecursion (λ y. x.name ≢ y) (names_of ds) → j < length ds → slice_index_or ds j c ≡ c → x.name ≢ c.name
    at_place [] j all small is = absurd (omega arith)
    at_place (d ∷ ds) zero all small is = λ e. all.0 (e ∙ ap name_in (sym is))
    at_place (d ∷ ds) (suc j) all small is = at_place ds j all.1 (omega arith) is

-- a name that no option has has no value
value_none : (cs : List Choice) (name : List ℕ) → ((c : Choice) → Contains cs c → c.name ≢ name) → value_of cs name ≡ None
value_none [] name none = refl
value_none (c ∷ cs) name none =
    let other : bytes_eq c.name name ≡ false = other_text c.name name (none c (0, omega arith, refl)) in
    rw other (value_none cs name (λ d has. none d (has.0 + 1, omega arith, rw add-one has.2)))

-- what distinct options say of a name is said of its value
pub value_said : (cs : List Choice) (name : List ℕ) (given : List ℕ → Type 0) (usual : Type 0) → AreDistinct (names_of cs) → OptionSays cs name given usual → MatchOption (value_of cs name) usual given
value_said cs name given usual once (inl said) =
    let placed : value_of cs said.0.name ≡ Some said.0.value = value_at cs said.0 once said.1.0 said.1.1 said.1.2 in
    let here : value_of cs name ≡ Some said.0.value = subst (λ (n : List ℕ). value_of cs n ≡ Some said.0.value) said.2 placed in
    rw here said.3
value_said cs name given usual once (inr none) = rw (value_none cs name none.0) none.1

no_later : (c : Choice) (cs : List Choice) (name : List ℕ) → ((d : Choice) → Contains cs d → d.name ≢ name) → c.name ≢ name → (d : Choice) (k : ℕ) → k < length (c ∷ cs) → slice_index_or (c ∷ cs) k d ≡ d → d.name ≢ name
no_later c cs name none other d zero low is = λ e. other (ap name_in is ∙ e)
no_later c cs name none other d (suc k) low is = none d (k, omega arith, is)

-- what options say of a name, others say with one of another name before them
said_later : (c : Choice) (cs : List Choice) (name : List ℕ) (given : List ℕ → Type 0) (usual : Type 0) → OptionSays cs name given usual → c.name ≢ name → OptionSays (c ∷ cs) name given usual
said_later c cs name given usual (inl said) other = inl (said.0, (said.1.0 + 1, omega (arith, said.1.1), rw add-one said.1.2), said.2, said.3)
said_later c cs name given usual (inr none) other = inr ((λ d has. no_later c cs name none.0 other d has.0 has.1 has.2), none.1)

-- what is said of the value of a name is what options say
pub said_value : (cs : List Choice) (name : List ℕ) (given : List ℕ → Type 0) (usual : Type 0) → MatchOption (value_of cs name) usual given → OptionSays cs name given usual
said_value [] name given usual is = inr ((λ c has. absurd (omega (arith, has.1))), is)
said_value (c ∷ cs) name given usual is = two_ways (bytes_eq c.name name) (OptionSays (c ∷ cs) name given usual)
    (λ t.
    let here : given c.value = rw t at is in
    inl (c, (0, omega arith, refl), (bytes_eq-Decides c.name name).0 t, here))
    (λ t.
    let there : MatchOption (value_of cs name) usual given = rw t at is in
    said_later c cs name given usual (said_value cs name given usual there) (λ e. let so = same_text c.name name e in let bad : true ≡ false = cc in absurd cc))
