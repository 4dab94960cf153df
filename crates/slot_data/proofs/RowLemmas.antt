-- What the tests of rows find.
use Rattle.std.proofs.Common.{◌≡◌, ◌⊎◌, inl, inr, ◌∙◌, Bool, true, false, List, [], ◌∷◌, map, Contains, ap, refl, sym, subst}
use Rattle.std.specs.Prelude.{◌||◌}
use Rattle.std.specs.List.{list_any}
use Rattle.stamp_id.specs.declared.version.VersionId.{VersionId}
use Rattle.version_list.proofs.NamingLemmas.{same_id_law}
use Rattle.slot_history.proofs.TakenLemmas.{first_there, none_there, rest_there, there_cases}
use Rattle.slot_history.specs.Standing.{Flying}
use Rattle.slot_data.specs.Holding.{Pinned}
use Rattle.slot_data.specs.Rows.{FlightsAreFound, PinsAreFound, flies, flying_of, is_id, pin_names, pinned_of}

-- a test finds an item that passes it, which is there
any_found : {A : Type 0} (p : A → Bool) (xs : List A) → list_any p xs ≡ true → (x : A) × Contains xs x × (p x ≡ true)
any_found p [] found = absurd (let apart : false ≡ true = found in cc)
any_found {A} p (x ∷ xs) found = at (p x) refl found (λ rest. any_found p xs rest)
  where
    at : (b : Bool) → p x ≡ b → (b || list_any p xs) ≡ true → (list_any p xs ≡ true → (y : A) × Contains xs y × (p y ≡ true))
        → (y : A) × Contains (x ∷ xs) y × (p y ≡ true)
    at true first found below = (x, first_there x xs, first)
    at false first found below = let rest = below found in (rest.0, rest_there x xs rest.0 rest.1, rest.2)

-- an item that passes it is found
found_any : {A : Type 0} (p : A → Bool) (xs : List A) (x : A) → Contains xs x → p x ≡ true → list_any p xs ≡ true
found_any p [] x there passes = absurd (none_there x there)
found_any {A} p (first ∷ xs) x there passes = at (p first) refl (there_cases first xs x there) (λ rest. found_any p xs x rest passes)
  where
    at : (b : Bool) → p first ≡ b → (first ≡ x) ⊎ Contains xs x → (Contains xs x → list_any p xs ≡ true) → (b || list_any p xs) ≡ true
    at true is place below = refl
    at false is (inl same) below = absurd (let apart : false ≡ true = sym is ∙ (ap p same ∙ passes) in cc)
    at false is (inr rest) below = below rest

-- what is there is so once it is mapped
mapped_there : {A B : Type 0} (f : A → B) (xs : List A) (x : A) → Contains xs x → Contains (map f xs) (f x)
mapped_there f [] x there = absurd (none_there x there)
mapped_there {A} {B} f (first ∷ xs) x there = at (there_cases first xs x there) (λ rest. mapped_there f xs x rest)
  where
    at : (first ≡ x) ⊎ Contains xs x → (Contains xs x → Contains (map f xs) (f x)) → Contains (f first ∷ map f xs) (f x)
    at (inl same) below = subst (λ y. Contains (f first ∷ map f xs) (f y)) same (first_there (f first) (map f xs))
    at (inr rest) below = rest_there (f first) (map f xs) (f x) (below rest)

-- what is there once it is mapped comes of an item
comes_of : {A B : Type 0} (f : A → B) (xs : List A) (y : B) → Contains (map f xs) y → (x : A) × Contains xs x × (f x ≡ y)
comes_of f [] y there = absurd (none_there y there)
comes_of {A} {B} f (first ∷ xs) y there = at (there_cases (f first) (map f xs) y there) (λ rest. comes_of f xs y rest)
  where
    at : (f first ≡ y) ⊎ Contains (map f xs) y → (Contains (map f xs) y → (x : A) × Contains xs x × (f x ≡ y)) → (x : A) × Contains (first ∷ xs) x × (f x ≡ y)
    at (inl same) below = (first, first_there first xs, same)
    at (inr rest) below = let of = below rest in (of.0, rest_there first xs of.0 of.1, of.2)

-- an id is found exactly where it is there
id_there : (ids : List VersionId) (id : VersionId) → list_any (is_id id) ids ≡ true → Contains ids id
id_there ids id found = let one = any_found (is_id id) ids found in subst (Contains ids) ((same_id_law one.0 id).0 one.2) one.1

there_found : (ids : List VersionId) (id : VersionId) → Contains ids id → list_any (is_id id) ids ≡ true
there_found ids id there = found_any (is_id id) ids id there ((same_id_law id id).1 refl)

-- the test of puts
pub flights_are_found : FlightsAreFound
flights_are_found rows id = (
  λ found. let one = any_found (flies id) rows found in record {
    flight = flying_of one.0;
    there = mapped_there flying_of rows one.0 one.1;
    id_is = (same_id_law one.0.id id).0 one.2;
  },
  λ flying. let of = comes_of flying_of rows flying.flight flying.there in
      found_any (flies id) rows of.0 of.1 ((same_id_law of.0.id id).1 (ap (λ (f : Flying). f.id) of.2 ∙ flying.id_is)),
)

-- the test of pins
pub pins_are_found : PinsAreFound
pins_are_found rows id = (
  λ found. let one = any_found (pin_names id) rows found in record {
    pin = pinned_of one.0;
    there = mapped_there pinned_of rows one.0 one.1;
    names = id_there one.0.ids.items id one.2;
  },
  λ pinned. let of = comes_of pinned_of rows pinned.pin pinned.there in
      found_any (pin_names id) rows of.0 of.1 (there_found of.0.ids.items id (subst (λ (p : Pinned). Contains p.ids id) (sym of.2) pinned.names)),
)
