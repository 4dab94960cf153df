-- The data that a key's versions lack after a change isn't named by the key any more.
use Rattle.std.proofs.Common.{◌≡◌, inl, inr, ℕ, Bool, true, false, not, List, [], ◌∷◌, Option, None, Some, Contains, filter, refl, sym, subst, ap, ◌∙◌}
use Rattle.std.specs.List.{filter_map, list_any}
use Rattle.std.proofs.lemmas.List.Folds.{list_any_at}
use Rattle.stamp_id.specs.declared.version.VersionId.{VersionId}
use Rattle.call_types.specs.declared.version.Version.{Version}
use Rattle.call_types.specs.declared.version.What.{What}
use Rattle.call_types.specs.declared.version.What.TheVariants.{Marker, Object}
use Rattle.version_list.specs.Gone.{data_of, has_data, is_data}
use Rattle.version_list.specs.Naming.{same_id}
use Rattle.version_list.specs.declared.state.KeyState.{KeyState}
use Rattle.version_list.proofs.LawProofs.{injective}
use Rattle.version_list.proofs.NamingLemmas.{same_id-refl}
use Rattle.slot_history.specs.Contents.{NamedData, NamesData}
use Rattle.slot_history.specs.Names.{key_name}
use Rattle.slot_history.proofs.NameLemmas.{key_not_part}
use Rattle.slot_history.proofs.TakenLemmas.{first_there, none_there, rest_there, there_cases}
use Rattle.slot_data.specs.Bringing.{IsGone}
use Rattle.slot_data.specs.LaneLaws.{GoneIdsAreGone}

-- what a filter leaves was there, and passes
filter_there : {A : Type 0} (p : A → Bool) (xs : List A) (y : A) → Contains (filter p xs) y → Contains xs y × (p y ≡ true)
filter_there p [] y there = absurd (none_there y there)
filter_there {A} p (x ∷ xs) y there = step (λ more. filter_there p xs y more) (p x) refl
  where
    later : Contains xs y × (p y ≡ true) → Contains (x ∷ xs) y × (p y ≡ true)
    later found = (rest_there x xs y found.0, found.1)

    passes : p x ≡ true → filter p (x ∷ xs) ≡ x ∷ filter p xs
    passes h = rw h refl

    fails : p x ≡ false → filter p (x ∷ xs) ≡ filter p xs
    fails h = rw h refl

    step : (Contains (filter p xs) y → Contains xs y × (p y ≡ true)) → (b : Bool) → p x ≡ b → Contains (x ∷ xs) y × (p y ≡ true)
    step further true h = elim (there_cases x (filter p xs) y (subst (λ (l : List A). Contains l y) (passes h) there)) [
      | inl same ↦ (subst (λ (z : A). Contains (x ∷ xs) z) same (first_there x xs), subst (λ (z : A). p z ≡ true) same h)
      | inr more ↦ later (further more)
    ]
    step further false h = later (further (subst (λ (l : List A). Contains l y) (fails h) there))

-- what a list gives under a function some item gives
given_there : {A B : Type 0} (h : A → Option B) (xs : List A) (y : B) → Contains (filter_map h xs) y → (x : A) × Contains xs x × (h x ≡ Some y)
given_there h [] y there = absurd (none_there y there)
given_there {A} {B} h (x ∷ xs) y there = step (λ more. given_there h xs y more) (h x) refl
  where
    later : (z : A) × Contains xs z × (h z ≡ Some y) → (z : A) × Contains (x ∷ xs) z × (h z ≡ Some y)
    later found = (found.0, rest_there x xs found.0 found.1, found.2)

    gives : (z : B) → h x ≡ Some z → filter_map h (x ∷ xs) ≡ z ∷ filter_map h xs
    gives z e = rw e refl

    nothing : h x ≡ None → filter_map h (x ∷ xs) ≡ filter_map h xs
    nothing e = rw e refl

    step :
        (Contains (filter_map h xs) y → (z : A) × Contains xs z × (h z ≡ Some y)) → (o : Option B) → h x ≡ o
        → (z : A) × Contains (x ∷ xs) z × (h z ≡ Some y)
    step further None e = later (further (subst (λ (l : List B). Contains l y) (nothing e) there))
    step further (Some z) e = elim (there_cases z (filter_map h xs) y (subst (λ (l : List B). Contains l y) (gives z e) there)) [
      | inl same ↦ (x, first_there x xs, e ∙ ap (λ (b : B). Some b) same)
      | inr more ↦ later (further more)
    ]

-- a version that has the data
version_has : (id : VersionId) (other : NamedData) (v : Version) (md5 : List ℕ) (parts : ℕ) (upload : Option VersionId) (kind : List ℕ)
    → v.what ≡ Object other.id other.print other.size md5 parts upload kind → other.id ≡ id → has_data id v ≡ true
version_has id other v md5 parts upload kind is same =
    subst (λ (w : What). is_data id w ≡ true) (sym is) (subst (λ (y : VersionId). same_id other.id y ≡ true) same (same_id-refl other.id))

pub gone_ids_are_gone : GoneIdsAreGone
gone_ids_are_gone at old new before after id spells_old spells_new there =
    let passes = filter_there (λ (y : VersionId). not (list_any (has_data y) after.versions)) (filter_map (λ (v : Version). data_of v.what) before.versions) id there in
    let given = given_there (λ (v : Version). data_of v.what) before.versions id passes.0 in
    by given.0 given.1 given.0.what refl given.2 passes.1
  where
    unnamed : not (list_any (has_data id) after.versions) ≡ true → (other : NamedData) → NamesData (key_name at) new other → other.id ≡ id → ⊥
    unnamed lost other (inl k) same = (
        let key : k.state ≡ after = injective k.state after k.spells.canonical spells_new.canonical (sym k.spells.is ∙ spells_new.is) in
        let found = subst (λ (s : KeyState). Contains s.versions k.version) key k.there in
        let has : has_data id k.version ≡ true = version_has id other k.version k.is.0 k.is.1 k.is.2 k.is.3 k.is.4 same in
        let some : list_any (has_data id) after.versions ≡ true =
        list_any_at (has_data id) after.versions found.0 k.version found.1 (subst (λ (v : Version). has_data id v ≡ true) (sym found.2) has) in
        absurd cc)
    unnamed lost other (inr p) same = key_not_part at p.at p.upload p.number p.name_is

    by : (v : Version) → Contains before.versions v → (w : What) → v.what ≡ w → data_of v.what ≡ Some id
        → not (list_any (has_data id) after.versions) ≡ true → IsGone (key_name at) old new id
    by v found Marker is own lost = (let none : None ≡ Some id = ap data_of (sym is) ∙ own in absurd cc)
    by v found (Object data_id print size md5 parts upload kind) is own lost = (
        let some : Some data_id ≡ Some id = ap data_of (sym is) ∙ own in
        let same : data_id ≡ id = cc in
        let named : NamedData = record { id = data_id; print = print; size = size } in
        record {
          at = at;
          name_is = refl;
          named = named;
          named_before = inl (record {
            at = at;
            name_is = refl;
            state = before;
            spells = spells_old;
            version = v;
            there = found;
            is = (md5, parts, upload, kind, is);
          });
          id_is = same;
          unnamed = unnamed lost;
        })
