-- A step leaves a canonical state.
use Rattle.std.proofs.Common.{◌≡◌, ◌≢◌, ◌<◌, ◌||◌, List, [], ◌∷◌, ◌++◌, length, map, Bool, true, false, not, Some, None, refl, sym, ap, ◌∙◌, subst, arith, length-append, append_assoc}
use Rattle.std.proofs.lemmas.List.{map-append}
use Rattle.std.specs.List.{AllByRecursion, list_any}
use Rattle.stamp_id.specs.declared.version.VersionId.{VersionId}
use Rattle.call_types.specs.declared.names.Mode.{Mode}
use Rattle.call_types.specs.declared.names.Mode.TheVariants.{Never, Enabled, Suspended}
use Rattle.call_types.specs.declared.names.VersionName.{VersionName}
use Rattle.call_types.specs.declared.names.VersionName.TheVariants.{Null, Id}
use Rattle.call_types.specs.declared.version.Version.{Version}
use Rattle.call_types.specs.declared.version.Upload.{Upload}
use Rattle.version_list.specs.declared.state.KeyState.{KeyState}
use Rattle.version_list.specs.Naming.{same_name, has_name, is_named, kept, is_upload}
use Rattle.version_list.specs.NamesId.{HasNone}
use Rattle.version_list.specs.State.{AreDistinct, names_of, IsCanonical, IsCanonicalVersion, IsCanonicalUpload}
use Rattle.version_list.specs.Step.{new_name, replaced}
use Rattle.version_list.proofs.NamingLemmas.{same_name-refl}
use Rattle.version_list.proofs.SubLemmas.{Sub, Sub-filter, Sub-map, Sub-append, length-Sub, All-Sub, AreDistinct-Sub, All-append, AreDistinct-push}

-- fewer versions and uploads, all of them old ones
pub IsCanonical-Sub :
    (old : KeyState) (versions : List Version) (uploads : List Upload) → IsCanonical old → Sub versions old.versions
    → Sub uploads old.uploads → IsCanonical record { versions = versions; uploads = uploads }
IsCanonical-Sub old versions uploads canonical vs us = record {
  few_versions = omega (arith, canonical.few_versions, length-Sub versions old.versions vs);
  few_uploads = omega (arith, canonical.few_uploads, length-Sub uploads old.uploads us);
  distinct =
      AreDistinct-Sub _ _
      (Sub-append _ _ _ _ (Sub-map (λ (v : Version). v.id) versions old.versions vs) (Sub-map (λ (u : Upload). Id u.id) uploads old.uploads us))
      canonical.distinct;
  versions = All-Sub IsCanonicalVersion versions old.versions vs canonical.versions;
  uploads = All-Sub IsCanonicalUpload uploads old.uploads us canonical.uploads;
}

-- one version more, whose name no other has
pub IsCanonical-front :
    (front : Version) (versions : List Version) (uploads : List Upload)
    → IsCanonical record { versions = versions; uploads = uploads } → length versions < 10000 → IsCanonicalVersion front
    → AllByRecursion (λ y. front.id ≢ y) (names_of record { versions = versions; uploads = uploads })
    → IsCanonical record { versions = front ∷ versions; uploads = uploads }
IsCanonical-front front versions uploads canonical few good apart = record {
  few_versions = omega arith;
  few_uploads = canonical.few_uploads;
  distinct = (apart, canonical.distinct);
  versions = (good, canonical.versions);
  uploads = canonical.uploads;
}

-- one upload more, whose id no other has
pub IsCanonical-opened :
    (old : KeyState) (opened : Upload) → IsCanonical old → length old.uploads < 1000 → IsCanonicalUpload opened
    → AllByRecursion (λ y. Id opened.id ≢ y) (names_of old)
    → IsCanonical record { versions = old.versions; uploads = old.uploads ++ opened ∷ [] }
IsCanonical-opened old opened canonical few good apart =
    let ids : List Upload → List VersionName = λ us. map (λ (u : Upload). Id u.id) us in
    let front : List VersionName = map (λ (v : Version). v.id) old.versions in
    let joined : names_of old ++ Id opened.id ∷ [] ≡ front ++ ids (old.uploads ++ opened ∷ []) =
    append_assoc front (ids old.uploads) (Id opened.id ∷ []) ∙ ap (λ l. front ++ l) (sym (map-append (λ (u : Upload). Id u.id) old.uploads (opened ∷ []))) in
    record {
      few_versions = canonical.few_versions;
      few_uploads = omega (arith, length-append old.uploads (opened ∷ []));
      distinct = subst (AreDistinct {A = VersionName}) joined (AreDistinct-push (names_of old) (Id opened.id) canonical.distinct apart);
      versions = canonical.versions;
      uploads = All-append IsCanonicalUpload old.uploads (opened ∷ []) canonical.uploads (good, tt);
    }

or_left : (a b : Bool) → (a || b) ≡ false → a ≡ false
or_left true b h = cc
or_left false b h = refl

or_right : (a b : Bool) → (a || b) ≡ false → b ≡ false
or_right true b h = cc
or_right false b h = h

-- names that the test tells apart are apart
apart_names : (a b : VersionName) → same_name b a ≡ false → a ≢ b
apart_names a b differ same =
    let yes : same_name b b ≡ true = same_name-refl b in
    let never : same_name b b ≡ false = subst (λ n. same_name b n ≡ false) same differ in
    cc

-- no version of a list that has none of the name has it
apart_versions :
    (name : VersionName) (xs : List Version) → list_any (has_name name) xs ≡ false
    → AllByRecursion (λ y. name ≢ y) (map (λ (v : Version). v.id) xs)
apart_versions name [] none = tt
apart_versions name (x ∷ xs) none =
    (apart_names name x.id (or_left (has_name name x) _ none), apart_versions name xs (or_right (has_name name x) _ none))

apart_uploads :
    (id : VersionId) (xs : List Upload) → list_any (is_upload id) xs ≡ false
    → AllByRecursion (λ y. Id id ≢ y) (map (λ (u : Upload). Id u.id) xs)
apart_uploads id [] none = tt
apart_uploads id (x ∷ xs) none =
    (apart_names (Id id) (Id x.id) (or_left (is_upload id x) _ none), apart_uploads id xs (or_right (is_upload id x) _ none))

-- no upload is named `null`
null_apart : (xs : List Upload) → AllByRecursion (λ y. Null ≢ y) (map (λ (u : Upload). Id u.id) xs)
null_apart [] = tt
null_apart (x ∷ xs) = ((λ same. cc), null_apart xs)

-- no version that stays has the name of those that go
gone_apart : (name : VersionName) (xs : List Version) → AllByRecursion (λ y. name ≢ y) (map (λ (v : Version). v.id) (kept (Some name) xs))
gone_apart name [] = tt
gone_apart name (x ∷ xs) = step (has_name name x) refl (gone_apart name xs)
  where
    step :
        (b : Bool) → has_name name x ≡ b → AllByRecursion (λ y. name ≢ y) (map (λ (v : Version). v.id) (kept (Some name) xs))
        → AllByRecursion (λ y. name ≢ y) (map (λ (v : Version). v.id) (kept (Some name) (x ∷ xs)))
    step true h rest = rw h rest
    step false h rest = rw h (apart_names name x.id h, rest)

-- Where a new version replaces those of its name, and its id is new, no other version and no upload has its name.
pub new_apart :
    (mode : Mode) (id : VersionId) (old : KeyState) (uploads : List Upload) → HasNone id old → Sub uploads old.uploads
    → AllByRecursion (λ y. new_name mode id ≢ y) (names_of record { versions = kept (replaced mode) old.versions; uploads = uploads })
new_apart mode id old uploads fresh sub = step mode
  where
    null : AllByRecursion (λ y. Null ≢ y) (names_of record { versions = kept (Some Null) old.versions; uploads = uploads })
    null = All-append (λ y. Null ≢ y) _ _ (gone_apart Null old.versions) (null_apart uploads)

    enabled : AllByRecursion (λ y. Id id ≢ y) (names_of record { versions = kept None old.versions; uploads = uploads })
    enabled =
        let all = apart_versions (Id id) old.versions fresh.versions in
        let ups = apart_uploads id old.uploads fresh.uploads in
        All-append (λ y. Id id ≢ y) _ _
        (All-Sub (λ y. Id id ≢ y) _ _ (Sub-map (λ (v : Version). v.id) _ _ (Sub-filter (λ v. not (is_named None v)) old.versions)) all)
        (All-Sub (λ y. Id id ≢ y) _ _ (Sub-map (λ (u : Upload). Id u.id) uploads old.uploads sub) ups)

    step :
        (m : Mode) → AllByRecursion (λ y. new_name m id ≢ y) (names_of record { versions = kept (replaced m) old.versions; uploads = uploads })
    step Never = null
    step Enabled = enabled
    step Suspended = null

-- the same of an upload that is opened
pub opened_apart : (id : VersionId) (old : KeyState) → HasNone id old → AllByRecursion (λ y. Id id ≢ y) (names_of old)
opened_apart id old fresh =
    All-append (λ y. Id id ≢ y) _ _
    (apart_versions (Id id) old.versions fresh.versions)
    (apart_uploads id old.uploads fresh.uploads)
