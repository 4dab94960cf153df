-- The place of an open upload.
use Rattle.std.proofs.Common.{◌≡◌, ℕ, ◌<◌, ◌≤◌, Bool, true, false, ltb, List, [], ◌∷◌, length, get_or, Option, Some, None, MatchOption, refl, sym, arith}
use Rattle.std.specs.Prelude.{position}
use Rattle.std.specs.List.{list_any, position_or_len}
use Rattle.std.proofs.lemmas.Bool.{ltb-false}
use Rattle.std.proofs.lemmas.List.Quantifiers.{position-Some}
use Rattle.std.proofs.lemmas.Option.{slice_get-get_or}
use Rattle.stamp_id.specs.declared.version.VersionId.{VersionId}
use Rattle.call_types.specs.declared.version.Upload.{Upload}
use Rattle.version_list.specs.Naming.{is_upload, HasUploadAt}
use Rattle.version_list.proofs.NamingLemmas.{same_id-true}

-- where an item passes, the first that does has a place
position_within : {A : Type 0} (p : A → Bool) (xs : List A) → list_any p xs ≡ true → position_or_len p xs < length xs
position_within p [] some = absurd cc
position_within {A} p (x ∷ xs) some = step (p x) refl (position_within p xs) some
  where
    step :
        (b : Bool) → p x ≡ b → (list_any p xs ≡ true → position_or_len p xs < length xs) → list_any p (x ∷ xs) ≡ true
        → position_or_len p (x ∷ xs) < length (x ∷ xs)
    step true h later some = rw h (omega arith)
    step false h later some = let rest : list_any p xs ≡ true = rw h at some in let low = later rest in rw h (omega arith)

-- where none has a place, none passes
none_passes : {A : Type 0} (p : A → Bool) (xs : List A) → position p xs ≡ None → list_any p xs ≡ false
none_passes {A} p xs none = step (list_any p xs) refl
  where
    low_no : position_or_len p xs < length xs → (b : Bool) → ltb (position_or_len p xs) (length xs) ≡ b → ⊥
    low_no low true h = let e : Some (position_or_len p xs) ≡ None = rw h at none in cc
    low_no low false h = let high : length xs ≤ position_or_len p xs = ltb-false _ _ h in omega arith

    step : (b : Bool) → list_any p xs ≡ b → b ≡ false
    step false h = refl
    step true h = absurd (low_no (position_within p xs h) (ltb (position_or_len p xs) (length xs)) refl)

-- the upload of a place that is found
upload_found : (id : VersionId) (uploads : List Upload) (place : ℕ) → position (is_upload id) uploads ≡ Some place → HasUploadAt id uploads place
upload_found id [] place found = absurd cc
upload_found id (u ∷ us) place found =
    let at = position-Some (is_upload id) (u ∷ us) place u found in
    record {
      upload = get_or (u ∷ us) place u;
      at = slice_get-get_or (u ∷ us) place u at.0;
      has_id = same_id-true (get_or (u ∷ us) place u).id id at.1;
    }

-- what the place of an upload says
pub finds_upload : (id : VersionId) (uploads : List Upload) (answer : Option ℕ) → answer ≡ position (is_upload id) uploads → MatchOption answer (list_any (is_upload id) uploads ≡ false) (HasUploadAt id uploads)
finds_upload id uploads None is = none_passes (is_upload id) uploads (sym is)
finds_upload id uploads (Some place) is = upload_found id uploads place (sym is)
