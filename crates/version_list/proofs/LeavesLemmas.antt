-- When a change leaves a new state.
use Rattle.std.proofs.Common.{◌≡◌, ◌≢◌, ℕ, ◌<◌, ◌≤◌, Some, None, IsSome, find, List, [], ◌∷◌, length, Bool, true, false, refl, sym, ap, ◌∙◌, arith}
use Rattle.std.specs.List.{list_any}
use Rattle.stamp_id.specs.declared.version.VersionId.{VersionId}
use Rattle.call_types.specs.declared.names.VersionName.{VersionName}
use Rattle.call_types.specs.declared.version.Version.{Version}
use Rattle.call_types.specs.declared.version.Upload.{Upload}
use Rattle.version_list.specs.declared.state.KeyState.{KeyState}
use Rattle.version_list.specs.declared.outcome.Outcome.{Outcome}
use Rattle.version_list.specs.Naming.{has_name, kept, is_upload, still_open}
use Rattle.version_list.specs.Gone.{gone_bytes}
use Rattle.version_list.specs.Answers.{Leaves}
use Rattle.version_list.proofs.GoneLemmas.{gone_bytes-same}
use Rattle.version_list.proofs.KeptLemmas.{length-kept}

-- a state is its two lists
pub state_by_parts :
    (versions : List Version) (uploads : List Upload) (state : KeyState) → versions ≡ state.versions → uploads ≡ state.uploads
    → ◌≡◌ {A = KeyState} record { versions = versions; uploads = uploads } state
state_by_parts versions uploads state v u = λ i. record { versions = v i; uploads = u i }

-- no change leaves the old state
pub Leaves-same :
    (old new : KeyState) (outcome : Outcome) → outcome.state ≡ None → outcome.gone ≡ [] → new ≡ old → Leaves old new outcome
Leaves-same old new outcome none nothing same = record {
  state = rw none same;
  gone = nothing ∙ sym (ap (λ (s : KeyState). gone_bytes old.versions s.versions) same ∙ gone_bytes-same old.versions);
}

-- a new list of versions, or of uploads, leaves a new state
pub Leaves-new :
    (old new : KeyState) (shown versions : List Version) (uploads : List Upload) (gone : List ℕ) → shown ≡ old.versions
    → versions ≡ new.versions → uploads ≡ new.uploads → gone ≡ gone_bytes shown versions → new ≢ old
    → Leaves old new record { state = Some record { versions = versions; uploads = uploads }; gone = gone }
Leaves-new old new shown versions uploads gone s v u g other = record {
  state = (state_by_parts versions uploads new v u, other);
  gone = g ∙ ap (λ l. gone_bytes l versions) s ∙ ap (gone_bytes old.versions) v;
}

-- the same where all versions stay
pub Leaves-uploads :
    (old new : KeyState) (versions : List Version) (uploads : List Upload) (gone : List ℕ) → versions ≡ new.versions
    → new.versions ≡ old.versions → uploads ≡ new.uploads → gone ≡ [] → new ≢ old
    → Leaves old new record { state = Some record { versions = versions; uploads = uploads }; gone = gone }
Leaves-uploads old new versions uploads gone v same u nothing other = record {
  state = (state_by_parts versions uploads new v u, other);
  gone = nothing ∙ sym (ap (gone_bytes old.versions) same ∙ gone_bytes-same old.versions);
}

-- as many uploads or fewer stay open
length-still_open : (id : VersionId) (xs : List Upload) → length (still_open id xs) ≤ length xs
length-still_open id [] = omega arith
length-still_open id (x ∷ xs) = step (is_upload id x) refl (length-still_open id xs)
  where
    step : (b : Bool) → is_upload id x ≡ b → length (still_open id xs) ≤ length xs → length (still_open id (x ∷ xs)) ≤ length (x ∷ xs)
    step true h fewer = rw h (omega arith)
    step false h fewer = rw h (omega arith)

-- fewer stay open where one of the id is open
pub still_open-fewer : (id : VersionId) (xs : List Upload) → IsSome (find (is_upload id) xs) → length (still_open id xs) < length xs
still_open-fewer id [] some = cc
still_open-fewer id (x ∷ xs) some = step (is_upload id x) refl (length-still_open id xs) (still_open-fewer id xs) some
  where
    step :
        (b : Bool) → is_upload id x ≡ b → length (still_open id xs) ≤ length xs
        → (IsSome (find (is_upload id) xs) → length (still_open id xs) < length xs)
        → IsSome (find (is_upload id) (x ∷ xs)) → length (still_open id (x ∷ xs)) < length (x ∷ xs)
    step true h fewer rest some = rw h (omega arith)
    step false h fewer rest some = let deeper = rw h at some in let less = rest deeper in rw h (omega arith)

-- fewer versions stay where one of the name is there
pub kept-fewer : (name : VersionName) (xs : List Version) → list_any (has_name name) xs ≡ true → length (kept (Some name) xs) < length xs
kept-fewer name [] some = cc
kept-fewer name (x ∷ xs) some = step (has_name name x) refl (length-kept (Some name) xs) (kept-fewer name xs) some
  where
    step :
        (b : Bool) → has_name name x ≡ b → length (kept (Some name) xs) ≤ length xs
        → (list_any (has_name name) xs ≡ true → length (kept (Some name) xs) < length xs)
        → list_any (has_name name) (x ∷ xs) ≡ true → length (kept (Some name) (x ∷ xs)) < length (x ∷ xs)
    step true h fewer rest some = rw h (omega arith)
    step false h fewer rest some = let deeper = rw h at some in let less = rest deeper in rw h (omega arith)

-- all versions stay where none of the name is there
pub kept_not_there : (name : VersionName) (xs : List Version) → list_any (has_name name) xs ≡ false → kept (Some name) xs ≡ xs
kept_not_there name [] none = refl
kept_not_there name (x ∷ xs) none = step (has_name name x) refl (kept_not_there name xs) none
  where
    step :
        (b : Bool) → has_name name x ≡ b → (list_any (has_name name) xs ≡ false → kept (Some name) xs ≡ xs)
        → list_any (has_name name) (x ∷ xs) ≡ false → kept (Some name) (x ∷ xs) ≡ x ∷ xs
    step true h rest none = let never = rw h at none in cc
    step false h rest none = let deeper = rw h at none in rw (h, rest deeper)
