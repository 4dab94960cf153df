-- A step of a versioned object opens no upload but the one of the id that was drawn.
use Rattle.std.proofs.Common.{◌≡◌, ◌⊎◌, inl, inr, ℕ, Bool, true, false, not, List, [], ◌∷◌, ◌++◌, Option, Some, None, MatchOption, find, refl, sym, subst, ◌∙◌}
use Rattle.std.specs.Prelude.{position, is_some}
use Rattle.std.specs.List.{list_any}
use Rattle.std.proofs.lemmas.Bool.{or_cases, or_left, or_right}
use Rattle.std.proofs.lemmas.List.Folds.{list_any-append, list_any_at}
use Rattle.std.proofs.lemmas.List.Quantifiers.{position-Some}
use Rattle.stamp_id.specs.declared.version.VersionId.{VersionId}
use Rattle.call_types.specs.declared.names.Etag.{Etag}
use Rattle.call_types.specs.declared.names.Mode.{Mode}
use Rattle.call_types.specs.declared.names.Mode.TheVariants.{Never, Enabled, Suspended}
use Rattle.call_types.specs.declared.names.Pick.TheVariants as pick
use Rattle.call_types.specs.declared.version.Version.{Version}
use Rattle.call_types.specs.declared.version.Upload.{Upload}
use Rattle.call_types.specs.declared.version.What.TheVariants.{Object}
use Rattle.call_types.specs.declared.act.Act.{Act}
use Rattle.call_types.specs.declared.act.Act.TheVariants as act
use Rattle.call_types.specs.declared.reply.Reply.{Reply}
use Rattle.call_types.specs.declared.reply.Reply.TheVariants.{Plain, Completed}
use Rattle.call_types.specs.declared.refusal.Refusal.TheVariants.{NoSuchUpload}
use Rattle.version_list.specs.declared.state.KeyState.{KeyState}
use Rattle.version_list.specs.Naming.{is_upload, same_id, still_open}
use Rattle.version_list.specs.Step.{AddsVersion, Deletes, Does, OpensUpload, Refuses, Step, WithUpload, new_name, told}
use Rattle.version_list.proofs.NamingLemmas.{same_id-true}
use Rattle.version_list.proofs.UploadLemmas.{finds_upload}
use Rattle.upload_book.specs.Storing.{is_open}

-- ---- an upload is open where one of the uploads has its id

-- the upload at the place that is found has the id
any_at_place : (u : VersionId) (xs : List Upload) (place : ℕ) → position (is_upload u) xs ≡ Some place → list_any (is_upload u) xs ≡ true
any_at_place u [] place found = absurd cc
any_at_place u (x ∷ xs) place found =
    let at = position-Some (is_upload u) (x ∷ xs) place x found in
    list_any_at (is_upload u) (x ∷ xs) place x at.0 at.1

-- where an upload is open, one of them has its id
any_from_open : (u : VersionId) (state : KeyState) → is_open u state ≡ true → list_any (is_upload u) state.uploads ≡ true
any_from_open u state opened = by (position (is_upload u) state.uploads) refl opened
  where
    by : (o : Option ℕ) → position (is_upload u) state.uploads ≡ o → is_some o ≡ true → list_any (is_upload u) state.uploads ≡ true
    by None found some = absurd cc
    by (Some place) found some = any_at_place u state.uploads place found

-- and back
open_from_any : (u : VersionId) (state : KeyState) → list_any (is_upload u) state.uploads ≡ true → is_open u state ≡ true
open_from_any u state some = by (position (is_upload u) state.uploads) refl
  where
    by : (o : Option ℕ) → position (is_upload u) state.uploads ≡ o → is_some o ≡ true
    by None found = let none : list_any (is_upload u) state.uploads ≡ false = finds_upload u state.uploads None (sym found) in absurd cc
    by (Some place) found = refl

-- ---- what a step does to the uploads

-- an upload that is open in the new state was open in the old one, or is the one that is drawn
abbrev OpensAtMost : VersionId → VersionId → KeyState → KeyState → Type 0
OpensAtMost u id old new = list_any (is_upload u) new.uploads ≡ true → (list_any (is_upload u) old.uploads ≡ true) ⊎ (id ≡ u)

-- uploads that are among others
abbrev AreAmong : VersionId → List Upload → List Upload → Type 0
AreAmong u uploads others = list_any (is_upload u) uploads ≡ true → list_any (is_upload u) others ≡ true

-- those that stay open were open
still_among : (u id : VersionId) (xs : List Upload) → AreAmong u (still_open id xs) xs
still_among u id [] some = some
still_among u id (x ∷ xs) some = by (not (is_upload id x)) refl (still_among u id xs) some
  where
    by :
        (b : Bool) → not (is_upload id x) ≡ b → AreAmong u (still_open id xs) xs → list_any (is_upload u) (still_open id (x ∷ xs)) ≡ true
        → list_any (is_upload u) (x ∷ xs) ≡ true
    by true h rest some =
        let stays : list_any (is_upload u) (x ∷ still_open id xs) ≡ true = rw h at some in
        elim (or_cases (is_upload u x) (list_any (is_upload u) (still_open id xs)) stays) [
          | inl here ↦ or_left (is_upload u x) (list_any (is_upload u) xs) here
          | inr there ↦ or_right (is_upload u x) (list_any (is_upload u) xs) (rest there)
        ]
    by false h rest some = or_right (is_upload u x) (list_any (is_upload u) xs) (rest (rw h at some))

-- a refusal opens none
same_opens : (u id : VersionId) (old new : KeyState) → new ≡ old → OpensAtMost u id old new
same_opens u id old new same some = inl (subst (λ (s : KeyState). list_any (is_upload u) s.uploads ≡ true) same some)

-- nor does a step that leaves uploads that were open
leaves_opens :
    (u id : VersionId) (old : KeyState) (versions : List Version) (uploads : List Upload) (new : KeyState) → AreAmong u uploads old.uploads
    → new ≡ record { versions = versions; uploads = uploads } → OpensAtMost u id old new
leaves_opens u id old versions uploads new among same some =
    inl (among (subst (λ (s : KeyState). list_any (is_upload u) s.uploads ≡ true) same some))

-- nor one that adds a version
adds_opens :
    (u id : VersionId) (old : KeyState) (mode : Mode) (v : Version) (uploads : List Upload) (done reply : Reply) (new : KeyState)
    → AreAmong u uploads old.uploads → AddsVersion old mode v uploads done reply new → OpensAtMost u id old new
adds_opens u id old mode v uploads done reply new among (inl (full, (r, same))) = same_opens u id old new same
adds_opens u id old mode v uploads done reply new among (inr (few, (r, same))) = leaves_opens u id old _ uploads new among same

-- nor one that deletes
deletes_opens :
    (u id : VersionId) (old : KeyState) (mode : Mode) (drawn : VersionId) (now : ℕ) (reply : Reply) (new : KeyState)
    → Deletes old mode drawn now reply new → OpensAtMost u id old new
deletes_opens u id old Never drawn now reply new (r, same) = leaves_opens u id old _ old.uploads new (λ some. some) same
deletes_opens u id old Enabled drawn now reply new step = adds_opens u id old Enabled _ old.uploads _ reply new (λ some. some) step
deletes_opens u id old Suspended drawn now reply new step = adds_opens u id old Suspended _ old.uploads _ reply new (λ some. some) step

-- so does one that opens an upload, but for that one
create_opens :
    (u : VersionId) (old : KeyState) (opened : Upload) (reply : Reply) (new : KeyState) → OpensUpload old opened reply new
    → OpensAtMost u opened.id old new
create_opens u old opened reply new (inl (full, (r, same))) = same_opens u opened.id old new same
create_opens u old opened reply new (inr (few, (r, same))) = λ some.
    let joined : list_any (is_upload u) (old.uploads ++ opened ∷ []) ≡ true = subst (λ (s : KeyState). list_any (is_upload u) s.uploads ≡ true) same some in
    let split = sym (list_any-append (is_upload u) old.uploads (opened ∷ [])) ∙ joined in
    elim (or_cases (list_any (is_upload u) old.uploads) (list_any (is_upload u) (opened ∷ [])) split) [
      | inl before ↦ inl before
      | inr last ↦ elim (or_cases (same_id opened.id u) false last) [
        | inl is ↦ inr (same_id-true opened.id u is)
        | inr never ↦ absurd cc
      ]
    ]

-- what a step with an open upload does opens no more
with_opens :
    (u id : VersionId) (old : KeyState) (upload : VersionId) (Uses : Upload → Reply → KeyState → Type 0) (reply : Reply) (new : KeyState)
    → ((opened : Upload) → Uses opened reply new → OpensAtMost u id old new) → WithUpload old upload Uses reply new → OpensAtMost u id old new
with_opens u id old upload Uses reply new uses = by (find (is_upload upload) old.uploads)
  where
    by : (o : Option Upload) → MatchOption o (Refuses NoSuchUpload old reply new) (λ opened. Uses opened reply new) → OpensAtMost u id old new
    by None (r, same) = same_opens u id old new same
    by (Some opened) made = uses opened made

-- each step
step_opens :
    (u : VersionId) (old : KeyState) (mode : Mode) (done : Act) (id : VersionId) (now : ℕ) (reply : Reply) (new : KeyState)
    → Step old mode done id now reply new → OpensAtMost u id old new
step_opens u old mode (act.Put data_id print size md5 kind) id now reply new step = adds_opens u id old mode _ old.uploads _ reply new (λ some. some) step
step_opens u old mode (act.Delete pick.Current) id now reply new step = deletes_opens u id old mode id now reply new step
step_opens u old mode (act.Delete pick.Null) id now reply new (r, same) = leaves_opens u id old _ old.uploads new (λ some. some) same
step_opens u old mode (act.Delete (pick.Id named)) id now reply new (r, same) = leaves_opens u id old _ old.uploads new (λ some. some) same
step_opens u old mode (act.Create kind) id now reply new step = create_opens u old record { id = id; opened = now; kind = kind } reply new step
step_opens u old mode (act.Complete upload parts data_id print size md5) id now reply new step =
    let etag : Etag = record { md5 = md5; parts = parts } in
    let due : Reply = Completed etag (told mode (new_name mode id)) in
    let front : Upload → Version =
    λ opened. record { id = new_name mode id; modified = now; what = Object data_id print size md5 parts (Some upload) opened.kind } in
    with_opens u id old upload (λ opened. AddsVersion old mode (front opened) (still_open upload old.uploads) due) reply new
    (λ opened made. adds_opens u id old mode (front opened) (still_open upload old.uploads) due reply new (still_among u upload old.uploads) made) step
step_opens u old mode (act.Abort upload) id now reply new step =
    with_opens u id old upload (λ opened. Does Plain old.versions (still_open upload old.uploads)) reply new
    (λ opened made. leaves_opens u id old old.versions (still_open upload old.uploads) new (still_among u upload old.uploads) made.1) step

-- an upload that is open after a step was so before, or is the one that was drawn
pub open_after :
    (u : VersionId) (old : KeyState) (mode : Mode) (done : Act) (id : VersionId) (now : ℕ) (reply : Reply) (new : KeyState)
    → Step old mode done id now reply new → is_open u new ≡ true → (is_open u old ≡ true) ⊎ (id ≡ u)
open_after u old mode done id now reply new step opened = elim (step_opens u old mode done id now reply new step (any_from_open u new opened)) [
  | inl before ↦ inl (open_from_any u old before)
  | inr drawn ↦ inr drawn
]
