-- What a step of a key leaves of its versions: those that it had, a marker, and the version of the data that its act brings.
use Rattle.std.proofs.Common.{◌≡◌, ◌≢◌, ◌⊎◌, inl, inr, ℕ, Bool, List, Option, Some, None, MatchOption, Contains, filter, find, refl, sym, subst}
use Rattle.std.proofs.lemmas.List.Elements.{All-contains, All-contains_itself, All-filter}
use Rattle.stamp_id.specs.declared.version.VersionId.{VersionId}
use Rattle.call_types.specs.declared.names.Etag.{Etag}
use Rattle.call_types.specs.declared.names.Mode.{Mode}
use Rattle.call_types.specs.declared.names.Mode.TheVariants.{Never, Enabled, Suspended}
use Rattle.call_types.specs.declared.names.Pick.TheVariants as pick
use Rattle.call_types.specs.declared.version.Version.{Version}
use Rattle.call_types.specs.declared.version.Upload.{Upload}
use Rattle.call_types.specs.declared.version.What.TheVariants.{Marker, Object}
use Rattle.call_types.specs.declared.act.Act.{Act}
use Rattle.call_types.specs.declared.act.Act.TheVariants as act
use Rattle.call_types.specs.declared.reply.Reply.{Reply}
use Rattle.call_types.specs.declared.reply.Reply.TheVariants.{Plain, Completed}
use Rattle.call_types.specs.declared.refusal.Refusal.TheVariants.{NoSuchUpload}
use Rattle.version_list.specs.declared.state.KeyState.{KeyState}
use Rattle.version_list.specs.Naming.{is_upload, still_open}
use Rattle.version_list.specs.Step.{AddsVersion, Deletes, Does, OpensUpload, Refuses, Step, WithUpload, new_name, told}
use Rattle.slot_history.specs.Contents.{IsVersionOf, NamedData}
use Rattle.slot_history.proofs.TakenLemmas.{first_there, there_cases}
use Rattle.slot_rules.specs.Deeds.{act_brings}

-- a version is a marker, or of the data that an act brings
abbrev pub IsMadeBy : Act → Version → Type 0
IsMadeBy done w = (w.what ≡ Marker) ⊎ ((named : NamedData) × (act_brings done ≡ Some named) × IsVersionOf named w)

-- each version is one that was there, or is made by an act
abbrev pub HasOnly : Act → KeyState → KeyState → Type 0
HasOnly done old new = (w : Version) → Contains new.versions w → Contains old.versions w ⊎ IsMadeBy done w

-- what a filter leaves was there
kept_there : {A : Type 0} (p : A → Bool) (xs : List A) (y : A) → Contains (filter p xs) y → Contains xs y
kept_there p xs y there = All-contains (Contains xs) (filter p xs) y (All-filter p (Contains xs) xs (All-contains_itself xs)) there

-- the state stays
same_only : (done : Act) (old new : KeyState) → new ≡ old → HasOnly done old new
same_only done old new same w there = inl (subst (λ (s : KeyState). Contains s.versions w) same there)

-- versions are left that were there
less_only : (done : Act) (old new : KeyState) (p : Version → Bool) (uploads : List Upload) → new ≡ record { versions = filter p old.versions; uploads = uploads }
    → HasOnly done old new
less_only done old new p uploads same w there =
    inl (kept_there p old.versions w (subst (λ (s : KeyState). Contains s.versions w) same there))

-- the versions stay
all_only : (done : Act) (old new : KeyState) (uploads : List Upload) → new ≡ record { versions = old.versions; uploads = uploads } → HasOnly done old new
all_only done old new uploads same w there = inl (subst (λ (s : KeyState). Contains s.versions w) same there)

-- a version is added
adds_only : (made : Act) (old : KeyState) (mode : Mode) (v : Version) (uploads : List Upload) (done reply : Reply) (new : KeyState) → IsMadeBy made v
    → AddsVersion old mode v uploads done reply new → HasOnly made old new
adds_only made old mode v uploads done reply new by (inl (full, (r, same))) = same_only made old new same
adds_only made old mode v uploads done reply new by (inr (few, (r, same))) = λ w there.
    elim (there_cases v _ w (subst (λ (s : KeyState). Contains s.versions w) same there)) [
      | inl is ↦ inr (subst (λ (x : Version). IsMadeBy made x) is by)
      | inr rest ↦ inl (kept_there _ old.versions w rest)
    ]

deletes_only : (made : Act) (old : KeyState) (mode : Mode) (drawn : VersionId) (now : ℕ) (reply : Reply) (new : KeyState) → Deletes old mode drawn now reply new
    → HasOnly made old new
deletes_only made old Never drawn now reply new (r, same) = less_only made old new _ old.uploads same
deletes_only made old Enabled drawn now reply new step = adds_only made old Enabled _ old.uploads _ reply new (inl refl) step
deletes_only made old Suspended drawn now reply new step = adds_only made old Suspended _ old.uploads _ reply new (inl refl) step

create_only : (made : Act) (old : KeyState) (opened : Upload) (reply : Reply) (new : KeyState) → OpensUpload old opened reply new → HasOnly made old new
create_only made old opened reply new (inl (full, (r, same))) = same_only made old new same
create_only made old opened reply new (inr (few, (r, same))) = all_only made old new _ same

with_only : (made : Act) (old : KeyState) (upload : VersionId) (Uses : Upload → Reply → KeyState → Type 0) (reply : Reply) (new : KeyState)
    → ((opened : Upload) → Uses opened reply new → HasOnly made old new) → WithUpload old upload Uses reply new → HasOnly made old new
with_only made old upload Uses reply new uses = by (find (is_upload upload) old.uploads)
  where
    by : (o : Option Upload) → MatchOption o (Refuses NoSuchUpload old reply new) (λ opened. Uses opened reply new) → HasOnly made old new
    by None (r, same) = same_only made old new same
    by (Some opened) step = uses opened step

-- each step
pub step_only : (done : Act) (old : KeyState) (mode : Mode) (id : VersionId) (now : ℕ) (reply : Reply) (new : KeyState) → Step old mode done id now reply new
    → HasOnly done old new
step_only (act.Put data_id print size md5 kind) old mode id now reply new step =
    adds_only (act.Put data_id print size md5 kind) old mode _ old.uploads _ reply new
    (inr (record { id = data_id; print = print; size = size }, refl, (md5, 0, None, kind, refl))) step
step_only (act.Delete pick.Current) old mode id now reply new step = deletes_only (act.Delete pick.Current) old mode id now reply new step
step_only (act.Delete pick.Null) old mode id now reply new (r, same) = less_only (act.Delete pick.Null) old new _ old.uploads same
step_only (act.Delete (pick.Id named)) old mode id now reply new (r, same) = less_only (act.Delete (pick.Id named)) old new _ old.uploads same
step_only (act.Create kind) old mode id now reply new step = create_only (act.Create kind) old record { id = id; opened = now; kind = kind } reply new step
step_only (act.Complete upload parts data_id print size md5) old mode id now reply new step =
    let made : Act = act.Complete upload parts data_id print size md5 in
    let etag : Etag = record { md5 = md5; parts = parts } in
    let due : Reply = Completed etag (told mode (new_name mode id)) in
    let front : Upload → Version =
    λ opened. record { id = new_name mode id; modified = now; what = Object data_id print size md5 parts (Some upload) opened.kind } in
    with_only made old upload (λ opened. AddsVersion old mode (front opened) (still_open upload old.uploads) due) reply new
    (λ opened step. adds_only made old mode (front opened) (still_open upload old.uploads) due reply new
    (inr (record { id = data_id; print = print; size = size }, refl, (md5, parts, Some upload, opened.kind, refl))) step) step
step_only (act.Abort upload) old mode id now reply new step =
    with_only (act.Abort upload) old upload (λ opened. Does Plain old.versions (still_open upload old.uploads)) reply new
    (λ opened step. all_only (act.Abort upload) old new _ step.1) step

-- ---- the data that is brought

-- a version of this data is there
abbrev pub HasMade : NamedData → KeyState → Type 0
HasMade named new = (w : Version) × Contains new.versions w × IsVersionOf named w

adds_made : (named : NamedData) (old : KeyState) (mode : Mode) (v : Version) (uploads : List Upload) (done reply : Reply) (new : KeyState) → IsVersionOf named v
    → new ≢ old → AddsVersion old mode v uploads done reply new → HasMade named new
adds_made named old mode v uploads done reply new is other (inl (full, (r, same))) = absurd (other same)
adds_made named old mode v uploads done reply new is other (inr (few, (r, same))) =
    (v, subst (λ (s : KeyState). Contains s.versions v) (sym same) (first_there v _), is)

-- data that is brought is that of the act
same_named : (one named : NamedData) → Some one ≡ Some named → one ≡ named
same_named one named is = cc

with_made : (named : NamedData) (old : KeyState) (upload : VersionId) (Uses : Upload → Reply → KeyState → Type 0) (reply : Reply) (new : KeyState) → new ≢ old
    → ((opened : Upload) → Uses opened reply new → HasMade named new) → WithUpload old upload Uses reply new → HasMade named new
with_made named old upload Uses reply new other uses = by (find (is_upload upload) old.uploads)
  where
    by : (o : Option Upload) → MatchOption o (Refuses NoSuchUpload old reply new) (λ opened. Uses opened reply new) → HasMade named new
    by None (r, same) = absurd (other same)
    by (Some opened) step = uses opened step

-- where a step changes the state, the version that its act brings is there
pub step_made : (done : Act) (old : KeyState) (mode : Mode) (id : VersionId) (now : ℕ) (reply : Reply) (new : KeyState) (named : NamedData)
    → Step old mode done id now reply new → new ≢ old → act_brings done ≡ Some named → HasMade named new
step_made (act.Put data_id print size md5 kind) old mode id now reply new named step other brings =
    subst (λ (n : NamedData). HasMade n new) (same_named (record { id = data_id; print = print; size = size }) named brings)
    (adds_made (record { id = data_id; print = print; size = size }) old mode _ old.uploads _ reply new (md5, 0, None, kind, refl) other step)
step_made (act.Delete what) old mode id now reply new named step other brings = absurd cc
step_made (act.Create kind) old mode id now reply new named step other brings = absurd cc
step_made (act.Complete upload parts data_id print size md5) old mode id now reply new named step other brings =
    let one : NamedData = record { id = data_id; print = print; size = size } in
    let etag : Etag = record { md5 = md5; parts = parts } in
    let due : Reply = Completed etag (told mode (new_name mode id)) in
    let front : Upload → Version =
    λ opened. record { id = new_name mode id; modified = now; what = Object data_id print size md5 parts (Some upload) opened.kind } in
    subst (λ (n : NamedData). HasMade n new) (same_named one named brings)
    (with_made one old upload (λ opened. AddsVersion old mode (front opened) (still_open upload old.uploads) due) reply new other
    (λ opened step. adds_made one old mode (front opened) (still_open upload old.uploads) due reply new (md5, parts, Some upload, opened.kind, refl) other step) step)
step_made (act.Abort upload) old mode id now reply new named step other brings = absurd cc
