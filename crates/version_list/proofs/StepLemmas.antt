-- A step leaves a canonical state.
use Rattle.std.proofs.Common.{◌≡◌, ◌≢◌, inl, inr, ℕ, List, [], ◌∷◌, Bool, true, false, not, Option, Some, None, IsNone, MatchOption, Result, Ok, Err, IfOk, OnOk, IfSome, unwrap_or, find, refl, sym, ap, subst, arith}
use Rattle.std.specs.List.{AllByRecursion}
use Rattle.stamp_id.specs.declared.version.VersionId.{VersionId}
use Rattle.call_types.specs.declared.names.Mode.{Mode}
use Rattle.call_types.specs.declared.names.Mode.TheVariants.{Never, Enabled, Suspended}
use Rattle.call_types.specs.declared.names.Pick.TheVariants as pick
use Rattle.call_types.specs.declared.names.VersionName.{VersionName}
use Rattle.call_types.specs.declared.names.VersionName.TheVariants.{Null, Id}
use Rattle.call_types.specs.declared.version.Version.{Version}
use Rattle.call_types.specs.declared.version.Upload.{Upload}
use Rattle.call_types.specs.declared.version.What.TheVariants.{Marker, Object}
use Rattle.call_types.specs.declared.act.Act.{Act}
use Rattle.call_types.specs.declared.act.Brief.{Brief}
use Rattle.call_types.specs.declared.act.Brief.TheVariants.{Read, Gather, Change, Part, MakeBucket, SetMode, Answer}
use Rattle.call_types.specs.declared.act.Act.TheVariants as act
use Rattle.call_types.specs.declared.reply.Reply.{Reply}
use Rattle.call_types.specs.declared.reply.Reply.TheVariants.{Plain, Completed}
use Rattle.call_types.specs.declared.refusal.Refusal.TheVariants.{NoSuchUpload}
use Rattle.call_types.specs.declared.names.Etag.{Etag}
use Rattle.version_list.specs.declared.state.KeyState.{KeyState}
use Rattle.version_list.specs.declared.outcome.Applied.{Applied}
use Rattle.version_list.specs.declared.outcome.ActFault.{ActFault}
use Rattle.version_list.specs.Answers.{Answers, IsDone, state_after}
use Rattle.version_list.specs.Naming.{is_named, kept, is_upload, still_open}
use Rattle.version_list.specs.NamesId.{HasNone}
use Rattle.version_list.specs.Lawful.{IsLawful, IsSized, AreSized}
use Rattle.version_list.specs.State.{names_of, IsMoment, IsKind, IsCanonical, IsCanonicalVersion, IsCanonicalUpload}
use Rattle.version_list.specs.Step.{new_name, replaced, told, AddsVersion, AddsMarker, Deletes, OpensUpload, WithUpload, Refuses, Does, Step}
use Rattle.version_list.proofs.SubLemmas.{Sub, Sub-refl, Sub-filter}
use Rattle.version_list.proofs.CanonicalLemmas.{IsCanonical-Sub, IsCanonical-front, IsCanonical-opened, new_apart, opened_apart}

-- what stays is part of what there was
pub kept-Sub : (goes : Option VersionName) (xs : List Version) → Sub (kept goes xs) xs
kept-Sub goes xs = Sub-filter (λ v. not (is_named goes v)) xs

pub still_open-Sub : (id : VersionId) (xs : List Upload) → Sub (still_open id xs) xs
still_open-Sub id xs = Sub-filter (λ u. not (is_upload id u)) xs

AddsVersion-canonical :
    (old : KeyState) (mode : Mode) (v : Version) (id : VersionId) (uploads : List Upload) (done reply : Reply) (new : KeyState)
    → IsCanonical old → HasNone id old → v.id ≡ new_name mode id → IsCanonicalVersion v → Sub uploads old.uploads
    → AddsVersion old mode v uploads done reply new → IsCanonical new
AddsVersion-canonical old mode v id uploads done reply new canonical fresh named good us (inl (full, (r, same))) =
    subst IsCanonical (sym same) canonical
AddsVersion-canonical old mode v id uploads done reply new canonical fresh named good us (inr (few, (r, same))) =
    let stay = IsCanonical-Sub old (kept (replaced mode) old.versions) uploads canonical (kept-Sub (replaced mode) old.versions) us in
    let apart =
    subst (λ n. AllByRecursion (λ y. n ≢ y) (names_of record { versions = kept (replaced mode) old.versions; uploads = uploads }))
    (sym named) (new_apart mode id old uploads fresh us) in
    subst IsCanonical (sym same) (IsCanonical-front v (kept (replaced mode) old.versions) uploads stay few good apart)

Does-canonical :
    (old : KeyState) (done : Reply) (versions : List Version) (uploads : List Upload) (reply : Reply) (new : KeyState)
    → IsCanonical old → Sub versions old.versions → Sub uploads old.uploads → Does done versions uploads reply new → IsCanonical new
Does-canonical old done versions uploads reply new canonical vs us (r, same) =
    subst IsCanonical (sym same) (IsCanonical-Sub old versions uploads canonical vs us)

marker-canonical : (name : VersionName) (now : ℕ) → IsMoment now → IsCanonicalVersion record { id = name; modified = now; what = Marker }
marker-canonical name now moment = record { modified = moment; what = tt }

AddsMarker-canonical :
    (old : KeyState) (mode : Mode) (id : VersionId) (now : ℕ) (reply : Reply) (new : KeyState)
    → IsCanonical old → HasNone id old → IsMoment now → AddsMarker old mode id now reply new → IsCanonical new
AddsMarker-canonical old mode id now reply new canonical fresh moment step =
    AddsVersion-canonical old mode _ id old.uploads _ reply new canonical fresh refl (marker-canonical (new_name mode id) now moment)
    (Sub-refl old.uploads) step

Deletes-canonical :
    (old : KeyState) (mode : Mode) (id : VersionId) (now : ℕ) (reply : Reply) (new : KeyState)
    → IsCanonical old → HasNone id old → IsMoment now → Deletes old mode id now reply new → IsCanonical new
Deletes-canonical old Never id now reply new canonical fresh moment step =
    Does-canonical old _ _ _ reply new canonical (kept-Sub (Some Null) old.versions) (Sub-refl old.uploads) step
Deletes-canonical old Enabled id now reply new canonical fresh moment step = AddsMarker-canonical old Enabled id now reply new canonical fresh moment step
Deletes-canonical old Suspended id now reply new canonical fresh moment step = AddsMarker-canonical old Suspended id now reply new canonical fresh moment step

OpensUpload-canonical :
    (old : KeyState) (opened : Upload) (reply : Reply) (new : KeyState)
    → IsCanonical old → HasNone opened.id old → IsCanonicalUpload opened → OpensUpload old opened reply new → IsCanonical new
OpensUpload-canonical old opened reply new canonical fresh good (inl (full, (r, same))) = subst IsCanonical (sym same) canonical
OpensUpload-canonical old opened reply new canonical fresh good (inr (few, (r, same))) =
    subst IsCanonical (sym same) (IsCanonical-opened old opened canonical few good (opened_apart opened.id old fresh))

-- what is true of each upload is true of the one that is found
found_is : (P : Upload → Type 0) (p : Upload → Bool) (xs : List Upload) (u : Upload) → AllByRecursion P xs → find p xs ≡ Some u → P u
found_is P p [] u all found = cc
found_is P p (x ∷ xs) u all found = step (p x) refl (found_is P p xs u all.1) found
  where
    step : (b : Bool) → p x ≡ b → (find p xs ≡ Some u → P u) → find p (x ∷ xs) ≡ Some u → P u
    step true h rest found = let e : Some x ≡ Some u = rw h at found in let same : x ≡ u = cc in subst P same all.0
    step false h rest found = rest (rw h at found)

WithUpload-canonical :
    (old : KeyState) (id : VersionId) (Uses : Upload → Reply → KeyState → Type 0) (reply : Reply) (new : KeyState)
    → IsCanonical old → ((opened : Upload) → IsCanonicalUpload opened → Uses opened reply new → IsCanonical new)
    → WithUpload old id Uses reply new → IsCanonical new
WithUpload-canonical old id Uses reply new canonical uses = step (find (is_upload id) old.uploads) refl
  where
    step :
        (o : Option Upload) → find (is_upload id) old.uploads ≡ o
        → MatchOption o (Refuses NoSuchUpload old reply new) (λ opened. Uses opened reply new) → IsCanonical new
    step None found (r, same) = subst IsCanonical (sym same) canonical
    step (Some opened) found made = uses opened (found_is IsCanonicalUpload (is_upload id) old.uploads opened canonical.uploads found) made

object-canonical :
    (name : VersionName) (now : ℕ) (data_id : VersionId) (print : List ℕ) (size : ℕ) (md5 : List ℕ) (parts : ℕ)
    (upload : Option VersionId) (kind : List ℕ) → IsMoment now → AreSized print size md5 parts → IsKind kind
    → (parts ≡ 0 → IsNone upload) → (IsNone upload → parts ≡ 0)
    → IsCanonicalVersion record { id = name; modified = now; what = Object data_id print size md5 parts upload kind }
object-canonical name now data_id print size md5 parts upload kind moment sized short single none = record {
  modified = moment;
  what = record {
    print_sized = sized.print_sized;
    size_fits = sized.size_fits;
    md5_sized = sized.md5_sized;
    parts_fit = sized.parts_fit;
    parts_of_upload = (single, none);
    kind_short = short;
  };
}

-- A step from a canonical state leaves one.
pub IsCanonical-Step :
    (old : KeyState) (mode : Mode) (act : Act) (id : VersionId) (now : ℕ) (reply : Reply) (new : KeyState)
    → IsCanonical old → HasNone id old → IsMoment now → IsLawful act → IsSized act
    → Step old mode act id now reply new → IsCanonical new
IsCanonical-Step old mode (act.Put data_id print size md5 kind) id now reply new canonical fresh moment lawful sized step =
    AddsVersion-canonical old mode _ id old.uploads _ reply new canonical fresh refl
    (object-canonical _ now data_id print size md5 0 None kind moment sized lawful (λ zero. refl) (λ none. refl))
    (Sub-refl old.uploads) step
IsCanonical-Step old mode (act.Delete pick.Current) id now reply new canonical fresh moment lawful sized step =
    Deletes-canonical old mode id now reply new canonical fresh moment step
IsCanonical-Step old mode (act.Delete pick.Null) id now reply new canonical fresh moment lawful sized step =
    Does-canonical old _ _ _ reply new canonical (kept-Sub (Some Null) old.versions) (Sub-refl old.uploads) step
IsCanonical-Step old mode (act.Delete (pick.Id named)) id now reply new canonical fresh moment lawful sized step =
    Does-canonical old _ _ _ reply new canonical (kept-Sub (Some (Id named)) old.versions) (Sub-refl old.uploads) step
IsCanonical-Step old mode (act.Create kind) id now reply new canonical fresh moment lawful sized step =
    OpensUpload-canonical old _ reply new canonical fresh (record { opened = moment; kind_short = lawful }) step
IsCanonical-Step old mode (act.Complete upload parts data_id print size md5) id now reply new canonical fresh moment lawful sized step =
    let etag : Etag = record { md5 = md5; parts = parts } in
    let done : Reply = Completed etag (told mode (new_name mode id)) in
    let front : Upload → Version =
    λ opened. record { id = new_name mode id; modified = now; what = Object data_id print size md5 parts (Some upload) opened.kind } in
    let uses : Upload → Reply → KeyState → Type 0 = λ opened. AddsVersion old mode (front opened) (still_open upload old.uploads) done in
    let single : parts ≡ 0 → IsNone (Some upload) = λ zero. absurd (omega (arith, lawful.0)) in
    let none : IsNone (Some upload) → parts ≡ 0 = λ never. cc in
    WithUpload-canonical old upload uses reply new canonical
    (λ opened good made.
    AddsVersion-canonical old mode (front opened) id (still_open upload old.uploads) done reply new canonical fresh refl
    (object-canonical _ now data_id print size md5 parts (Some upload) opened.kind moment sized good.kind_short single none)
    (still_open-Sub upload old.uploads) made)
    step
IsCanonical-Step old mode (act.Abort upload) id now reply new canonical fresh moment lawful sized step =
    let uses : Upload → Reply → KeyState → Type 0 = λ opened. Does Plain old.versions (still_open upload old.uploads) in
    WithUpload-canonical old upload uses reply new canonical
    (λ opened good made.
    Does-canonical old Plain old.versions (still_open upload old.uploads) reply new canonical (Sub-refl old.versions)
    (still_open-Sub upload old.uploads) made)
    step

-- a state that is due is canonical
done_canonical :
    (Due : Reply → KeyState → Type 0) (brief : Brief) (new : KeyState)
    → ((reply : Reply) (made : KeyState) → Due reply made → IsCanonical made) → IsDone Due brief new → IsCanonical new
done_canonical Due (Answer told) new keeps (served, due) = keeps told new due
done_canonical Due (Read at mode pick) new keeps never = absurd never
done_canonical Due (Gather at upload parts) new keeps never = absurd never
done_canonical Due (Change at mode act change now) new keeps never = absurd never
done_canonical Due (Part at upload number part change now) new keeps never = absurd never
done_canonical Due (MakeBucket bucket change now) new keeps never = absurd never
done_canonical Due (SetMode bucket mode change now) new keeps never = absurd never

-- what an answer leaves of a step from a canonical state
pub IsCanonical-Answers :
    (Due : Reply → KeyState → Type 0) (old : KeyState) (Sized : Type 0) (result : Result Applied ActFault) → Answers Due old result
    → OnOk result Sized → (Sized → (reply : Reply) (new : KeyState) → Due reply new → IsCanonical new)
    → IfOk result (λ a. IfSome a.state IsCanonical)
IsCanonical-Answers Due old Sized (Err fault) answers sized keeps = tt
IsCanonical-Answers Due old Sized (Ok applied) answers sized keeps = step applied.state refl
  where
    step : (o : Option KeyState) → applied.state ≡ o → IfSome o IsCanonical
    step None same = tt
    step (Some new) same =
        let after : state_after old applied ≡ new = ap (λ o. unwrap_or o old) same in
        done_canonical Due applied.done new (keeps sized) (subst (IsDone Due applied.done) after answers.done)
