-- Which ids a state names, and which a step adds.
use Rattle.std.proofs.Common.{◌≡◌, ◌⊎◌, inl, inr, ℕ, Bool, true, false, ◌||◌, List, [], ◌∷◌, ◌++◌, Option, Some, None, MatchOption, find, refl, sym, subst, ◌∙◌}
use Rattle.std.specs.List.{list_any}
use Rattle.std.proofs.lemmas.List.Folds.{list_any-append}
use Rattle.stamp_id.specs.declared.version.VersionId.{VersionId}
use Rattle.call_types.specs.declared.names.Mode.{Mode}
use Rattle.call_types.specs.declared.names.Mode.TheVariants.{Never, Enabled, Suspended}
use Rattle.call_types.specs.declared.names.Pick.TheVariants as pick
use Rattle.call_types.specs.declared.names.Etag.{Etag}
use Rattle.call_types.specs.declared.names.VersionName.TheVariants.{Null, Id}
use Rattle.call_types.specs.declared.version.Version.{Version}
use Rattle.call_types.specs.declared.version.Upload.{Upload}
use Rattle.call_types.specs.declared.version.What.{What}
use Rattle.call_types.specs.declared.version.What.TheVariants.{Marker, Object}
use Rattle.call_types.specs.declared.act.Act.{Act}
use Rattle.call_types.specs.declared.act.Act.TheVariants as act
use Rattle.call_types.specs.declared.reply.Reply.{Reply}
use Rattle.call_types.specs.declared.reply.Reply.TheVariants.{Plain, Completed}
use Rattle.call_types.specs.declared.refusal.Refusal.TheVariants.{NoSuchUpload}
use Rattle.version_list.specs.declared.state.KeyState.{KeyState}
use Rattle.version_list.specs.Naming.{same_id, same_name, has_name, is_upload, kept, still_open}
use Rattle.version_list.specs.NamesId.{is_made_by, what_names, version_names, names_id, HasNone, act_brings}
use Rattle.version_list.specs.Gone.{has_data, is_data}
use Rattle.version_list.specs.Step.{new_name, replaced, told, AddsVersion, AddsMarker, Deletes, OpensUpload, WithUpload, Refuses, Does, Step}
use Rattle.version_list.proofs.NamingLemmas.{same_id-true}
use Rattle.version_list.proofs.SubLemmas.{Sub, empty, skip, keep, Sub-refl}
use Rattle.version_list.proofs.StepLemmas.{kept-Sub, still_open-Sub}

-- neither of two tests passes
both_false : (a b : Bool) → (a || b) ≡ false → (a ≡ false) × (b ≡ false)
both_false true b h = absurd cc
both_false false b h = (refl, h)

-- one of two tests passes
pub one_true : (a b : Bool) → (a || b) ≡ true → (a ≡ true) ⊎ (b ≡ true)
one_true true b h = inl refl
one_true false b h = inr h

pub first_true : (a b : Bool) → a ≡ true → (a || b) ≡ true
first_true a b h = rw h refl

pub second_true : (a b : Bool) → b ≡ true → (a || b) ≡ true
second_true true b h = refl
second_true false b h = h

-- a test that fails wherever another fails
list_any-false :
    {A : Type 0} (p q : A → Bool) → ((x : A) → q x ≡ false → p x ≡ false) → (xs : List A) → list_any q xs ≡ false → list_any p xs ≡ false
list_any-false p q weaker [] none = refl
list_any-false p q weaker (x ∷ xs) none =
    let parts = both_false (q x) (list_any q xs) none in
    rw (weaker x parts.0) (list_any-false p q weaker xs parts.1)

-- data that a version has is named by it
data_named : (id : VersionId) (w : What) → what_names id w ≡ false → is_data id w ≡ false
data_named id Marker h = refl
data_named id (Object data_id print size md5 parts upload kind) h = (both_false (same_id data_id id) (is_made_by id upload) h).0

-- a key has nothing of an id that it doesn't name
pub unnamed : (id : VersionId) (state : KeyState) → names_id id state ≡ false → HasNone id state
unnamed id state h =
    let parts = both_false (list_any (version_names id) state.versions) (list_any (is_upload id) state.uploads) h in
    record {
      versions =
          list_any-false (has_name (Id id)) (version_names id) (λ v none. (both_false (has_name (Id id) v) (what_names id v.what) none).0) state.versions
          parts.0;
      «data» =
          list_any-false (has_data id) (version_names id)
          (λ v none. data_named id v.what (both_false (has_name (Id id) v) (what_names id v.what) none).1) state.versions parts.0;
      uploads = parts.1;
    }

-- what a part of a list has, the list has
any_Sub : {A : Type 0} (p : A → Bool) (xs ys : List A) → Sub xs ys → list_any p xs ≡ true → list_any p ys ≡ true
any_Sub p _ _ empty some = some
any_Sub p _ _ (skip y xs ys sub) some = second_true (p y) (list_any p ys) (any_Sub p xs ys sub some)
any_Sub p _ _ (keep x xs ys sub) some = elim (one_true (p x) (list_any p xs) some) [
  | inl here ↦ first_true (p x) (list_any p ys) here
  | inr there ↦ second_true (p x) (list_any p ys) (any_Sub p xs ys sub there)
]

-- where less is left, no more is named
named_within :
    (id : VersionId) (old : KeyState) (vs : List Version) (us : List Upload) → Sub vs old.versions → Sub us old.uploads
    → names_id id record { versions = vs; uploads = us } ≡ true → names_id id old ≡ true
named_within id old vs us in_versions in_uploads named =
    let among = list_any (version_names id) old.versions in
    elim (one_true (list_any (version_names id) vs) (list_any (is_upload id) us) named) [
      | inl v ↦ first_true among (list_any (is_upload id) old.uploads) (any_Sub (version_names id) vs old.versions in_versions v)
      | inr u ↦ second_true among (list_any (is_upload id) old.uploads) (any_Sub (is_upload id) us old.uploads in_uploads u)
    ]

-- the ids that may be named after a step
abbrev pub MayName : VersionId → KeyState → Act → VersionId → Type 0
MayName id old done drawn = (names_id id old ≡ true) ⊎ ((same_id drawn id || act_brings id done) ≡ true)

named_same : (id : VersionId) (old : KeyState) (done : Act) (drawn : VersionId) (new : KeyState) → new ≡ old → names_id id new ≡ true → MayName id old done drawn
named_same id old done drawn new same named = inl (subst (λ (s : KeyState). names_id id s ≡ true) same named)

-- a new version is named by the id that was drawn, if by any
new_named : (mode : Mode) (drawn id : VersionId) → same_name (new_name mode drawn) (Id id) ≡ true → same_id drawn id ≡ true
new_named Never drawn id h = absurd cc
new_named Enabled drawn id h = h
new_named Suspended drawn id h = absurd cc

-- one version more
AddsVersion-named :
    (id : VersionId) (old : KeyState) (mode : Mode) (v : Version) (done : Act) (drawn : VersionId) (uploads : List Upload) (told_reply reply : Reply)
    (new : KeyState) → v.id ≡ new_name mode drawn → Sub uploads old.uploads → (what_names id v.what ≡ true → MayName id old done drawn)
    → AddsVersion old mode v uploads told_reply reply new → names_id id new ≡ true → MayName id old done drawn
AddsVersion-named id old mode v done drawn uploads told_reply reply new is us brings (inl (full, (r, same))) named = named_same id old done drawn new same named
AddsVersion-named id old mode v done drawn uploads told_reply reply new is us brings (inr (few, (r, same))) named =
    let stay = kept (replaced mode) old.versions in
    let among = list_any (version_names id) stay in
    let there : names_id id record { versions = v ∷ stay; uploads = uploads } ≡ true = subst (λ (s : KeyState). names_id id s ≡ true) same named in
    let older : names_id id record { versions = stay; uploads = uploads } ≡ true → MayName id old done drawn =
    λ h. inl (named_within id old stay uploads (kept-Sub (replaced mode) old.versions) us h) in
    let front : version_names id v ≡ true → MayName id old done drawn =
    λ h. elim (one_true (has_name (Id id) v) (what_names id v.what) h) [
      | inl name ↦
          inr (first_true (same_id drawn id) (act_brings id done) (new_named mode drawn id (subst (λ n. same_name n (Id id) ≡ true) is name)))
      | inr what ↦ brings what
    ] in
    elim (one_true (version_names id v || among) (list_any (is_upload id) uploads) there) [
      | inl vs ↦ elim (one_true (version_names id v) among vs) [
        | inl h ↦ front h
        | inr h ↦ older (first_true among (list_any (is_upload id) uploads) h)
      ]
      | inr u ↦ older (second_true among (list_any (is_upload id) uploads) u)
    ]

Does-named :
    (id : VersionId) (old : KeyState) (done : Act) (drawn : VersionId) (told_reply : Reply) (vs : List Version) (us : List Upload) (reply : Reply)
    (new : KeyState) → Sub vs old.versions → Sub us old.uploads → Does told_reply vs us reply new → names_id id new ≡ true
    → MayName id old done drawn
Does-named id old done drawn told_reply vs us reply new in_versions in_uploads (r, same) named =
    inl (named_within id old vs us in_versions in_uploads (subst (λ (s : KeyState). names_id id s ≡ true) same named))

AddsMarker-named :
    (id : VersionId) (old : KeyState) (mode : Mode) (done : Act) (drawn : VersionId) (now : ℕ) (reply : Reply) (new : KeyState)
    → AddsMarker old mode drawn now reply new → names_id id new ≡ true → MayName id old done drawn
AddsMarker-named id old mode done drawn now reply new step named =
    AddsVersion-named id old mode record { id = new_name mode drawn; modified = now; what = Marker } done drawn old.uploads _ reply new refl
    (Sub-refl old.uploads) (λ h. absurd cc) step named

Deletes-named :
    (id : VersionId) (old : KeyState) (mode : Mode) (done : Act) (drawn : VersionId) (now : ℕ) (reply : Reply) (new : KeyState)
    → Deletes old mode drawn now reply new → names_id id new ≡ true → MayName id old done drawn
Deletes-named id old Never done drawn now reply new step named =
    Does-named id old done drawn _ _ _ reply new (kept-Sub (Some Null) old.versions) (Sub-refl old.uploads) step named
Deletes-named id old Enabled done drawn now reply new step named = AddsMarker-named id old Enabled done drawn now reply new step named
Deletes-named id old Suspended done drawn now reply new step named = AddsMarker-named id old Suspended done drawn now reply new step named

OpensUpload-named :
    (id : VersionId) (old : KeyState) (done : Act) (opened : Upload) (reply : Reply) (new : KeyState) → OpensUpload old opened reply new
    → names_id id new ≡ true → MayName id old done opened.id
OpensUpload-named id old done opened reply new (inl (full, (r, same))) named = named_same id old done opened.id new same named
OpensUpload-named id old done opened reply new (inr (few, (r, same))) named =
    let among = list_any (version_names id) old.versions in
    let opens = list_any (is_upload id) old.uploads in
    let there : (among || list_any (is_upload id) (old.uploads ++ opened ∷ [])) ≡ true = subst (λ (s : KeyState). names_id id s ≡ true) same named in
    elim (one_true among (list_any (is_upload id) (old.uploads ++ opened ∷ [])) there) [
      | inl v ↦ inl (first_true among opens v)
      | inr u ↦ elim (one_true opens (list_any (is_upload id) (opened ∷ [])) (sym (list_any-append (is_upload id) old.uploads (opened ∷ [])) ∙ u)) [
        | inl h ↦ inl (second_true among opens h)
        | inr h ↦ elim (one_true (same_id opened.id id) false h) [
          | inl drawn ↦ inr (first_true (same_id opened.id id) (act_brings id done) drawn)
          | inr never ↦ absurd cc
        ]
      ]
    ]

-- an item that is found passes the test
found_any : {A : Type 0} (p : A → Bool) (xs : List A) (x : A) → find p xs ≡ Some x → list_any p xs ≡ true
found_any p [] x found = absurd cc
found_any {A} p (y ∷ ys) x found = step (p y) refl (found_any p ys x) found
  where
    step : (b : Bool) → p y ≡ b → (find p ys ≡ Some x → list_any p ys ≡ true) → find p (y ∷ ys) ≡ Some x → list_any p (y ∷ ys) ≡ true
    step true h later found = first_true (p y) (list_any p ys) h
    step false h later found = second_true (p y) (list_any p ys) (later (rw h at found))

WithUpload-named :
    (id : VersionId) (old : KeyState) (done : Act) (drawn : VersionId) (upload : VersionId) (Uses : Upload → Reply → KeyState → Type 0) (reply : Reply)
    (new : KeyState)
    → ((opened : Upload) → list_any (is_upload upload) old.uploads ≡ true → Uses opened reply new → MayName id old done drawn)
    → WithUpload old upload Uses reply new → names_id id new ≡ true → MayName id old done drawn
WithUpload-named id old done drawn upload Uses reply new uses step named = by (find (is_upload upload) old.uploads) refl step
  where
    by :
        (o : Option Upload) → find (is_upload upload) old.uploads ≡ o
        → MatchOption o (Refuses NoSuchUpload old reply new) (λ opened. Uses opened reply new) → MayName id old done drawn
    by None found (r, same) = named_same id old done drawn new same named
    by (Some opened) found made = uses opened (found_any (is_upload upload) old.uploads opened found) made

-- the data that is brought
put_brings : (id : VersionId) (old : KeyState) (done : Act) (drawn data_id : VersionId) → act_brings id done ≡ same_id data_id id → same_id data_id id ≡ true → MayName id old done drawn
put_brings id old done drawn data_id is h = inr (second_true (same_id drawn id) (act_brings id done) (is ∙ h))

-- after a step no other ids are named
pub named_after :
    (old : KeyState) (mode : Mode) (done : Act) (drawn : VersionId) (now : ℕ) (reply : Reply) (new : KeyState) (id : VersionId)
    → Step old mode done drawn now reply new → names_id id new ≡ true → MayName id old done drawn
named_after old mode (act.Put data_id print size md5 kind) drawn now reply new id step named =
    let done : Act = act.Put data_id print size md5 kind in
    let brings : (same_id data_id id || false) ≡ true → MayName id old done drawn =
    λ h. elim (one_true (same_id data_id id) false h) [
      | inl is ↦ put_brings id old done drawn data_id refl is
      | inr never ↦ absurd cc
    ] in
    AddsVersion-named id old mode record { id = new_name mode drawn; modified = now; what = Object data_id print size md5 0 None kind } done drawn
    old.uploads _ reply new refl (Sub-refl old.uploads) brings step named
named_after old mode (act.Delete pick.Current) drawn now reply new id step named =
    Deletes-named id old mode (act.Delete pick.Current) drawn now reply new step named
named_after old mode (act.Delete pick.Null) drawn now reply new id step named =
    Does-named id old (act.Delete pick.Null) drawn _ _ _ reply new (kept-Sub (Some Null) old.versions) (Sub-refl old.uploads) step named
named_after old mode (act.Delete (pick.Id name)) drawn now reply new id step named =
    Does-named id old (act.Delete (pick.Id name)) drawn _ _ _ reply new (kept-Sub (Some (Id name)) old.versions) (Sub-refl old.uploads) step named
named_after old mode (act.Create kind) drawn now reply new id step named =
    OpensUpload-named id old (act.Create kind) record { id = drawn; opened = now; kind = kind } reply new step named
named_after old mode (act.Complete upload parts data_id print size md5) drawn now reply new id step named =
    let done : Act = act.Complete upload parts data_id print size md5 in
    let etag : Etag = record { md5 = md5; parts = parts } in
    let reply_due : Reply = Completed etag (told mode (new_name mode drawn)) in
    let front : Upload → Version =
    λ opened. record { id = new_name mode drawn; modified = now; what = Object data_id print size md5 parts (Some upload) opened.kind } in
    let uses : Upload → Reply → KeyState → Type 0 = λ opened. AddsVersion old mode (front opened) (still_open upload old.uploads) reply_due in
    let among = list_any (version_names id) old.versions in
    let brings : list_any (is_upload upload) old.uploads ≡ true → (same_id data_id id || same_id upload id) ≡ true → MayName id old done drawn =
    λ opens h. elim (one_true (same_id data_id id) (same_id upload id) h) [
      | inl is ↦ put_brings id old done drawn data_id refl is
      | inr is ↦
          inl (second_true among (list_any (is_upload id) old.uploads)
          (subst (λ (u : VersionId). list_any (is_upload u) old.uploads ≡ true) (same_id-true upload id is) opens))
    ] in
    WithUpload-named id old done drawn upload uses reply new
    (λ opened opens made.
    AddsVersion-named id old mode (front opened) done drawn (still_open upload old.uploads) reply_due reply new refl
    (still_open-Sub upload old.uploads) (brings opens) made named)
    step named
named_after old mode (act.Abort upload) drawn now reply new id step named =
    let uses : Upload → Reply → KeyState → Type 0 = λ opened. Does Plain old.versions (still_open upload old.uploads) in
    WithUpload-named id old (act.Abort upload) drawn upload uses reply new
    (λ opened opens made.
    Does-named id old (act.Abort upload) drawn Plain old.versions (still_open upload old.uploads) reply new (Sub-refl old.versions)
    (still_open-Sub upload old.uploads) made named)
    step named
