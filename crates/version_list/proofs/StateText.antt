-- The texts that spell a state.
use Rattle.std.proofs.Common.{◌≡◌, ℕ, ◌+◌, ◌^◌, ◌<◌, ◌≤◌, Bool, true, false, ltb, leb, List, [], ◌∷◌, length, Result, Ok, refl, sym, ap, subst, ◌∙◌, arith, ◌⊎◌, inl, inr}
use Rattle.std.specs.Prelude.{◌||◌, ◌==◌}
use Rattle.std.specs.List.{flat_map}
use Rattle.std.specs.Int.{w32}
use Rattle.std.proofs.lemmas.Bool.{ltb-true, leb-true}
use Rattle.std.proofs.lemmas.Bool.Decides.{nat_tests}
use Rattle.field_reader.specs.Format.{Format, ◌>>=◌, done, number, with_rule, ends, value_of}
use Rattle.field_reader.specs.Spelling.{IsBytes, number_bytes}
use Rattle.field_reader.proofs.Parts.{IsSpelled, Then, then_spelled, then_joined, Done, done_spelled, Ruled, rule_spelled, told_spelled}
use Rattle.field_reader.proofs.Numbers.{Numbered, u32_spelled}
use Rattle.field_reader.proofs.Series.{AllAfter, Listed, listed_spelled}
use Rattle.field_reader.proofs.Whole.{whole_takes, whole_again}
use Rattle.stamp_id.proofs.IdTests.{both_true}
use Rattle.version_list.specs.Rows.{VersionRow, UploadRow, StateRows}
use Rattle.version_list.specs.Layout.{is_among, version, versions, version_names, upload, uploads, upload_names, is_version_count, is_upload_count, long_state, key_state}
use Rattle.version_list.specs.Spelling.{version_bytes, upload_bytes, long_form, rows_bytes}
use Rattle.version_list.proofs.RowTexts.{IsVersionRow, version_spelled, IsUploadRow, upload_spelled}

-- a version after others, and an upload after others where some names were used before them
abbrev pub IsVersionAfter : List VersionRow → VersionRow → Type 0
IsVersionAfter before = IsVersionRow (is_among (version_names before))

abbrev pub IsUploadAfter : (List ℕ → Bool) → List UploadRow → UploadRow → Type 0
IsUploadAfter is_used before = IsUploadRow (λ id. is_used id || is_among (upload_names before) id)

-- rows that the format takes
pub record AreRows (r : StateRows) : Type 0 where
  pub few_versions : length r.versions ≤ 10000
  pub few_uploads : length r.uploads ≤ 1000
  pub versions : AllAfter IsVersionAfter [] r.versions
  pub uploads : AllAfter (IsUploadAfter (is_among (version_names r.versions))) [] r.uploads

abbrev VersionsText : ℕ → List VersionRow → List ℕ → Type 0
VersionsText count = Listed IsVersionAfter version_bytes count []

abbrev UploadsText : (List ℕ → Bool) → ℕ → List UploadRow → List ℕ → Type 0
UploadsText is_used count = Listed (IsUploadAfter is_used) upload_bytes count []

versions_spelled : (count : ℕ) → IsSpelled (versions count) (VersionsText count)
unfolding versions
versions_spelled count = listed_spelled (λ before. version (is_among (version_names before))) IsVersionAfter version_bytes (λ before. version_spelled (is_among (version_names before))) count []

uploads_spelled : (is_used : List ℕ → Bool) (count : ℕ) → IsSpelled (uploads is_used count) (UploadsText is_used count)
unfolding uploads
uploads_spelled is_used count = listed_spelled (λ before. upload (λ id. is_used id || is_among (upload_names before) id)) (IsUploadAfter is_used) upload_bytes (λ before. upload_spelled (λ id. is_used id || is_among (upload_names before) id)) count []

abbrev made : List VersionRow → List UploadRow → StateRows
made vs us = record { versions = vs; uploads = us }

abbrev f4 : List VersionRow → ℕ → Format StateRows
f4 vs n = uploads (is_among (version_names vs)) n >>= λ us. done (made vs us)

abbrev f3 : ℕ → List VersionRow → Format StateRows
f3 k vs = with_rule (is_upload_count k) (number w32) >>= λ n. f4 vs n

abbrev f2 : ℕ → Format StateRows
f2 k = versions k >>= λ vs. f3 k vs

abbrev t4 : List VersionRow → ℕ → StateRows → List ℕ → Type 0
t4 vs n = Then (UploadsText (is_among (version_names vs)) n) (λ us. Done (made vs us))

abbrev t3 : ℕ → List VersionRow → StateRows → List ℕ → Type 0
t3 k vs = Then (Ruled (Numbered w32 (2 ^ 32)) (is_upload_count k)) (λ n. t4 vs n)

abbrev t2 : ℕ → StateRows → List ℕ → Type 0
t2 k = Then (VersionsText k) (λ vs. t3 k vs)

abbrev t1 : StateRows → List ℕ → Type 0
t1 = Then (Ruled (Numbered w32 (2 ^ 32)) is_version_count) (λ k. t2 k)

s4 : (vs : List VersionRow) (n : ℕ) → IsSpelled (f4 vs n) (t4 vs n)
s4 vs n = then_spelled (uploads (is_among (version_names vs)) n) (λ us. done (made vs us)) (UploadsText (is_among (version_names vs)) n) (λ us. Done (made vs us)) (uploads_spelled (is_among (version_names vs)) n) (λ us. done_spelled (made vs us))

s3 : (k : ℕ) (vs : List VersionRow) → IsSpelled (f3 k vs) (t3 k vs)
s3 k vs = then_spelled (with_rule (is_upload_count k) (number w32)) (f4 vs) (Ruled (Numbered w32 (2 ^ 32)) (is_upload_count k)) (t4 vs) (rule_spelled (is_upload_count k) (number w32) (Numbered w32 (2 ^ 32)) u32_spelled) (s4 vs)

s2 : (k : ℕ) → IsSpelled (f2 k) (t2 k)
s2 k = then_spelled (versions k) (f3 k) (VersionsText k) (t3 k) (versions_spelled k) (s3 k)

s1 : IsSpelled long_state t1
unfolding long_state
s1 = then_spelled (with_rule is_version_count (number w32)) f2 (Ruled (Numbered w32 (2 ^ 32)) is_version_count) t2 (rule_spelled is_version_count (number w32) (Numbered w32 (2 ^ 32)) u32_spelled) s2

-- a text of a state with a version or an upload
pub record LongText (r : StateRows) (text : List ℕ) : Type 0 where
  pub rows : AreRows r
  pub some : 0 < length r.versions + length r.uploads
  pub is : text ≡ long_form r.versions r.uploads

one_true : (a b : Bool) → (a || b) ≡ true → (a ≡ true) ⊎ (b ≡ true)
one_true true b e = inl refl
one_true false b e = inr e

upload_count : (k n : ℕ) → is_upload_count k n ≡ true → (n ≤ 1000) × (0 < k + n)
upload_count k n e =
    let b = both_true (leb n 1000) (ltb 0 k || ltb 0 n) e in
    let some : 0 < k + n = elim (one_true (ltb 0 k) (ltb 0 n) b.1) [
      | inl h ↦ let l : 0 < k = ltb-true _ _ h in omega arith
      | inr h ↦ let l : 0 < n = ltb-true _ _ h in omega arith
    ] in
    (leb-true _ _ b.0, some)

upload_count_kept : (k n : ℕ) → n ≤ 1000 → 0 < k + n → is_upload_count k n ≡ true
upload_count_kept k n few some = grind (arith, nat_tests)

version_count_kept : (k : ℕ) → k ≤ 10000 → is_version_count k ≡ true
version_count_kept k few = grind (arith, nat_tests)

into : (r : StateRows) (text : List ℕ) → IsBytes text → t1 r text → LongText r text
into r text fits a =
    let b = a.is_rest in
    let c = b.is_rest in
    let d = c.is_rest in
    let counts = upload_count a.first c.first c.is_first.keeps in
    let versions_few : a.first ≤ 10000 = leb-true _ _ a.is_first.keeps in
    let first_count : a.front ≡ number_bytes w32 (length b.first) = a.is_first.spells.is ∙ ap (λ (n : ℕ). number_bytes w32 n) (sym b.is_first.counted) in
    let second_count : c.front ≡ number_bytes w32 (length d.first) = c.is_first.spells.is ∙ ap (λ (n : ℕ). number_bytes w32 n) (sym d.is_first.counted) in
    let P : StateRows → Type 0 = λ r. LongText r text in
    let here : P (made b.first d.first) = record {
      rows = record {
        few_versions = omega (arith, b.is_first.counted);
        few_uploads = omega (arith, counts.0, d.is_first.counted);
        versions = b.is_first.each;
        uploads = d.is_first.each;
      };
      some = omega (arith, counts.1, b.is_first.counted, d.is_first.counted);
      is = then_joined a _ _ first_count (then_joined b _ _ b.is_first.is (then_joined c _ _ second_count (then_joined d _ _ d.is_first.is d.is_rest.nothing)));
    } in
    subst P (sym d.is_rest.is) here

out_of : (r : StateRows) (text : List ℕ) → LongText r text → t1 r text
out_of r text t = record {
  first = length r.versions;
  front = number_bytes w32 (length r.versions);
  back = _;
  whole = t.is;
  is_first = record { spells = record { is = refl; below = omega (arith, t.rows.few_versions) }; keeps = version_count_kept (length r.versions) t.rows.few_versions };
  is_rest = record {
    first = r.versions;
    front = flat_map version_bytes r.versions;
    back = _;
    whole = refl;
    is_first = record { counted = refl; each = t.rows.versions; is = refl };
    is_rest = record {
      first = length r.uploads;
      front = number_bytes w32 (length r.uploads);
      back = _;
      whole = refl;
      is_first = record { spells = record { is = refl; below = omega (arith, t.rows.few_uploads) }; keeps = upload_count_kept (length r.versions) (length r.uploads) t.rows.few_uploads t.some };
      is_rest = record {
        first = r.uploads;
        front = flat_map upload_bytes r.uploads;
        back = [];
        whole = refl;
        is_first = record { counted = refl; each = t.rows.uploads; is = refl };
        is_rest = record { is = refl; nothing = refl };
      };
    };
  };
}

long_spelled : IsSpelled long_state LongText
long_spelled = told_spelled long_state t1 LongText into out_of s1

-- ---- the whole content

abbrev no_rows : StateRows
no_rows = made [] []

empty_value : value_of key_state [] ≡ Ok no_rows
unfolding value_of key_state ends
empty_value = refl

long_value : (content : List ℕ) → 0 < length content → value_of key_state content ≡ value_of long_state content
unfolding value_of key_state
long_value content some =
    let more : (length content == 0) ≡ false = grind (arith, nat_tests) in
    rw more refl

-- a long form is not empty
long_some : (vs : List VersionRow) (us : List UploadRow) → 0 < length (long_form vs us)
unfolding number_bytes
long_some vs us = omega arith

-- the two forms
rows_long : (vs : List VersionRow) (us : List UploadRow) → 0 < length vs + length us → rows_bytes vs us ≡ long_form vs us
rows_long [] [] some = absurd (omega arith)
rows_long [] (u ∷ us) some = refl
rows_long (v ∷ vs) us some = refl

abbrev pub of_rows : StateRows → Result StateRows ℕ
of_rows r = Ok r

pub rows_is : (a b : StateRows) → of_rows a ≡ of_rows b → a ≡ b
rows_is a b e = cc

-- a content that is read spells rows that the format takes
pub state_takes : (content : List ℕ) (r : StateRows) → IsBytes content → value_of key_state content ≡ Ok r → AreRows r × (content ≡ rows_bytes r.versions r.uploads)
state_takes [] r fits e =
    let same : no_rows ≡ r = rows_is no_rows r (sym empty_value ∙ e) in
    let P : StateRows → Type 0 = λ r. AreRows r × ([] ≡ rows_bytes r.versions r.uploads) in
    let here : P no_rows = (record { few_versions = omega arith; few_uploads = omega arith; versions = tt; uploads = tt }, refl) in
    subst P same here
state_takes (b ∷ bytes) r fits e =
    let long : value_of long_state (b ∷ bytes) ≡ Ok r = sym (long_value (b ∷ bytes) (omega arith)) ∙ e in
    let t = whole_takes long_state LongText long_spelled (b ∷ bytes) r fits long in
    (t.rows, t.is ∙ sym (rows_long r.versions r.uploads t.some))

long_again : (r : StateRows) → AreRows r → 0 < length r.versions + length r.uploads → value_of key_state (long_form r.versions r.uploads) ≡ Ok r
long_again r rows some =
    long_value (long_form r.versions r.uploads) (long_some r.versions r.uploads)
    ∙ whole_again long_state LongText long_spelled (long_form r.versions r.uploads) r (record { rows = rows; some = some; is = refl })

again_at : (vs : List VersionRow) (us : List UploadRow) → AreRows (made vs us) → value_of key_state (rows_bytes vs us) ≡ Ok (made vs us)
again_at [] [] rows = empty_value
again_at [] (u ∷ us) rows = long_again (made [] (u ∷ us)) rows (omega arith)
again_at (v ∷ vs) us rows = long_again (made (v ∷ vs) us) rows (omega arith)

-- rows that the format takes are read from their spelling
pub state_again : (r : StateRows) → AreRows r → value_of key_state (rows_bytes r.versions r.uploads) ≡ Ok r
state_again r rows = again_at r.versions r.uploads rows
