-- What is known after a name more.
use Rattle.std.proofs.Common.{◌≡◌, ℕ, Bool, true, false, List, [], ◌∷◌, ◌++◌, refl, ap, ◌∙◌, sym}
use Rattle.std.specs.Prelude.{◌||◌}
use Rattle.std.specs.Str.{bytes_eq}
use Rattle.std.proofs.lemmas.List.{map_push}
use Rattle.version_list.specs.declared.names.Names.{Names}
use Rattle.version_list.specs.Known.{is_known}
use Rattle.version_list.specs.Rows.{VersionRow, UploadRow}
use Rattle.version_list.specs.Layout.{is_among, version_names, upload_names}

pub or_rest : (a b c : Bool) → (a || (b || c)) ≡ ((a || b) || c)
or_rest true b c = refl
or_rest false b c = refl

or_last : (a b : Bool) → (a || b) ≡ (b || a)
or_last true true = refl
or_last true false = refl
or_last false true = refl
or_last false false = refl

or_none : (a : Bool) → (a || false) ≡ a
or_none true = refl
or_none false = refl

-- one name more
pub is_among-push : (names : List (List ℕ)) (name bytes : List ℕ) → is_among (names ++ name ∷ []) bytes ≡ (is_among names bytes || bytes_eq name bytes)
unfolding is_among
is_among-push [] name bytes = or_none (bytes_eq name bytes)
is_among-push (first ∷ names) name bytes = ap (λ (b : Bool). bytes_eq first bytes || b) (is_among-push names name bytes) ∙ or_rest (bytes_eq first bytes) _ _

abbrev pub IsKnownAs : Names → (List ℕ → Bool) → Type 0
IsKnownAs names test = (bytes : List ℕ) → is_known names bytes ≡ test bytes

-- the names of the versions so far
pub versions_known : (before after : Names) (front : List VersionRow) (row : VersionRow) → IsKnownAs before (is_among (version_names front)) → IsKnownAs after (λ bytes. bytes_eq row.id bytes || is_known before bytes)
    → IsKnownAs after (is_among (version_names (front ++ row ∷ [])))
versions_known before after front row known added bytes =
    let names : version_names (front ++ row ∷ []) ≡ version_names front ++ row.id ∷ [] = map_push (λ v. v.id) front row in
    added bytes ∙ ap (λ (b : Bool). bytes_eq row.id bytes || b) (known bytes) ∙ or_last (bytes_eq row.id bytes) _
    ∙ sym (is_among-push (version_names front) row.id bytes) ∙ ap (λ (l : List (List ℕ)). is_among l bytes) (sym names)

-- the ids of the uploads so far, beside what was known before them
pub uploads_known : (used : List ℕ → Bool) (before after : Names) (front : List UploadRow) (row : UploadRow) → IsKnownAs before (λ bytes. used bytes || is_among (upload_names front) bytes)
    → IsKnownAs after (λ bytes. bytes_eq row.id bytes || is_known before bytes) → IsKnownAs after (λ bytes. used bytes || is_among (upload_names (front ++ row ∷ [])) bytes)
uploads_known used before after front row known added bytes =
    let names : upload_names (front ++ row ∷ []) ≡ upload_names front ++ row.id ∷ [] = map_push (λ u. u.id) front row in
    let more : is_among (upload_names (front ++ row ∷ [])) bytes ≡ (is_among (upload_names front) bytes || bytes_eq row.id bytes) =
    ap (λ (l : List (List ℕ)). is_among l bytes) names ∙ is_among-push (upload_names front) row.id bytes in
    added bytes ∙ ap (λ (b : Bool). bytes_eq row.id bytes || b) (known bytes) ∙ or_last (bytes_eq row.id bytes) _
    ∙ sym (or_rest (used bytes) (is_among (upload_names front) bytes) (bytes_eq row.id bytes)) ∙ ap (λ (b : Bool). used bytes || b) (sym more)

-- nothing is among no names
pub none_known : (names : Names) (front : List VersionRow) → front ≡ [] → IsKnownAs names (λ bytes. false) → IsKnownAs names (is_among (version_names front))
unfolding is_among
none_known names front none known bytes = rw none (known bytes)

pub none_more : (names : Names) (front : List UploadRow) → front ≡ [] → IsKnownAs names (λ bytes. is_known names bytes || is_among (upload_names front) bytes)
unfolding is_among
none_more names front none bytes = rw none (sym (or_none (is_known names bytes)))
