-- The data that is gone, version by version.
use Rattle.std.proofs.Common.{append_assoc, ◌≡◌, ℕ, zero, suc, ◌+◌, ◌<◌, Bool, true, false, not, ◌||◌, Option, Some, None, List, [], ◌∷◌, ◌++◌, length, get_or, take, refl, sym, ap, ◌∙◌, subst, arith, filter}
use Rattle.std.specs.List.{list_any, filter_map, flat_map, cons_option}
use Rattle.std.proofs.lemmas.List.{take_more, append-nil}
use Rattle.std.proofs.lemmas.List.Elements.{filter_map-append, filter-append}
use Rattle.std.proofs.lemmas.List.Folds.{list_any-append}
use Rattle.std.proofs.lemmas.Grind.{flat_map-append}
use Rattle.stamp_id.specs.VersionId.{id_bytes}
use Rattle.stamp_id.specs.declared.version.VersionId.{VersionId}
use Rattle.call_types.specs.declared.names.VersionName.{VersionName}
use Rattle.call_types.specs.declared.version.Version.{Version}
use Rattle.call_types.specs.declared.version.What.{What}
use Rattle.call_types.specs.declared.version.What.TheVariants.{Marker, Object}
use Rattle.version_list.specs.Naming.{same_id, is_named, kept}
use Rattle.version_list.specs.Gone.{data_of, is_data, has_data, gone_bytes}
use Rattle.version_list.proofs.KeptLemmas.{kept_none}
use Rattle.version_list.proofs.NamingLemmas.{same_id-refl}

-- the data that is gone of two lists joined
pub gone_bytes-append : (xs ys new : List Version) → gone_bytes (xs ++ ys) new ≡ gone_bytes xs new ++ gone_bytes ys new
gone_bytes-append xs ys new =
    let lost : VersionId → Bool = λ id. not (list_any (has_data id) new) in
    let ids : Version → Option VersionId = λ v. data_of v.what in
    ap (λ l. flat_map id_bytes (filter lost l)) (filter_map-append ids xs ys)
    ∙ ap (flat_map id_bytes) (filter-append lost (filter_map ids xs) (filter_map ids ys))
    ∙ flat_map-append id_bytes (filter lost (filter_map ids xs)) (filter lost (filter_map ids ys))

-- that of one version more
pub gone_bytes-more :
    (old new : List Version) (i : ℕ) (d : Version) → i < length old
    → gone_bytes (take (i + 1) old) new ≡ gone_bytes (take i old) new ++ gone_bytes (get_or old i d ∷ []) new
gone_bytes-more old new i d below =
    ap (λ l. gone_bytes l new) (take_more old i d below) ∙ gone_bytes-append (take i old) (get_or old i d ∷ []) new

or-true : (b : Bool) → (b || true) ≡ true
or-true true = refl
or-true false = refl

-- a test that a version passes finds it among those that stay, if it stays
any_kept :
    (goes : Option VersionName) (p : Version → Bool) (xs : List Version) (i : ℕ) (d : Version) → i < length xs
    → is_named goes (get_or xs i d) ≡ false → p (get_or xs i d) ≡ true → list_any p (kept goes xs) ≡ true
any_kept goes p [] i d below stays passes = absurd (omega arith)
any_kept goes p (x ∷ xs) zero d below stays passes = rw (stays, passes)
any_kept goes p (x ∷ xs) (suc i) d below stays passes =
    step (is_named goes x) refl (any_kept goes p xs i d (omega arith) stays passes)
  where
    step : (b : Bool) → is_named goes x ≡ b → list_any p (kept goes xs) ≡ true → list_any p (kept goes (x ∷ xs)) ≡ true
    step true h further = rw (h, further)
    step false h further = rw (h, further) (or-true (p x))

-- the data of a version is data that it has
is_data-own : (w : What) (id : VersionId) → data_of w ≡ Some id → is_data id w ≡ true
is_data-own Marker id h = cc
is_data-own (Object data_id print size md5 parts upload kind) id h =
    let e : data_id ≡ id = cc in
    subst (λ x. same_id data_id x ≡ true) e (same_id-refl data_id)

-- no data is gone of a version whose data a new version has
nothing_gone :
    (o : Option VersionId) (lost : VersionId → Bool) → ((id : VersionId) → o ≡ Some id → lost id ≡ false)
    → flat_map id_bytes (filter lost (cons_option o [])) ≡ []
nothing_gone None lost kept = refl
nothing_gone (Some id) lost kept = rw (kept id refl)

any_data-stays :
    (front old : List Version) (goes : Option VersionName) (i : ℕ) (d : Version) (id : VersionId) → i < length old
    → is_named goes (get_or old i d) ≡ false → data_of (get_or old i d).what ≡ Some id
    → list_any (has_data id) (front ++ kept goes old) ≡ true
any_data-stays front old goes i d id below stays own =
    let among : list_any (has_data id) (kept goes old) ≡ true =
    any_kept goes (has_data id) old i d below stays (is_data-own (get_or old i d).what id own) in
    rw (list_any-append (has_data id) front (kept goes old), among) (or-true (list_any (has_data id) front))

gone_bytes-stays :
    (front old : List Version) (goes : Option VersionName) (i : ℕ) (d : Version) → i < length old
    → is_named goes (get_or old i d) ≡ false → gone_bytes (get_or old i d ∷ []) (front ++ kept goes old) ≡ []
gone_bytes-stays front old goes i d below stays =
    nothing_gone (data_of (get_or old i d).what) (λ id. not (list_any (has_data id) (front ++ kept goes old)))
    (λ id own. ap not (any_data-stays front old goes i d id below stays own))

-- A version that goes adds its data that is gone.
pub gone_more :
    (bytes more : List ℕ) (old new : List Version) (i : ℕ) (x : Version) → i < length old → x ≡ get_or old i x
    → bytes ≡ gone_bytes (take i old) new → more ≡ bytes ++ gone_bytes (x ∷ []) new
    → more ≡ gone_bytes (take (i + 1) old) new
gone_more bytes more old new i x below at before added =
    added ∙ ap (λ l. l ++ gone_bytes (x ∷ []) new) before
    ∙ ap (λ y. gone_bytes (take i old) new ++ gone_bytes (y ∷ []) new) at
    ∙ sym (gone_bytes-more old new i x below)

-- A version that stays adds none.
pub gone_same :
    (bytes : List ℕ) (old new front : List Version) (goes : Option VersionName) (i : ℕ) (x : Version) → i < length old
    → x ≡ get_or old i x → new ≡ front ++ kept goes old → is_named goes x ≡ false
    → bytes ≡ gone_bytes (take i old) new → bytes ≡ gone_bytes (take (i + 1) old) new
gone_same bytes old new front goes i x below at made stays before =
    let here : is_named goes (get_or old i x) ≡ false = subst (λ y. is_named goes y ≡ false) at stays in
    let none : gone_bytes (x ∷ []) new ≡ [] =
    ap (λ y. gone_bytes (y ∷ []) new) at ∙ ap (gone_bytes (get_or old i x ∷ [])) made
    ∙ gone_bytes-stays front old goes i x below here in
    gone_more bytes bytes old new i x below at before (sym (ap (λ l. bytes ++ l) none ∙ append-nil bytes))

-- No data is gone where the new list has each old version.
gone_bytes-within : (front old : List Version) → gone_bytes old (front ++ old) ≡ []
gone_bytes-within front [] = refl
gone_bytes-within front (x ∷ xs) =
    let first : gone_bytes (x ∷ []) (front ++ kept None (x ∷ xs)) ≡ [] =
    gone_bytes-stays front (x ∷ xs) None 0 x (omega arith) refl in
    let here : gone_bytes (x ∷ []) (front ++ x ∷ xs) ≡ [] =
    ap (λ l. gone_bytes (x ∷ []) (front ++ l)) (sym (kept_none (x ∷ xs))) ∙ first in
    let moved : (front ++ x ∷ []) ++ xs ≡ front ++ x ∷ xs = append_assoc front (x ∷ []) xs in
    let further : gone_bytes xs (front ++ x ∷ xs) ≡ [] =
    ap (gone_bytes xs) (sym moved) ∙ gone_bytes-within (front ++ x ∷ []) xs in
    gone_bytes-append (x ∷ []) xs (front ++ x ∷ xs) ∙ ap (λ l. l ++ gone_bytes xs (front ++ x ∷ xs)) here ∙ further

pub gone_bytes-same : (old : List Version) → gone_bytes old old ≡ []
gone_bytes-same old = gone_bytes-within [] old
