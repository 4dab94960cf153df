-- How long the contents of keys are.
use Rattle.std.proofs.Common.{◌≡◌, ℕ, ◌*◌, ◌≤◌, List, [], ◌∷◌, Option, Some, None, length, map, ap, sym, subst, arith}
use Rattle.std.specs.List.{AllByRecursion, flat_map}
use Rattle.std.proofs.lemmas.List.{length-append}
use Rattle.bucket_book.specs.Content.{content_of}
use Rattle.bucket_book.specs.declared.record.BucketRecord.{BucketRecord}
use Rattle.bucket_book.proofs.ContentLemmas.{length-spelling}
use Rattle.call_types.specs.declared.version.Upload.{Upload}
use Rattle.call_types.specs.declared.version.Version.{Version}
use Rattle.call_types.specs.declared.version.What.{What}
use Rattle.call_types.specs.declared.version.What.TheVariants.{Marker, Object}
use Rattle.version_list.specs.Rows.{upload_row, version_row}
use Rattle.version_list.specs.Spelling.{long_form, rows_bytes, spelling, upload_bytes, version_bytes}
use Rattle.version_list.specs.State.{IsCanonical, IsCanonicalUpload, IsCanonicalVersion, IsCanonicalWhat}
use Rattle.version_list.specs.declared.state.KeyState.{KeyState}
use Rattle.version_list.proofs.SizeLemmas.{long_form-size, object_size, upload_bytes-size, version_bytes-size}

object_short : (what : What) → IsCanonicalWhat what → object_size what ≤ 346
object_short Marker c = omega arith
object_short (Object data_id print size md5 parts upload kind) c = let short = c.kind_short in omega arith

versions_short : (vs : List Version) → AllByRecursion IsCanonicalVersion vs → length (flat_map version_bytes (map version_row vs)) ≤ 371 * length vs
versions_short [] all = omega arith
versions_short (v ∷ vs) all =
    let first = version_bytes-size v all.0.what in
    let short = object_short v.what all.0.what in
    let rest = versions_short vs all.1 in
    let both = length-append (version_bytes (version_row v)) (flat_map version_bytes (map version_row vs)) in
    omega arith

uploads_short : (us : List Upload) → AllByRecursion IsCanonicalUpload us → length (flat_map upload_bytes (map upload_row us)) ≤ 280 * length us
uploads_short [] all = omega arith
uploads_short (u ∷ us) all =
    let first = upload_bytes-size u in
    let short = all.0.kind_short in
    let rest = uploads_short us all.1 in
    let both = length-append (upload_bytes (upload_row u)) (flat_map upload_bytes (map upload_row us)) in
    omega arith

long_short : (vs : List Version) (us : List Upload) → length vs ≤ 10000 → length us ≤ 1000 → AllByRecursion IsCanonicalVersion vs → AllByRecursion IsCanonicalUpload us
    → length (long_form (map version_row vs) (map upload_row us)) ≤ 3990008
long_short vs us few_versions few_uploads versions uploads =
    let whole = long_form-size (map version_row vs) (map upload_row us) in
    let first = versions_short vs versions in
    let second = uploads_short us uploads in
    omega arith

-- a key's content has at most so many bytes
rows_short : (vs : List Version) (us : List Upload) → length vs ≤ 10000 → length us ≤ 1000 → AllByRecursion IsCanonicalVersion vs → AllByRecursion IsCanonicalUpload us
    → length (rows_bytes (map version_row vs) (map upload_row us)) ≤ 3990008
rows_short [] [] a b c d = omega arith
rows_short [] (u ∷ us) a b c d = long_short [] (u ∷ us) a b c d
rows_short (v ∷ vs) us a b c d = long_short (v ∷ vs) us a b c d

pub key_short : (state : KeyState) → IsCanonical state → length (spelling state) ≤ 3990008
key_short state c = rows_short state.versions state.uploads c.few_versions c.few_uploads c.versions c.uploads

pub content_short : (content : List ℕ) (state : KeyState) → IsCanonical state → content ≡ spelling state → length content ≤ 3990008
content_short content state canonical is = subst (λ (bytes : List ℕ). length bytes ≤ 3990008) (sym is) (key_short state canonical)

-- and a bucket's
pub bucket_short : (content : List ℕ) (row : Option BucketRecord) → content ≡ content_of row → length content ≤ 9
bucket_short content None is = let long = ap (λ (bytes : List ℕ). length bytes) is in omega arith
bucket_short content (Some there) is = let long = ap (λ (bytes : List ℕ). length bytes) is in let nine = length-spelling there in omega arith
