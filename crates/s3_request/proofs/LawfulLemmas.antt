-- A call that is read is lawful.
use Rattle.std.proofs.Common.{◌≡◌, ℕ, ◌+◌, ◌≤◌, Bool, true, false, List, length, drop, get_or, refl, sym, subst, ◌∙◌, arith, inl, inr}
use Rattle.std.specs.Prelude.{◌==◌, ◌&&◌, nat_le, cond, codes, Option, Some, None, Result, Ok, Err, IfOk}
use Rattle.std.specs.List.{position_or_len}
use Rattle.std.specs.Str.{IsUtf8, is_utf8}
use Rattle.std.proofs.lemmas.Bool.{leb-true, eqb-true, eq-eqb, cases_lt}
use Rattle.std.proofs.lemmas.List.{length-drop, nil_from_length}
use Rattle.std.proofs.lemmas.List.Sums.{passes_at_first}
use Rattle.std.proofs.lemmas.Str.{IsUtf8-nil, IsUtf8-drop, IsUtf8-from_is_utf8, IsCharBoundary-after_ascii}
use Rattle.form_urlencoded.specs.Form.{split_once}
use Rattle.http_wire.specs.Parts.{HeadParts}
use Rattle.bucket_book.specs.Name.{IsBucketName}
use Rattle.call_types.specs.declared.names.Key.{Key}
use Rattle.call_types.specs.declared.refusal.Refusal.{Refusal}
use Rattle.call_types.specs.declared.refusal.Refusal.TheVariants.{KeyTooLong}
use Rattle.desk_base.specs.Calls.{IsKey, IsLawful, IsListAsk, IsVersionsAsk, most_body, most_document}
use Rattle.desk_base.specs.declared.call.Call.{Call}
use Rattle.s3_request.specs.Names.{is_bucket_name}
use Rattle.s3_request.specs.Query.{pairs_of}
use Rattle.s3_request.specs.Reads.{Asked, argument, asked_kind, asked_length, asked_md5, asked_of, bucket_call, call_at, call_of, header, in_bucket, in_key, key_call, named, part_call, put_call, service_call, with_pick}
use Rattle.s3_request.specs.Refusing.{or_refusal, unless, Gives}
use Rattle.s3_request.specs.Target.{begins_with_slash, path_of, place_at, place_in, place_of, query_of, slash}
use Rattle.s3_request.specs.declared.fault.CallFault.{CallFault}
use Rattle.s3_request.specs.declared.routes.BucketRow.{BucketRow}
use Rattle.s3_request.specs.declared.routes.BucketRow.TheVariants as bucket
use Rattle.s3_request.specs.declared.routes.KeyRow.{KeyRow}
use Rattle.s3_request.specs.declared.routes.KeyRow.TheVariants as key
use Rattle.s3_request.specs.declared.routes.Method.{Method}
use Rattle.s3_request.specs.declared.routes.Method.TheVariants as method
use Rattle.s3_request.specs.declared.target.Place.{Place}
use Rattle.s3_request.specs.declared.target.Place.TheVariants.{Service, Bucket, Object}
use Rattle.s3_request.proofs.NameTests.{is_bucket_name-is}
use Rattle.s3_request.proofs.ValueLemmas.{Has, IsPartNumber, Keeps, any_keeps, either_way, if_true, kind_is_short, length_is_within, list_ask_is, part_is_number, range_is_range, then_keeps, versions_ask_is}

-- ---- places

no_true : false ≡ true → ⊥
no_true e = absurd cc

both : (a b : Bool) → (a && b) ≡ true → (a ≡ true) × (b ≡ true)
both true b e = (refl, e)
both false b e = absurd (no_true e)

-- what stands behind the first slash of a text is text
behind_slash : (path : List ℕ) → IsUtf8 path → IsUtf8 (split_once slash path).1
behind_slash path utf8 =
    let at = position_or_len (λ (b : ℕ). b == slash) path in elim (cases_lt at (length path)) [
      | inl lt ↦
          let is : get_or path at 0 ≡ slash = eqb-true _ _ (passes_at_first (λ (b : ℕ). b == slash) path 0 lt) in
          IsUtf8-drop path (at + 1) utf8 (IsCharBoundary-after_ascii path at utf8 lt (omega (arith, is)))
      | inr le ↦ subst IsUtf8 (sym (nil_from_length (drop (at + 1) path) (omega (arith, le, length-drop (at + 1) path)))) IsUtf8-nil
    ]

-- the key of a place is text, and not empty
abbrev pub IsPlace : Place → Type 0
IsPlace Service = Unit {0}
IsPlace (Bucket name) = Unit {0}
IsPlace (Object at) = (1 ≤ length at.key) × IsUtf8 at.key

at_is_place : (bucket key : List ℕ) → IsUtf8 key → IsPlace (place_at bucket key)
at_is_place bucket key utf8 = by_test (length key == 0) refl
  where
    by_test : (test : Bool) → (length key == 0) ≡ test → IsPlace (cond test (Bucket bucket) (Object (record { bucket = bucket; key = key })))
    by_test true is = tt
    by_test false other = let some : length key ≡ 0 → ⊥ = λ e. no_true (sym other ∙ eq-eqb _ _ e) in (omega (arith, some), utf8)

in_is_place : (path : List ℕ) → IsUtf8 path → IsPlace (place_in path)
in_is_place path utf8 =
    either_way IsPlace (length path == 0) Service (place_at (split_once slash path).0 (split_once slash path).1) tt
    (at_is_place (split_once slash path).0 (split_once slash path).1 (behind_slash path utf8))

place_is_place : (target : List ℕ) → Keeps IsPlace (place_of target)
place_is_place target =
    if_true IsPlace (begins_with_slash target && is_utf8 (path_of target)) (place_in (path_of target)) _
    (λ holds. in_is_place (path_of target) (IsUtf8-from_is_utf8 (path_of target) (both _ _ holds).1))

-- ---- calls

name_is_name : (name : List ℕ) → Keeps (λ _. IsBucketName name) (named name)
name_is_name name = if_true (λ _. IsBucketName name) (is_bucket_name name) tt _ ((is_bucket_name-is name).0)

-- what a call asks for beside its path, of a head with a query
abbrev asked_by : HeadParts → List ℕ → ℕ → Asked
asked_by head query limit = asked_of head (pairs_of query) limit

service_is_lawful : (m : Method) → Keeps IsLawful (service_call m)
service_is_lawful method.Get = tt
service_is_lawful method.Put = tt
service_is_lawful method.Head = tt
service_is_lawful method.Post = tt
service_is_lawful method.Delete = tt
service_is_lawful method.Other = tt

bucket_is_lawful : (head : HeadParts) (query : List ℕ) (limit : ℕ) (name : List ℕ) (row : BucketRow) → IsBucketName name
    → Keeps IsLawful (bucket_call (asked_by head query limit) name row)
bucket_is_lawful head query limit name bucket.Create is = is
bucket_is_lawful head query limit name bucket.Head is = is
bucket_is_lawful head query limit name bucket.GetVersioning is = is
bucket_is_lawful head query limit name bucket.PutVersioning is =
    then_keeps (λ n. n ≤ most_document) IsLawful (asked_length (asked_by head query limit) most_document) _
    (length_is_within most_document (header (asked_by head query limit) (codes "content-length"))) (λ n few. (is, few))
bucket_is_lawful head query limit name bucket.List2 is = then_keeps IsListAsk IsLawful _ _ (list_ask_is query) (λ page ask. (is, ask))
bucket_is_lawful head query limit name bucket.ListVersions is = then_keeps IsVersionsAsk IsLawful _ _ (versions_ask_is query) (λ page ask. (is, ask))

part_is_there : (number : Option ℕ) (why : Refusal) → Has IsPartNumber number → Keeps IsPartNumber (or_refusal why number)
part_is_there None why is = tt
part_is_there (Some number) why is = is

put_is_lawful : (asked : Asked) (at : Key) → IsKey at → asked.limit ≤ most_body → Keeps IsLawful (put_call asked at)
put_is_lawful asked at is limit =
    then_keeps (λ (k : List ℕ). length k ≤ 255) IsLawful (asked_kind asked) _ (kind_is_short (header asked (codes "content-type"))) (λ kind brief.
    then_keeps (λ _. Unit {0}) IsLawful (asked_md5 asked) _ (any_keeps (asked_md5 asked)) (λ md5 _.
    then_keeps (λ n. n ≤ asked.limit) IsLawful (asked_length asked asked.limit) _
    (length_is_within asked.limit (header asked (codes "content-length"))) (λ n few.
    (is, brief, omega (arith, few, limit)))))

part_is_lawful : (asked : Asked) (at : Key) → IsKey at → asked.limit ≤ most_body → Keeps IsLawful (part_call asked at)
part_is_lawful asked at is limit =
    then_keeps IsPartNumber IsLawful _ _ (part_is_there _ _ (part_is_number (argument asked (codes "partNumber")))) (λ number counts.
    then_keeps (λ _. Unit {0}) IsLawful (asked_md5 asked) _ (any_keeps (asked_md5 asked)) (λ md5 _.
    then_keeps (λ n. n ≤ asked.limit) IsLawful (asked_length asked asked.limit) _
    (length_is_within asked.limit (header asked (codes "content-length"))) (λ n few.
    (is, counts.0, counts.1, omega (arith, few, limit)))))

key_is_lawful : (asked : Asked) (at : Key) (row : KeyRow) → IsKey at → asked.limit ≤ most_body → Keeps IsLawful (key_call asked at row)
key_is_lawful asked at key.Put is limit = put_is_lawful asked at is limit
key_is_lawful asked at key.Part is limit = part_is_lawful asked at is limit
key_is_lawful asked at key.Create is limit =
    then_keeps (λ (k : List ℕ). length k ≤ 255) IsLawful (asked_kind asked) _ (kind_is_short (header asked (codes "content-type"))) (λ kind brief. (is, brief))
key_is_lawful asked at key.Complete is limit =
    then_keeps (λ n. n ≤ most_document) IsLawful (asked_length asked most_document) _
    (length_is_within most_document (header asked (codes "content-length"))) (λ n few. (is, few))
key_is_lawful asked at key.Abort is limit = is
key_is_lawful asked at key.Get is limit =
    then_keeps (λ _. Unit {0}) IsLawful (with_pick asked.pairs) _ (any_keeps (with_pick asked.pairs))
    (λ pick _. (is, range_is_range (header asked (codes "if-range")) (header asked (codes "range"))))
key_is_lawful asked at key.Head is limit = then_keeps (λ _. Unit {0}) IsLawful (with_pick asked.pairs) _ (any_keeps (with_pick asked.pairs)) (λ pick _. is)
key_is_lawful asked at key.Delete is limit = then_keeps (λ _. Unit {0}) IsLawful (with_pick asked.pairs) _ (any_keeps (with_pick asked.pairs)) (λ pick _. is)

in_bucket_is_lawful : (head : HeadParts) (query : List ℕ) (limit : ℕ) (name : List ℕ) → Keeps IsLawful (in_bucket (asked_by head query limit) name)
in_bucket_is_lawful head query limit name =
    then_keeps (λ _. Unit {0}) IsLawful _ _ (any_keeps _) (λ row _.
    then_keeps (λ _. IsBucketName name) IsLawful (named name) _ (name_is_name name) (λ _ is. bucket_is_lawful head query limit name row is))

in_key_is_lawful : (asked : Asked) (at : Key) → (1 ≤ length at.key) × IsUtf8 at.key → asked.limit ≤ most_body → Keeps IsLawful (in_key asked at)
in_key_is_lawful asked at is limit =
    then_keeps (λ _. Unit {0}) IsLawful _ _ (any_keeps _) (λ row _.
    then_keeps (λ _. IsBucketName at.bucket) IsLawful (named at.bucket) _ (name_is_name at.bucket) (λ _ name.
    then_keeps (λ _. length at.key ≤ 1024) IsLawful (unless (nat_le (length at.key) 1024) KeyTooLong) _
    (if_true (λ _. length at.key ≤ 1024) (nat_le (length at.key) 1024) tt _ (leb-true (length at.key) 1024)) (λ _ few.
    key_is_lawful asked at row (record { bucket = name; some = is.0; few = few; utf8 = is.1 }) limit)))

at_is_lawful : (head : HeadParts) (query : List ℕ) (limit : ℕ) (place : Place) → IsPlace place → limit ≤ most_body
    → Keeps IsLawful (call_at (asked_by head query limit) place)
at_is_lawful head query limit Service is few = service_is_lawful _
at_is_lawful head query limit (Bucket name) is few = in_bucket_is_lawful head query limit name
at_is_lawful head query limit (Object at) is few = in_key_is_lawful (asked_by head query limit) at is few

pub call_is_lawful : (head : HeadParts) (limit : ℕ) → limit ≤ most_body → Keeps IsLawful (call_of head limit)
call_is_lawful head limit few =
    then_keeps IsPlace IsLawful (place_of head.target) _ (place_is_place head.target) (λ place is.
    then_keeps (λ _. Unit {0}) IsLawful _ _ (any_keeps _) (λ _ _. at_is_lawful head (query_of head.target) limit place is few))

-- what gives the call of a head gives a lawful one
pub given_is_lawful : (head : HeadParts) (limit : ℕ) (r : Result Call CallFault) → Gives (call_of head limit) r → limit ≤ most_body → IfOk r IsLawful
given_is_lawful head limit (Ok call) gives few = subst (Keeps IsLawful) gives (call_is_lawful head limit few)
given_is_lawful head limit (Err fault) gives few = tt
