-- The call of a request head, or why it is refused, in the order of refusals.
use Rattle.std.specs.Prelude.{◌||◌, ◌&&◌, false, true, nat_le, not, ℕ, List, [], ◌∷◌, Bool, codes, length, Option, is_some, Result, Ok, Err}
use Rattle.std.specs.List.{list_any}
use Rattle.http_wire.specs.Names as lines
use Rattle.http_wire.specs.Parts.{HeadParts}
use Rattle.stamp_id.specs.declared.version.VersionId.{VersionId}
use Rattle.call_types.specs.declared.names.Key.{Key}
use Rattle.call_types.specs.declared.names.Pick.{Pick}
use Rattle.call_types.specs.declared.refusal.Refusal.{Refusal}
use Rattle.call_types.specs.declared.refusal.Refusal.TheVariants.{NotImplemented, InvalidBucketName, KeyTooLong, InvalidArgument}
use Rattle.desk_base.specs.Calls.{longest_key, most_document}
use Rattle.desk_base.specs.declared.call.Call.{Call}
use Rattle.desk_base.specs.declared.call.Call.TheVariants as call
use Rattle.s3_request.specs.Arguments.{kind_of, md5_of, length_of, range_of, part_number_in, id_in, pick_of}
use Rattle.s3_request.specs.Names.{is_bucket_name}
use Rattle.s3_request.specs.Pages.{list_ask, versions_ask}
use Rattle.s3_request.specs.Query.{Pairs, pairs_of, value_of, asks_unserved}
use Rattle.s3_request.specs.Refusing.{and_then, or_refusal, unless}
use Rattle.s3_request.specs.Routes.{method_of, bucket_row, key_row}
use Rattle.s3_request.specs.Target.{place_of, query_of}
use Rattle.s3_request.specs.declared.routes.Method.{Method}
use Rattle.s3_request.specs.declared.routes.Method.TheVariants as method
use Rattle.s3_request.specs.declared.routes.BucketRow.{BucketRow}
use Rattle.s3_request.specs.declared.routes.BucketRow.TheVariants as bucket
use Rattle.s3_request.specs.declared.routes.KeyRow.{KeyRow}
use Rattle.s3_request.specs.declared.routes.KeyRow.TheVariants as key
use Rattle.s3_request.specs.declared.target.Place.{Place}
use Rattle.s3_request.specs.declared.target.Place.TheVariants.{Service, Bucket, Object}

-- what all of the head but its path says
pub record Asked : Type 0 where
  pub method : Method
  pub pairs : Pairs
  pub lines : lines.Lines
  pub limit : ℕ

-- what a head and the arguments of its query say, under a limit for the bodies of PutObject and UploadPart
abbrev pub asked_of : HeadParts → Pairs → ℕ → Asked
asked_of head pairs limit = record { method = method_of head.method; pairs = pairs; lines = head.lines; limit = limit }

-- the first header of a name
abbrev pub header : Asked → List ℕ → Option (List ℕ)
header asked name = lines.value_of asked.lines name

-- the first value of a name of the query
abbrev pub argument : Asked → List ℕ → Option (List ℕ)
argument asked name = value_of asked.pairs name

-- the content type of an object that is written
abbrev pub asked_kind : Asked → Result (List ℕ) Refusal
asked_kind asked = kind_of (header asked (codes "content-type"))

-- the stated MD5 of a body
abbrev pub asked_md5 : Asked → Result (Option (List ℕ)) Refusal
asked_md5 asked = md5_of (header asked (codes "content-md5"))

-- the stated length of a body within a limit
abbrev pub asked_length : Asked → ℕ → Result ℕ Refusal
asked_length asked limit = length_of limit (header asked (codes "content-length"))

-- the value of the If-Match, where there is one
abbrev pub asked_match : Asked → Option (List ℕ)
asked_match asked = header asked (codes "if-match")

-- Whether a method may change what is stored.
abbrev pub is_changing : Method → Bool
is_changing method.Get = false
is_changing method.Put = true
is_changing method.Head = false
is_changing method.Post = true
is_changing method.Delete = true
is_changing method.Other = false

-- Whether a call compares the If-Match of its head: a GetObject or a HeadObject does, and no other call.
abbrev pub compares_tag : Method → Place → Bool
compares_tag method.Get (Object at) = true
compares_tag method.Head (Object at) = true
compares_tag _ _ = false

-- Whether a call is to be done under a condition that it doesn't compare (RFC 9110, section 13.1): it has an If-Match and isn't a read of a key, or an
-- If-Unmodified-Since, or, where it may change something, an If-None-Match. If-None-Match and If-Modified-Since only spare a reader a body that it has, and
-- may be passed over.
abbrev pub is_conditional : Asked → Place → Bool
is_conditional asked place =
    (not (compares_tag asked.method place) && is_some (asked_match asked)) || is_some (header asked (codes "if-unmodified-since"))
    || (is_changing asked.method && is_some (header asked (codes "if-none-match")))

-- The headers that ask for a promise or a condition which no call keeps (S3 API): an append, a deletion under a condition, an owner, a lock, encryption.
abbrev pub unkept_names : List (List ℕ)
unkept_names =
    codes "x-amz-write-offset-bytes"
    ∷ codes "x-amz-if-match-size" ∷ codes "x-amz-if-match-last-modified-time" ∷ codes "x-amz-if-match-initiated-time"
    ∷ codes "x-amz-expected-bucket-owner" ∷ codes "x-amz-source-expected-bucket-owner"
    ∷ codes "x-amz-object-lock-mode" ∷ codes "x-amz-object-lock-retain-until-date" ∷ codes "x-amz-object-lock-legal-hold"
    ∷ codes "x-amz-bucket-object-lock-enabled"
    ∷ codes "x-amz-server-side-encryption" ∷ codes "x-amz-server-side-encryption-customer-algorithm" ∷ []

-- whether a call has one of these headers, whatever its value
unfoldable pub asks_unkept : Asked → Bool
asks_unkept asked = list_any (λ name. is_some (header asked name)) unkept_names

-- Whether a call isn't served, whichever row of the table it has: a name of its query says so, it has the header of CopyObject, it has a condition that it
-- doesn't compare, or it asks for what no call keeps.
abbrev pub is_unserved : Asked → Place → Bool
is_unserved asked place =
    asks_unserved asked.pairs || is_some (header asked (codes "x-amz-copy-source")) || is_conditional asked place || asks_unkept asked

-- a call of the service: ListBuckets
abbrev pub service_call : Method → Result Call Refusal
service_call method.Get = Ok call.ListBuckets
service_call method.Put = Err NotImplemented
service_call method.Head = Err NotImplemented
service_call method.Post = Err NotImplemented
service_call method.Delete = Err NotImplemented
service_call method.Other = Err NotImplemented

-- a PutObject: the type, the MD5 and the length of its body
abbrev pub put_call : Asked → Key → Result Call Refusal
put_call asked at =
    and_then (asked_kind asked) (λ kind. and_then (asked_md5 asked) (λ md5. and_then (asked_length asked asked.limit) (λ long.
    Ok (call.Put at kind md5 long))))

-- a CreateMultipartUpload: the type of the object
abbrev pub create_call : Asked → Key → Result Call Refusal
create_call asked at = and_then (asked_kind asked) (λ kind. Ok (call.Create at kind))

-- the upload that a call names, none where its text is no id
abbrev pub asked_upload : Pairs → Option VersionId
asked_upload pairs = id_in (value_of pairs (codes "uploadId"))

-- an UploadPart: the number of the part, and the MD5 and the length of its body
abbrev pub part_call : Asked → Key → Result Call Refusal
part_call asked at =
    and_then (or_refusal (InvalidArgument (codes "partNumber")) (part_number_in (argument asked (codes "partNumber"))))
    (λ number. and_then (asked_md5 asked) (λ md5. and_then (asked_length asked asked.limit) (λ long.
    Ok (call.Part at (asked_upload asked.pairs) number md5 long))))

-- a call about the version that `versionId` names
abbrev pub with_pick : Pairs → Result Pick Refusal
with_pick pairs = or_refusal (InvalidArgument (codes "versionId")) (pick_of (value_of pairs (codes "versionId")))

-- a GetObject: the version, the range of it, and the If-Match
abbrev pub get_call : Asked → Key → Result Call Refusal
get_call asked at =
    and_then (with_pick asked.pairs) (λ pick.
    Ok (call.Get at pick (range_of (header asked (codes "if-range")) (header asked (codes "range"))) (asked_match asked)))

-- a HeadObject: the version, and the If-Match
abbrev pub head_call : Asked → Key → Result Call Refusal
head_call asked at = and_then (with_pick asked.pairs) (λ pick. Ok (call.Head at pick (asked_match asked)))

-- a DeleteObject: the version
abbrev pub delete_call : Pairs → Key → Result Call Refusal
delete_call pairs at = and_then (with_pick pairs) (λ pick. Ok (call.Delete at pick))

-- a CompleteMultipartUpload: the upload, and the length of the document
abbrev pub complete_call : Asked → Key → Result Call Refusal
complete_call asked at = and_then (asked_length asked most_document) (λ long. Ok (call.Complete at (asked_upload asked.pairs) long))

-- an AbortMultipartUpload: the upload
abbrev pub abort_call : Pairs → Key → Result Call Refusal
abort_call pairs at = Ok (call.Abort at (asked_upload pairs))

-- a ListObjectVersions: the page
abbrev pub versions_call : Pairs → List ℕ → Result Call Refusal
versions_call pairs name = and_then (versions_ask pairs) (λ page. Ok (call.ListVersions name page))

-- the call of a row of a bucket
abbrev pub bucket_call : Asked → List ℕ → BucketRow → Result Call Refusal
bucket_call asked name bucket.Create = Ok (call.CreateBucket name)
bucket_call asked name bucket.Head = Ok (call.HeadBucket name)
bucket_call asked name bucket.GetVersioning = Ok (call.GetVersioning name)
bucket_call asked name bucket.PutVersioning = and_then (asked_length asked most_document) (λ long. Ok (call.PutVersioning name long))
bucket_call asked name bucket.List2 = and_then (list_ask asked.pairs) (λ page. Ok (call.List2 name page))
bucket_call asked name bucket.ListVersions = versions_call asked.pairs name

-- the call of a row of a key
abbrev pub key_call : Asked → Key → KeyRow → Result Call Refusal
key_call asked at key.Put = put_call asked at
key_call asked at key.Part = part_call asked at
key_call asked at key.Create = create_call asked at
key_call asked at key.Complete = complete_call asked at
key_call asked at key.Abort = abort_call asked.pairs at
key_call asked at key.Get = get_call asked at
key_call asked at key.Head = head_call asked at
key_call asked at key.Delete = delete_call asked.pairs at

-- whether a bucket has its name
abbrev pub named : List ℕ → Result (Unit {0}) Refusal
named name = unless (is_bucket_name name) InvalidBucketName

-- a call of a bucket: it is served, and then the name is one
abbrev pub in_bucket : Asked → List ℕ → Result Call Refusal
in_bucket asked name =
    and_then (or_refusal NotImplemented (bucket_row asked.method asked.pairs)) (λ row. and_then (named name) (λ _. bucket_call asked name row))

-- a call of a key: it is served, then the bucket's name is one, and then the key has at most 1,024 bytes
abbrev pub in_key : Asked → Key → Result Call Refusal
in_key asked at =
    and_then (or_refusal NotImplemented (key_row asked.method asked.pairs)) (λ row. and_then (named at.bucket) (λ _.
    and_then (unless (nat_le (length at.key) longest_key) KeyTooLong) (λ _. key_call asked at row)))

-- a call of a place
abbrev pub call_at : Asked → Place → Result Call Refusal
call_at asked Service = service_call asked.method
call_at asked (Bucket name) = in_bucket asked name
call_at asked (Object at) = in_key asked at

-- a call of a place, where it is served
abbrev pub answer : Asked → Place → Result Call Refusal
answer asked place = and_then (unless (not (is_unserved asked place)) NotImplemented) (λ _. call_at asked place)

-- The call of a head, under a limit for the bodies of PutObject and UploadPart: the target names a place, and the call is served.
abbrev pub call_of : HeadParts → ℕ → Result Call Refusal
call_of head limit =
    and_then (place_of head.target) (λ place. answer (asked_of head (pairs_of (query_of head.target)) limit) place)
