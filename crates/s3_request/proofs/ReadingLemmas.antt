-- Steps of reading a call, in the order of refusals.
use Rattle.std.proofs.Common.{◌≡◌, ℕ, List, ap, sym, ◌∙◌, length, true, false}
use Rattle.std.specs.Prelude.{Bool, Some, None, Result, Ok, Err, not, nat_le}
use Rattle.http_wire.specs.Parts.{HeadParts}
use Rattle.call_types.specs.declared.names.Key.{Key}
use Rattle.call_types.specs.declared.refusal.Refusal.{Refusal}
use Rattle.call_types.specs.declared.refusal.Refusal.TheVariants.{NotImplemented, InvalidBucketName, KeyTooLong}
use Rattle.desk_base.specs.declared.call.Call.{Call}
use Rattle.s3_request.specs.Names.{is_bucket_name}
use Rattle.s3_request.specs.Query.{Pairs, pairs_of}
use Rattle.s3_request.specs.Target.{place_of, query_of}
use Rattle.s3_request.specs.Routes.{bucket_row, key_row}
use Rattle.s3_request.specs.Refusing.{and_then, or_refusal, unless, Gives}
use Rattle.s3_request.specs.Reads.{Asked, asked_of, answer, bucket_call, call_at, call_of, in_bucket, in_key, is_unserved, key_call, named}
use Rattle.s3_request.specs.declared.fault.CallFault.{CallFault}
use Rattle.s3_request.specs.declared.fault.CallFault.TheVariants.{Refused, NoMemory}
use Rattle.s3_request.specs.declared.routes.BucketRow.{BucketRow}
use Rattle.s3_request.specs.declared.routes.KeyRow.{KeyRow}
use Rattle.s3_request.specs.declared.target.Place.{Place}

-- a fault goes on
pub passes : {A B : Type 0} (answer : Result A Refusal) (next : A → Result B Refusal) (fault : CallFault) → Gives answer (Err fault)
    → Gives (and_then answer next) (Err fault)
passes answer next (Refused why) gives = ap (λ a. and_then a next) gives
passes answer next NoMemory gives = tt

pub unserved : (asked : Asked) (place : Place) → is_unserved asked place ≡ true → answer asked place ≡ Err NotImplemented
unserved asked place is = ap (λ b. and_then (unless (not b) NotImplemented) (λ _. call_at asked place)) is

pub served : (asked : Asked) (place : Place) (a : Result Call Refusal) → is_unserved asked place ≡ false → call_at asked place ≡ a
    → answer asked place ≡ a
served asked place a is at = ap (λ b. and_then (unless (not b) NotImplemented) (λ _. call_at asked place)) is ∙ at

pub placed_call : (head : HeadParts) (limit : ℕ) (place : Place) → place_of head.target ≡ Ok place
    → call_of head limit ≡ answer (asked_of head (pairs_of (query_of head.target)) limit) place
placed_call head limit place is =
    ap (λ r. and_then r (λ place. answer (asked_of head (pairs_of (query_of head.target)) limit) place)) is

pub read_at : (head : HeadParts) (pairs : Pairs) (limit : ℕ) (place : Place) (a : Result Call Refusal) → place_of head.target ≡ Ok place
    → pairs ≡ pairs_of (query_of head.target) → is_unserved (asked_of head pairs limit) place ≡ false → call_at (asked_of head pairs limit) place ≡ a
    → call_of head limit ≡ a
read_at head pairs limit place a placed paired is at =
    placed_call head limit place placed ∙ (ap (λ p. answer (asked_of head p limit) place) (sym paired) ∙ served (asked_of head pairs limit) place a is at)

pub read_unserved : (head : HeadParts) (pairs : Pairs) (limit : ℕ) (place : Place) → place_of head.target ≡ Ok place → pairs ≡ pairs_of (query_of head.target)
    → is_unserved (asked_of head pairs limit) place ≡ true → call_of head limit ≡ Err NotImplemented
read_unserved head pairs limit place placed paired is =
    placed_call head limit place placed ∙ (ap (λ p. answer (asked_of head p limit) place) (sym paired) ∙ unserved (asked_of head pairs limit) place is)

pub bucket_unserved : (asked : Asked) (name : List ℕ) → bucket_row asked.method asked.pairs ≡ None
    → in_bucket asked name ≡ Err NotImplemented
bucket_unserved asked name is =
    ap (λ r. and_then (or_refusal NotImplemented r) (λ row. and_then (named name) (λ _. bucket_call asked name row))) is

pub bucket_named : (asked : Asked) (name : List ℕ) (row : BucketRow) (holds : Bool) → bucket_row asked.method asked.pairs ≡ Some row
    → is_bucket_name name ≡ holds
    → in_bucket asked name ≡ and_then (unless holds InvalidBucketName) (λ _. bucket_call asked name row)
bucket_named asked name row holds is test =
    ap (λ r. and_then (or_refusal NotImplemented r) (λ row. and_then (named name) (λ _. bucket_call asked name row))) is
    ∙ ap (λ b. and_then (unless b InvalidBucketName) (λ _. bucket_call asked name row)) test

pub key_unserved : (asked : Asked) (at : Key) → key_row asked.method asked.pairs ≡ None → in_key asked at ≡ Err NotImplemented
key_unserved asked at is =
    ap (λ r. and_then (or_refusal NotImplemented r) (λ row. and_then (named at.bucket) (λ _.
    and_then (unless (nat_le (length at.key) 1024) KeyTooLong) (λ _. key_call asked at row)))) is

pub key_named : (asked : Asked) (at : Key) (row : KeyRow) (holds short : Bool) → key_row asked.method asked.pairs ≡ Some row
    → is_bucket_name at.bucket ≡ holds → nat_le (length at.key) 1024 ≡ short
    → in_key asked at
    ≡ and_then (unless holds InvalidBucketName) (λ _. and_then (unless short KeyTooLong) (λ _. key_call asked at row))
key_named asked at row holds short is test fits =
    ap (λ r. and_then (or_refusal NotImplemented r) (λ row. and_then (named at.bucket) (λ _.
    and_then (unless (nat_le (length at.key) 1024) KeyTooLong) (λ _. key_call asked at row)))) is
    ∙ (ap (λ b. and_then (unless b InvalidBucketName) (λ _. and_then (unless (nat_le (length at.key) 1024) KeyTooLong) (λ _. key_call asked at row))) test
    ∙ ap (λ b. and_then (unless holds InvalidBucketName) (λ _. and_then (unless b KeyTooLong) (λ _. key_call asked at row))) fits)
