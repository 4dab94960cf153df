-- A call that takes a body states the length that the head says.
use Rattle.std.proofs.Common.{◌≡◌, ℕ, suc, ◌<◌, ◌^◌, Bool, true, false, List, [], ◌∷◌, length, refl, subst, ◌∙◌, arith}
use Rattle.std.specs.Prelude.{◌&&◌, nat_le, nat_lt, cond, codes, Option, Some, None, Result, Ok, Err, IfOk}
use Rattle.std.specs.Map.{lookup}
use Rattle.std.specs.Str.{all_ascii_digits}
use Rattle.std.specs.Str.Parse.{digits_value}
use Rattle.std.proofs.lemmas.Slice.Eq.{bytes_eq-Decides}
use Rattle.http_wire.specs.Framing.{ReadsLength, SaysLength, content_length}
use Rattle.http_wire.specs.Names.{Lines, line, has_name, IsNamed, value_of}
use Rattle.http_wire.specs.Parts.{HeadParts}
use Rattle.call_types.specs.declared.names.Key.{Key}
use Rattle.call_types.specs.declared.refusal.Refusal.TheVariants.{EntityTooLarge, InvalidArgument, KeyTooLong}
use Rattle.desk_base.specs.Calls.{most_document}
use Rattle.desk_base.specs.declared.call.Call.{Call}
use Rattle.s3_request.specs.Arguments.{number_of, part_number_in, stated_by, within}
use Rattle.s3_request.specs.Bodies.{StatesLength}
use Rattle.s3_request.specs.Pages.{list_ask, versions_ask}
use Rattle.s3_request.specs.Query.{pairs_of}
use Rattle.s3_request.specs.Reads.{Asked, argument, asked_kind, asked_length, asked_md5, asked_of, bucket_call, call_at, call_of, key_call, named, part_call, put_call, service_call, with_pick}
use Rattle.s3_request.specs.Refusing.{or_refusal, unless, Gives}
use Rattle.s3_request.specs.Target.{place_of, query_of}
use Rattle.s3_request.specs.declared.fault.CallFault.{CallFault}
use Rattle.s3_request.specs.declared.routes.BucketRow.{BucketRow}
use Rattle.s3_request.specs.declared.routes.BucketRow.TheVariants as bucket
use Rattle.s3_request.specs.declared.routes.KeyRow.{KeyRow}
use Rattle.s3_request.specs.declared.routes.KeyRow.TheVariants as key
use Rattle.s3_request.specs.declared.routes.Method.{Method}
use Rattle.s3_request.specs.declared.routes.Method.TheVariants as method
use Rattle.s3_request.specs.declared.target.Place.{Place}
use Rattle.s3_request.specs.declared.target.Place.TheVariants.{Service, Bucket, Object}
use Rattle.s3_request.proofs.ValueLemmas.{Has, Keeps, any_keeps, if_true, then_keeps}

-- a number that is read is the one that the digits write
number_is : (text : List ℕ) → Has (λ n. n ≡ digits_value 10 text) (number_of text)
unfolding number_of
number_is text = by_tests (all_ascii_digits text) (nat_lt 0 (length text) && nat_lt (digits_value 10 text) (2 ^ 64))
  where
    by_tests : (digits fits : Bool) → Has (λ n. n ≡ digits_value 10 text) (cond digits (cond fits (Some (digits_value 10 text)) None) None)
    by_tests true true = refl
    by_tests true false = tt
    by_tests false fits = tt

within_is : (limit n : ℕ) (stated : Option ℕ) → Has (λ m. m ≡ n) stated → Keeps (λ m. m ≡ n) (within limit stated)
within_is limit n None is = tt
within_is limit n (Some m) is = if_true (λ k. k ≡ n) (nat_le m limit) m EntityTooLarge (λ _. is)

-- each line of the name says n
abbrev Each : Lines → ℕ → Type 0
Each lines n = (k : ℕ) → k < length lines → IsNamed content_length (line lines k).0 → ReadsLength (line lines k).1 n

found_says : (lines : Lines) (n : ℕ) → Each lines n → Has (λ value. ReadsLength value n) (lookup (has_name content_length) lines)
found_says [] n each = tt
found_says (l ∷ lines) n each =
    by_test (has_name content_length l.0) (λ holds. each 0 (omega arith) ((bytes_eq-Decides _ _).0 holds))
    (found_says lines n (λ k inside is. each (suc k) (omega (arith, inside)) is))
  where
    by_test : (test : Bool) → (test ≡ true → ReadsLength l.1 n) → Has (λ value. ReadsLength value n) (lookup (has_name content_length) lines)
        → Has (λ value. ReadsLength value n) (cond test (Some l.1) (lookup (has_name content_length) lines))
    by_test true here further = here refl
    by_test false here further = further

number_said : (text : List ℕ) (n : ℕ) (number : Option ℕ) → ReadsLength text n → Has (λ m. m ≡ digits_value 10 text) number → Has (λ m. m ≡ n) number
number_said text n None says is = tt
number_said text n (Some m) says is = is ∙ says.number

stated_said : (value : Option (List ℕ)) (n : ℕ) → Has (λ text. ReadsLength text n) value → Has (λ m. m ≡ n) (stated_by value)
stated_said None n says = tt
stated_said (Some text) n says = number_said text n (number_of text) says (number_is text)

length_said : (asked : Asked) (limit n : ℕ) → SaysLength asked.lines n → Keeps (λ m. m ≡ n) (asked_length asked limit)
length_said asked limit n says =
    within_is limit n (stated_by (value_of asked.lines content_length)) (stated_said (value_of asked.lines content_length) n (found_says asked.lines n says.each))

service_states : (n : ℕ) (m : Method) → Keeps (StatesLength n) (service_call m)
service_states n method.Get = tt
service_states n method.Put = tt
service_states n method.Head = tt
service_states n method.Post = tt
service_states n method.Delete = tt
service_states n method.Other = tt

bucket_states : (asked : Asked) (n : ℕ) (name : List ℕ) (row : BucketRow) → SaysLength asked.lines n → Keeps (StatesLength n) (bucket_call asked name row)
bucket_states asked n name bucket.Create says = tt
bucket_states asked n name bucket.Head says = tt
bucket_states asked n name bucket.GetVersioning says = tt
bucket_states asked n name bucket.PutVersioning says =
    then_keeps (λ m. m ≡ n) (StatesLength n) (asked_length asked most_document) _ (length_said asked most_document n says) (λ m is. is)
bucket_states asked n name bucket.List2 says =
    then_keeps (λ _. Unit {0}) (StatesLength n) (list_ask asked.pairs) _ (any_keeps (list_ask asked.pairs)) (λ page _. tt)
bucket_states asked n name bucket.ListVersions says =
    then_keeps (λ _. Unit {0}) (StatesLength n) (versions_ask asked.pairs) _ (any_keeps (versions_ask asked.pairs)) (λ page _. tt)

put_states : (asked : Asked) (n : ℕ) (at : Key) → SaysLength asked.lines n → Keeps (StatesLength n) (put_call asked at)
put_states asked n at says =
    then_keeps (λ _. Unit {0}) (StatesLength n) (asked_kind asked) _ (any_keeps (asked_kind asked)) (λ kind _.
    then_keeps (λ _. Unit {0}) (StatesLength n) (asked_md5 asked) _ (any_keeps (asked_md5 asked)) (λ md5 _.
    then_keeps (λ m. m ≡ n) (StatesLength n) (asked_length asked asked.limit) _ (length_said asked asked.limit n says) (λ m is. is)))

part_states : (asked : Asked) (n : ℕ) (at : Key) → SaysLength asked.lines n → Keeps (StatesLength n) (part_call asked at)
part_states asked n at says =
    let number = or_refusal (InvalidArgument (codes "partNumber")) (part_number_in (argument asked (codes "partNumber"))) in
    then_keeps (λ _. Unit {0}) (StatesLength n) number _ (any_keeps number) (λ number _.
    then_keeps (λ _. Unit {0}) (StatesLength n) (asked_md5 asked) _ (any_keeps (asked_md5 asked)) (λ md5 _.
    then_keeps (λ m. m ≡ n) (StatesLength n) (asked_length asked asked.limit) _ (length_said asked asked.limit n says) (λ m is. is)))

key_states : (asked : Asked) (n : ℕ) (at : Key) (row : KeyRow) → SaysLength asked.lines n → Keeps (StatesLength n) (key_call asked at row)
key_states asked n at key.Put says = put_states asked n at says
key_states asked n at key.Part says = part_states asked n at says
key_states asked n at key.Create says =
    then_keeps (λ _. Unit {0}) (StatesLength n) (asked_kind asked) _ (any_keeps (asked_kind asked)) (λ kind _. tt)
key_states asked n at key.Complete says =
    then_keeps (λ m. m ≡ n) (StatesLength n) (asked_length asked most_document) _ (length_said asked most_document n says) (λ m is. is)
key_states asked n at key.Abort says = tt
key_states asked n at key.Get says =
    then_keeps (λ _. Unit {0}) (StatesLength n) (with_pick asked.pairs) _ (any_keeps (with_pick asked.pairs)) (λ pick _. tt)
key_states asked n at key.Head says =
    then_keeps (λ _. Unit {0}) (StatesLength n) (with_pick asked.pairs) _ (any_keeps (with_pick asked.pairs)) (λ pick _. tt)
key_states asked n at key.Delete says =
    then_keeps (λ _. Unit {0}) (StatesLength n) (with_pick asked.pairs) _ (any_keeps (with_pick asked.pairs)) (λ pick _. tt)

at_states : (asked : Asked) (n : ℕ) (place : Place) → SaysLength asked.lines n → Keeps (StatesLength n) (call_at asked place)
at_states asked n Service says = service_states n asked.method
at_states asked n (Bucket name) says =
    then_keeps (λ _. Unit {0}) (StatesLength n) _ _ (any_keeps _) (λ row _.
    then_keeps (λ _. Unit {0}) (StatesLength n) (named name) _ (any_keeps (named name)) (λ _ _. bucket_states asked n name row says))
at_states asked n (Object at) says =
    then_keeps (λ _. Unit {0}) (StatesLength n) _ _ (any_keeps _) (λ row _.
    then_keeps (λ _. Unit {0}) (StatesLength n) (named at.bucket) _ (any_keeps (named at.bucket)) (λ _ _.
    then_keeps (λ _. Unit {0}) (StatesLength n) (unless (nat_le (length at.key) 1024) KeyTooLong) _ (any_keeps _) (λ _ _. key_states asked n at row says)))

call_states : (head : HeadParts) (limit n : ℕ) → SaysLength head.lines n → Keeps (StatesLength n) (call_of head limit)
call_states head limit n says =
    then_keeps (λ _. Unit {0}) (StatesLength n) (place_of head.target) _ (any_keeps (place_of head.target)) (λ place _.
    then_keeps (λ _. Unit {0}) (StatesLength n) _ _ (any_keeps _) (λ _ _.
    at_states (asked_of head (pairs_of (query_of head.target)) limit) n place says))

-- what gives the call of a head gives one that states its length
pub given_states : (head : HeadParts) (limit n : ℕ) (r : Result Call CallFault) → Gives (call_of head limit) r → SaysLength head.lines n → IfOk r (StatesLength n)
given_states head limit n (Ok call) gives says = subst (Keeps (StatesLength n)) gives (call_states head limit n says)
given_states head limit n (Err fault) gives says = tt
