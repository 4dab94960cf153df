-- What is no name of a bucket and no id.
use Rattle.std.proofs.Common.{◌≡◌, ◌↔◌, IsTrue, Bool, ℕ, ◌<◌, List, get_or, sym, arith, inl, inr, refl}
use Rattle.std.specs.Prelude.{Option, Some, None, false}
use Rattle.std.specs.Str.{IsUtf8}
use Rattle.std.proofs.lemmas.Bool.{false_from_ne_true}
use Rattle.std.proofs.lemmas.Bool.Decides.{same_from_decides}
use Rattle.std.proofs.lemmas.Str.{IsUtf8-from_ascii}
use Rattle.std.proofs.lemmas.Str.Ascii.{IsAscii-from_all}
use Rattle.std.proofs.lemmas.List.Elements.{All-get_or, All-from_get_or}
use Rattle.bucket_book.specs.Name.{IsBucketName, IsNameByte}
use Rattle.stamp_id.specs.VersionId.{id_text}
use Rattle.stamp_id.specs.declared.version.VersionId.{VersionId}
use Rattle.s3_request.specs.Names.{is_bucket_name, id_of}
use Rattle.s3_request.proofs.NameTests.{is_bucket_name-is}
use Rattle.s3_request.proofs.IdTests.{id_of-is}

byte_is_small : (byte : ℕ) → IsNameByte byte → byte < 128
byte_is_small byte (inl (inl letter)) = omega (arith, letter.1)
byte_is_small byte (inl (inr digit)) = omega (arith, digit.1)
byte_is_small byte (inr (inl dot)) = omega (arith, dot)
byte_is_small byte (inr (inr hyphen)) = omega (arith, hyphen)

pub name_utf8 : (name : List ℕ) → IsBucketName name → IsUtf8 name
name_utf8 name is =
    IsUtf8-from_ascii name (IsAscii-from_all name (All-from_get_or (λ b. b < 128) name 0
    (λ i inside. byte_is_small (get_or name i 0) (All-get_or IsNameByte name i 0 inside is.bytes))))

pub no_name : (name : List ℕ) → (IsUtf8 name → ⊥) → false ≡ is_bucket_name name
no_name name never = sym (false_from_ne_true (is_bucket_name name) (λ holds. never (name_utf8 name ((is_bucket_name-is name).0 holds))))

pub name_tested : (test : Bool) (name : List ℕ) → IsTrue test ↔ IsBucketName name → test ≡ is_bucket_name name
name_tested test name tests = same_from_decides test (is_bucket_name name) tests (is_bucket_name-is name)

none_of : {A : Type 0} → (o : Option A) → ((x : A) → o ≡ Some x → ⊥) → o ≡ None
none_of None never = refl
none_of (Some x) never = absurd (never x refl)

pub no_id : (text : List ℕ) → ((id : VersionId) → text ≡ id_text id → ⊥) → None ≡ id_of text
no_id text never = sym (none_of (id_of text) (λ id is. never id ((id_of-is text id).0 is)))
