-- What is lawful of a key is so of the names of its registers.
use Rattle.std.proofs.Common.{◌<◌, ◌≤◌, ℕ, zero, suc, List, [], ◌∷◌, All, IsUtf8, length, slice_index, inl, inr, arith}
use Rattle.std.proofs.lemmas.List.{length-append}
use Rattle.std.proofs.lemmas.Str.{IsUtf8-from_ascii}
use Rattle.bucket_book.specs.Name.{IsNameByte}
use Rattle.call_types.specs.declared.names.Key.{Key}
use Rattle.desk_base.specs.Calls.{IsKey}
use Rattle.slot_history.specs.Names.{bucket_name, key_name}

name_byte_low : (byte : ℕ) → IsNameByte byte → byte < 128
name_byte_low byte (inl (inl letter)) = let above = letter.0 in let below = letter.1 in omega (arith, below)
name_byte_low byte (inl (inr digit)) = let above = digit.0 in let below = digit.1 in omega (arith, below)
name_byte_low byte (inr (inl dot)) = omega (arith, dot)
name_byte_low byte (inr (inr hyphen)) = omega (arith, hyphen)

name_low : (name : List ℕ) → All IsNameByte name → (i : ℕ) → slice_index name i < 128
name_low [] all i = omega arith
name_low (byte ∷ rest) all zero = name_byte_low byte (all zero 0 (omega arith))
name_low (byte ∷ rest) all (suc i) = name_low rest (λ k d l. all (suc k) d (omega (arith, l))) i

-- the name of a bucket is UTF-8
pub bucket_is_utf8 : (at : Key) → IsKey at → IsUtf8 at.bucket
bucket_is_utf8 at is = IsUtf8-from_ascii at.bucket (name_low at.bucket is.bucket.bytes)

-- the names of registers are short enough for a file
pub bucket_short : (at : Key) → IsKey at → length (bucket_name at.bucket) ≤ 1129
bucket_short at is = let few = is.bucket.short in omega (arith, few)

pub key_short : (at : Key) → IsKey at → length (key_name at) ≤ 1129
key_short at is =
    let few = is.bucket.short in
    let fewer = is.few in
    let long = length-append at.bucket (47 ∷ at.key) in
    omega (arith, few, fewer, long)
