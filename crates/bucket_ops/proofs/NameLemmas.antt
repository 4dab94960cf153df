-- The names of buckets are UTF-8.
use Rattle.std.proofs.Common.{◌<◌, ℕ, zero, suc, List, [], ◌∷◌, All, IsUtf8, slice_index, inl, inr, arith}
use Rattle.std.proofs.lemmas.Str.{IsUtf8-from_ascii}
use Rattle.bucket_book.specs.Name.{IsBucketName, IsNameByte}

name_byte_low : (byte : ℕ) → IsNameByte byte → byte < 128
name_byte_low byte (inl (inl letter)) = let above = letter.0 in let below = letter.1 in omega (arith, below)
name_byte_low byte (inl (inr digit)) = let above = digit.0 in let below = digit.1 in omega (arith, below)
name_byte_low byte (inr (inl dot)) = omega (arith, dot)
name_byte_low byte (inr (inr hyphen)) = omega (arith, hyphen)

pub name_low : (name : List ℕ) → All IsNameByte name → (i : ℕ) → slice_index name i < 128
name_low [] all i = omega arith
name_low (byte ∷ rest) all zero = name_byte_low byte (all zero 0 (omega arith))
name_low (byte ∷ rest) all (suc i) = name_low rest (λ k d l. all (suc k) d (omega (arith, l))) i

pub name_is_utf8 : (name : List ℕ) → IsBucketName name → IsUtf8 name
name_is_utf8 name is = IsUtf8-from_ascii name (name_low name is.bytes)
