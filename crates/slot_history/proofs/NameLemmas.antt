-- The names of buckets, keys and parts differ, and tell what they are made of.
use Rattle.std.proofs.Common.{◌≡◌, ◌≢◌, ℕ, zero, suc, ◌<◌, ◌+◌, ◌*◌, ◌/◌, ◌%◌, List, [], ◌∷◌, ◌++◌, All, inl, inr, length, drop, Result, Ok, refl, ap, subst, ◌∙◌, length-append, arith, lit<}
use Rattle.std.proofs.lemmas.List.Elements.{All-head, All-tail}
use Rattle.bucket_book.specs.Name.{IsNameByte}
use Rattle.hex.specs.Hex.{encode_lower, lower_digits, decode_of, IsBytes}
use Rattle.hex.proofs.HexLemmas.{decode_of-encode_lower, length-encode_with}
use Rattle.stamp_id.specs.VersionId.{id_bytes}
use Rattle.stamp_id.specs.declared.version.VersionId.{VersionId}
use Rattle.stamp_id.proofs.IdLemmas.{id_bytes-injective, id_bytes-fit, length-id_bytes}
use Rattle.call_types.specs.declared.names.Key.{Key}
use Rattle.slot_history.specs.Laws.{BucketNamesTell, KeyNamesTell, NamesDiffer, PartNamesTell}
use Rattle.slot_history.specs.Names.{bucket_name, five_digits, key_name, part_name, path_of}

-- ---- lists

-- where two joined lists are the same and their first parts are as long, the parts are the same
same_parts : (a b x y : List ℕ) → length a ≡ length b → a ++ x ≡ b ++ y → (a ≡ b) × (x ≡ y)
same_parts [] [] x y sized same = (refl, same)
same_parts [] (b ∷ rest_b) x y sized same = absurd (omega arith)
same_parts (a ∷ rest_a) [] x y sized same = absurd (omega arith)
same_parts (a ∷ rest_a) (b ∷ rest_b) x y sized same =
    let first : a ≡ b = cc in
    let tails : rest_a ++ x ≡ rest_b ++ y = cc in
    let rest = same_parts rest_a rest_b x y (omega arith) tails in
    (let front : rest_a ≡ rest_b = rest.0 in cc, rest.1)

-- where their last parts are as long, too
same_ends : (a b x y : List ℕ) → length x ≡ length y → a ++ x ≡ b ++ y → (a ≡ b) × (x ≡ y)
same_ends a b x y sized same =
    let whole = ap length same in
    let first = length-append a x in
    let second = length-append b y in
    same_parts a b x y (omega arith) same

-- ---- hex texts

-- a result is one value
same_ok : {E : Type 0} (a b : List ℕ) (r : Result (List ℕ) E) → r ≡ Ok a → r ≡ Ok b → a ≡ b
same_ok a b r e f = cc

-- numbers below 256 are bytes
fit_are_bytes : (xs : List ℕ) → All (λ b. b < 256) xs → IsBytes xs
fit_are_bytes [] fit i = lit< tt
fit_are_bytes (x ∷ xs) fit zero = fit 0 x (omega arith)
fit_are_bytes (x ∷ xs) fit (suc i) = fit_are_bytes xs (All-tail (λ b. b < 256) x xs fit) i

-- ids whose bytes have the same hex text are the same
pub hex_texts_are_one : (a b : VersionId) → encode_lower (id_bytes a) ≡ encode_lower (id_bytes b) → a ≡ b
hex_texts_are_one a b texts =
    let bytes_a = fit_are_bytes (id_bytes a) (id_bytes-fit a) in
    let bytes_b = fit_are_bytes (id_bytes b) (id_bytes-fit b) in
    id_bytes-injective a b
    (same_ok (id_bytes a) (id_bytes b) (decode_of (encode_lower (id_bytes a))) (decode_of-encode_lower (id_bytes a) bytes_a)
    (ap decode_of texts ∙ decode_of-encode_lower (id_bytes b) bytes_b))

-- the hex text of an id has 32 digits
hex_sized : (id : VersionId) → length (encode_lower (id_bytes id)) ≡ 32
hex_sized id =
    let digits = length-encode_with lower_digits (id_bytes id) in
    let bytes = length-id_bytes id in
    omega arith

-- ---- names

-- what stands behind the path in a part's name
abbrev behind : VersionId → ℕ → List ℕ
behind upload number = 47 ∷ (encode_lower (id_bytes upload) ++ 47 ∷ five_digits number)

-- it has a fixed length
behind_sized : (upload : VersionId) (number : ℕ) → length (behind upload number) ≡ 39
behind_sized upload number =
    let whole = length-append (encode_lower (id_bytes upload)) (47 ∷ five_digits number) in
    let hex = hex_sized upload in
    omega arith

-- it tells the upload, and the digits of the number
behind_tells : (a b : VersionId) (m n : ℕ) → behind a m ≡ behind b n → (a ≡ b) × (five_digits m ≡ five_digits n)
behind_tells a b m n same =
    let hex_a = hex_sized a in
    let hex_b = hex_sized b in
    let parts = same_parts (encode_lower (id_bytes a)) (encode_lower (id_bytes b)) (47 ∷ five_digits m) (47 ∷ five_digits n) (omega arith) (ap (drop 1) same) in
    (hex_texts_are_one a b parts.0, ap (drop 1) parts.1)

-- a number, from the digit that is last and those before it
last_digit : (n : ℕ) → n ≡ 10 * (n / 10) + n % 10
last_digit n = omega arith

fourth_digit : (n : ℕ) → n / 10 ≡ 10 * (n / 100) + n / 10 % 10
fourth_digit n = omega arith

third_digit : (n : ℕ) → n / 100 ≡ 10 * (n / 1000) + n / 100 % 10
third_digit n = omega arith

second_digit : (n : ℕ) → n / 1000 ≡ 10 * (n / 10000) + n / 1000 % 10
second_digit n = omega arith

first_digit : (n : ℕ) → n < 100000 → n / 10000 ≡ n / 10000 % 10
first_digit n small = omega arith

-- five digits tell a number of at most five
digits_tell : (m n : ℕ) → five_digits m ≡ five_digits n → m < 100000 → n < 100000 → m ≡ n
digits_tell m n same small also =
    let first : 48 + m / 10000 % 10 ≡ 48 + n / 10000 % 10 = cc in
    let second : 48 + m / 1000 % 10 ≡ 48 + n / 1000 % 10 = cc in
    let third : 48 + m / 100 % 10 ≡ 48 + n / 100 % 10 = cc in
    let fourth : 48 + m / 10 % 10 ≡ 48 + n / 10 % 10 = cc in
    let last : 48 + m % 10 ≡ 48 + n % 10 = cc in
    let tens_of_thousands : m / 10000 ≡ n / 10000 = (let a = first_digit m small in let b = first_digit n also in omega (arith, a, b, first)) in
    let thousands : m / 1000 ≡ n / 1000 = (let a = second_digit m in let b = second_digit n in omega (arith, a, b, second, tens_of_thousands)) in
    let hundreds : m / 100 ≡ n / 100 = (let a = third_digit m in let b = third_digit n in omega (arith, a, b, third, thousands)) in
    let tens : m / 10 ≡ n / 10 = (let a = fourth_digit m in let b = fourth_digit n in omega (arith, a, b, fourth, hundreds)) in
    let a = last_digit m in
    let b = last_digit n in
    omega (arith, a, b, last, tens)

-- a part's name tells its upload, the path of its key and its number
pub part_names_tell : PartNamesTell
part_names_tell at other upload second number more same =
    let sized_a = behind_sized upload number in
    let sized_b = behind_sized second more in
    let parts = same_ends (path_of at) (path_of other) (behind upload number) (behind second more) (omega arith) (ap (drop 2) same) in
    let behinds = behind_tells upload second number more parts.1 in (
      behinds.0,
      ap (λ (path : List ℕ). 107 ∷ 47 ∷ path) parts.0,
      digits_tell number more behinds.1,
    )

-- a slash stands in no bucket's name
no_slash : IsNameByte 47 → ⊥
no_slash (inl (inl letter)) = omega (arith, letter.0)
no_slash (inl (inr digit)) = omega (arith, digit.0)
no_slash (inr (inl dot)) = omega (arith, dot)
no_slash (inr (inr hyphen)) = omega (arith, hyphen)

-- two texts split in one way at a slash, where none stands before it
one_split : (a b x y : List ℕ) → All IsNameByte a → All IsNameByte b → a ++ 47 ∷ x ≡ b ++ 47 ∷ y → (a ≡ b) × (x ≡ y)
one_split [] [] x y plain_a plain_b same = (refl, ap (drop 1) same)
one_split [] (c ∷ b) x y plain_a plain_b same =
    let first : c ≡ 47 = cc in
    absurd (no_slash (subst IsNameByte first (All-head IsNameByte c b plain_b)))
one_split (c ∷ a) [] x y plain_a plain_b same =
    let first : c ≡ 47 = cc in
    absurd (no_slash (subst IsNameByte first (All-head IsNameByte c a plain_a)))
one_split (c ∷ a) (e ∷ b) x y plain_a plain_b same =
    let first : c ≡ e = cc in
    let rest = one_split a b x y (All-tail IsNameByte c a plain_a) (All-tail IsNameByte e b plain_b) (ap (drop 1) same) in
    (let front : a ≡ b = rest.0 in cc, rest.1)

-- a key's name tells its bucket and its key
pub key_names_tell : KeyNamesTell
key_names_tell at other named also same = one_split at.bucket other.bucket at.key other.key named.bytes also.bytes (ap (drop 2) same)

-- a bucket's name tells it
pub bucket_names_tell : BucketNamesTell
bucket_names_tell bucket other same = ap (drop 2) same

-- texts of different first bytes differ
pub first_bytes : (a b : ℕ) (x y : List ℕ) → a ≢ b → a ∷ x ≢ b ∷ y
first_bytes a b x y apart same = apart cc

-- names are of one kind
pub bucket_not_key : (bucket : List ℕ) (at : Key) → bucket_name bucket ≢ key_name at
bucket_not_key bucket at = first_bytes 98 107 _ _ (λ same. omega arith)

pub bucket_not_part : (bucket : List ℕ) (at : Key) (upload : VersionId) (number : ℕ) → bucket_name bucket ≢ part_name at upload number
bucket_not_part bucket at upload number = first_bytes 98 112 _ _ (λ same. omega arith)

pub key_not_part : (at other : Key) (upload : VersionId) (number : ℕ) → key_name at ≢ part_name other upload number
key_not_part at other upload number = first_bytes 107 112 _ _ (λ same. omega arith)

pub names_differ : NamesDiffer
names_differ bucket at other upload number = (bucket_not_key bucket at, bucket_not_part bucket other upload number, key_not_part at other upload number)
