-- The registers of a store: the names of buckets', of keys' and of parts', and the slot that each belongs to.
use Rattle.std.specs.Prelude.{ℕ, ◌+◌, ◌*◌, ◌/◌, ◌%◌, List, [], ◌∷◌, ◌++◌, codes, fold}
use Rattle.hex.specs.Hex.{encode_lower}
use Rattle.stamp_id.specs.VersionId.{id_bytes}
use Rattle.stamp_id.specs.declared.version.VersionId.{VersionId}
use Rattle.call_types.specs.declared.names.Key.{Key}

-- a bucket and a key, with a slash between
abbrev pub path_of : Key → List ℕ
path_of at = at.bucket ++ 47 ∷ at.key

-- the name of a bucket's register
abbrev pub bucket_register : List ℕ → List ℕ
bucket_register bucket = codes "b/" ++ bucket

-- the name of a key's register
abbrev pub key_register : Key → List ℕ
key_register at = codes "k/" ++ path_of at

-- a part's number, in five decimal digits
abbrev pub five_digits : ℕ → List ℕ
five_digits n = (48 + n / 10000 % 10) ∷ (48 + n / 1000 % 10) ∷ (48 + n / 100 % 10) ∷ (48 + n / 10 % 10) ∷ (48 + n % 10) ∷ []

-- the name of the register of a part of an upload, with the upload's id in lower-case hex digits. It is in the slot of its key
abbrev pub part_register : Key → VersionId → ℕ → List ℕ
part_register at upload number = codes "p/" ++ (path_of at ++ 47 ∷ (encode_lower (id_bytes upload) ++ 47 ∷ five_digits number))

-- the slot of a text: the number h that begins at 0 and becomes 31 h + byte modulo 64 for each byte
abbrev pub slot_of : List ℕ → ℕ
slot_of text = fold (λ h byte. (31 * h + byte) % 64) 0 text

-- the slot of a bucket's register, and that of a key's
abbrev pub bucket_slot : List ℕ → ℕ
bucket_slot bucket = slot_of bucket

abbrev pub key_slot : Key → ℕ
key_slot at = slot_of (path_of at)
