-- Lists of bytes.
use Rattle.std.proofs.Common.{◌≡◌, ℕ, ◌<◌, All, List, [], ◌∷◌, ◌++◌, length, refl, subst, arith, inl, inr}
use Rattle.std.specs.Int.{w8, w16, w32, w64, to_be_bytes}
use Rattle.std.specs.List.{AllByRecursion, flat_map}
use Rattle.std.proofs.lemmas.Bool.{cases_lt}
use Rattle.std.proofs.lemmas.Grind.{common_steps}
use Rattle.std.proofs.lemmas.List.{get_or_append_left, get_or-append_right, get_or_past}
use Rattle.std.proofs.lemmas.List.Concat.{flat_map-cons}
use Rattle.std.proofs.lemmas.List.Elements.{All-get_or}
use Rattle.field_reader.specs.Format.{field}
use Rattle.field_reader.specs.Spelling.{IsBytes, number_bytes}
use Rattle.field_reader.proofs.Parts.{IsSpelled, told_spelled}
use Rattle.field_reader.proofs.Series.{Kept}
use Rattle.field_reader.proofs.Chains.{itself, bytes_kept}

-- none, bytes that each fit, and bytes after bytes
pub bytes-none : IsBytes []
bytes-none i = omega arith

pub bytes-all : (xs : List ℕ) → All (λ b. b < 256) xs → IsBytes xs
bytes-all xs all i =
    elim (cases_lt i (length xs)) [
      | inl lt ↦ All-get_or (λ b. b < 256) xs i 0 lt all
      | inr le ↦ rw (get_or_past xs i 0 le) (omega arith)
    ]

pub bytes-append : (xs ys : List ℕ) → IsBytes xs → IsBytes ys → IsBytes (xs ++ ys)
bytes-append xs ys h k i =
    elim (cases_lt i (length xs)) [
      | inl lt ↦ rw (get_or_append_left xs ys 0 i lt) (h i)
      | inr le ↦ rw (get_or-append_right xs ys (length xs) i 0 refl le) (k _)
    ]

-- numbers of each width
be_bytes_1 : (n : ℕ) → All (λ b. b < 256) (to_be_bytes w8 n)
be_bytes_1 n = grind (arith, common_steps)

be_bytes_2 : (n : ℕ) → All (λ b. b < 256) (to_be_bytes w16 n)
be_bytes_2 n = grind (arith, common_steps)

be_bytes_4 : (n : ℕ) → All (λ b. b < 256) (to_be_bytes w32 n)
be_bytes_4 n = grind (arith, common_steps)

be_bytes_8 : (n : ℕ) → All (λ b. b < 256) (to_be_bytes w64 n)
be_bytes_8 n = grind (arith, common_steps)

pub bytes-w8 : (n : ℕ) → IsBytes (number_bytes w8 n)
unfolding number_bytes
bytes-w8 n = bytes-all (to_be_bytes w8 n) (be_bytes_1 n)

pub bytes-w16 : (n : ℕ) → IsBytes (number_bytes w16 n)
unfolding number_bytes
bytes-w16 n = bytes-all (to_be_bytes w16 n) (be_bytes_2 n)

pub bytes-w32 : (n : ℕ) → IsBytes (number_bytes w32 n)
unfolding number_bytes
bytes-w32 n = bytes-all (to_be_bytes w32 n) (be_bytes_4 n)

pub bytes-w64 : (n : ℕ) → IsBytes (number_bytes w64 n)
unfolding number_bytes
bytes-w64 n = bytes-all (to_be_bytes w64 n) (be_bytes_8 n)

-- texts one after the other
pub bytes-flat_map : {A : Type 0} (P : A → Type 0) (p : A → List ℕ) → ((a : A) → P a → IsBytes (p a)) → (xs : List A) → AllByRecursion P xs → IsBytes (flat_map p xs)
bytes-flat_map P p one [] all = bytes-none
bytes-flat_map P p one (x ∷ xs) all = rw (flat_map-cons p x xs) (bytes-append (p x) (flat_map p xs) (one x all.0) (bytes-flat_map P p one xs all.1))

-- a field of so many bytes, of which it is said that they are bytes
pub byte_field_spelled : (size : ℕ) → IsSpelled (field size) (Kept (λ bytes. (length bytes ≡ size) × IsBytes bytes) itself)
byte_field_spelled size = told_spelled (field size) (Kept (λ bytes. length bytes ≡ size) itself) (Kept (λ bytes. (length bytes ≡ size) × IsBytes bytes) itself)
    (λ value text fits k. record { keeps = (k.keeps, subst (λ (x : List ℕ). IsBytes x) k.is fits); is = k.is })
    (λ value text k. record { keeps = k.keeps.0; is = k.is })
    (bytes_kept size)
