-- The texts that spell an id, and the id of 16 bytes.
use Rattle.std.proofs.Common.{All, ◌≡◌, ℕ, ◌/◌, ◌%◌, ◌^◌, ◌<◌, true, List, ◌++◌, length, take, drop, refl, ap, subst, ◌∙◌, arith, inl, inr}
use Rattle.std.specs.Int.{w64, to_be_bytes, from_be_bytes}
use Rattle.std.proofs.lemmas.List.{length-take, length-drop, take-append-drop, get_or_past}
use Rattle.std.proofs.lemmas.Bool.{cases_lt}
use Rattle.std.proofs.lemmas.Nat.{be_bytes_8}
use Rattle.field_reader.specs.Format.{field, with_rule}
use Rattle.field_reader.specs.Spelling.{IsBytes}
use Rattle.field_reader.proofs.Parts.{IsSpelled, IsBytes-take, IsBytes-drop, Ruled, rule_spelled, told_spelled}
use Rattle.field_reader.proofs.Numbers.{Plain, field_spelled}
use Rattle.field_reader.proofs.Series.{Kept}
use Rattle.stamp_id.specs.Layout.{high_word_of, low_word_of, high_word, low_word, AreIdWords}
use Rattle.stamp_id.specs.VersionId.{id_bytes}
use Rattle.stamp_id.specs.declared.stamp.Ballot.{Ballot}
use Rattle.stamp_id.specs.declared.version.VersionId.{VersionId}
use Rattle.stamp_id.proofs.IdLemmas.{IsId-id_bytes, length-id_bytes, id_bytes-fit}
use Rattle.stamp_id.specs.IdField.{is_id, id_field}
use Rattle.stamp_id.proofs.IdTests.{is_id-yes, is_id-true}
use Rattle.field_reader.proofs.Chains.{itself}

-- 16 bytes that are an id
pub record IsIdField (bytes : List ℕ) : Type 0 where
  pub sized : length bytes ≡ 16
  pub fits : IsBytes bytes
  pub is_id : is_id bytes ≡ true

-- The format takes these.
pub id_spelled : IsSpelled id_field (Kept IsIdField itself)
unfolding id_field
id_spelled = told_spelled (with_rule is_id (field 16)) (Ruled (Plain 16) is_id) (Kept IsIdField itself)
    (λ value text bytes r. record {
      keeps = record { sized = r.spells.sized; fits = subst (λ (x : List ℕ). IsBytes x) r.spells.is bytes; is_id = r.keeps };
      is = r.spells.is;
    })
    (λ value text k. record { spells = record { is = k.is; sized = k.keeps.sized }; keeps = k.keeps.is_id })
    (rule_spelled is_id (field 16) (Plain 16) (field_spelled 16))

word_below : (bytes : List ℕ) → IsBytes bytes → from_be_bytes w64 bytes < 2 ^ 64
word_below bytes fits = omega (arith, fits 0, fits 1, fits 2, fits 3, fits 4, fits 5, fits 6, fits 7)

-- the id of two words
of_words : (high low : ℕ) → high < 2 ^ 64 → low < 2 ^ 64 → AreIdWords high low → (id : VersionId) × (high_word_of id.change.0.term id.slot ≡ high) × (low_word_of id.change.0.seq ≡ low)
of_words high low high_fits low_fits w =
    let version = w.version in
    let variant = w.variant in
    let slot = w.slot in
    let term = w.term in
    let seq = w.seq in
    let ballot : Ballot = record { term = high / 2 ^ 16; seq = low % 2 ^ 62; term_fits = omega arith; seq_fits = omega arith } in
    let id : VersionId = record { change = record { 0 = ballot }; slot = high % 2 ^ 12; slot_fits = slot; term_counts = term; seq_counts = seq } in
    (id, omega arith, omega arith)

-- the id of 16 bytes
abbrev pub IdOf : List ℕ → Type 0
IdOf bytes = (id : VersionId) × (id_bytes id ≡ bytes)

pub id_of_bytes : (bytes : List ℕ) → IsIdField bytes → IdOf bytes
unfolding id_bytes
id_of_bytes bytes is =
    let front_fits = IsBytes-take 8 bytes is.fits in
    let back_fits = IsBytes-drop 8 bytes is.fits in
    let sized = is.sized in
    let w = of_words (high_word bytes) (low_word bytes) (word_below (take 8 bytes) front_fits) (word_below (drop 8 bytes) back_fits) (is_id-true bytes is.is_id) in
    let front : to_be_bytes w64 (high_word bytes) ≡ take 8 bytes = be_bytes_8 (take 8 bytes) (high_word bytes) (omega (arith, length-take 8 bytes)) front_fits refl in
    let back : to_be_bytes w64 (low_word bytes) ≡ drop 8 bytes = be_bytes_8 (drop 8 bytes) (low_word bytes) (omega (arith, length-drop 8 bytes)) back_fits refl in (
      w.0,
      ap (λ (n : ℕ). to_be_bytes w64 n ++ to_be_bytes w64 (low_word_of w.0.change.0.seq)) w.1 ∙ ap (λ (n : ℕ). to_be_bytes w64 (high_word bytes) ++ to_be_bytes w64 n) w.2
          ∙ ap (λ (x : List ℕ). x ++ to_be_bytes w64 (low_word bytes)) front ∙ ap (λ (x : List ℕ). take 8 bytes ++ x) back ∙ take-append-drop 8 bytes,
    )

all_bytes : (xs : List ℕ) → All (λ b. b < 256) xs → IsBytes xs
all_bytes xs all place = elim (cases_lt place (length xs)) [
  | inl lt ↦ all place 0 lt
  | inr le ↦ rw (get_or_past xs place 0 le) (omega arith)
]

-- the bytes of an id are such
pub id_is_field : (id : VersionId) → IsIdField (id_bytes id)
id_is_field id = record {
  sized = length-id_bytes id;
  fits = all_bytes (id_bytes id) (id_bytes-fit id);
  is_id = is_id-yes (id_bytes id) (IsId-id_bytes id);
}
