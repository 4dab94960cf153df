-- Ids are one to one with their bytes and with their text.
use Rattle.std.proofs.Common.{All, length, Some, Option, unwrap_or, [], inl, ◌≡◌, ℕ, ◌^◌, ◌<◌, ◌≤◌, List, ◌++◌, refl, sym, ap, ◌∙◌, arith}
use Rattle.std.specs.Int.{w64, to_be_bytes}
use Rattle.std.proofs.lemmas.List.Elements.{All-append}
use Rattle.std.proofs.lemmas.Nat.{from_be_bytes-to_be_bytes_8}
use Rattle.std.proofs.lemmas.Grind.{common_steps}
use Rattle.uuid.specs.Text.{lower, parsed}
use Rattle.uuid.proofs.RoundTrips.{parses_hyphenated}
use Rattle.uuid.proofs.TextLemmas.{by_index_length}
use Rattle.stamp_id.specs.Layout.{AreIdWords, IsId, high_word_of, low_word_of, high_word, low_word}
use Rattle.stamp_id.specs.VersionId.{id_bytes, id_text}
use Rattle.stamp_id.specs.declared.stamp.Ballot.{Ballot}
use Rattle.stamp_id.specs.declared.version.VersionId.{VersionId}
use Rattle.std.proofs.Math.Bridge.{le_prop}
use mathlib.Core.HLevel.{is_prop→PathP}

-- the first eight bytes of two numbers are the first number
pub high_word-bytes : (high low : ℕ) → high < 2 ^ 64 → high_word (to_be_bytes w64 high ++ to_be_bytes w64 low) ≡ high
high_word-bytes high low fits = from_be_bytes-to_be_bytes_8 high fits

-- the bytes after them are the second number
pub low_word-bytes : (high low : ℕ) → low < 2 ^ 64 → low_word (to_be_bytes w64 high ++ to_be_bytes w64 low) ≡ low
low_word-bytes high low fits = from_be_bytes-to_be_bytes_8 low fits

-- ballots with the same term and the same sequence number are the same
pub ballot_by_parts : (a b : Ballot) → a.term ≡ b.term → a.seq ≡ b.seq → a ≡ b
ballot_by_parts a b term seq = λ i. record {
  term = term i;
  seq = seq i;
  term_fits = is_prop→PathP (λ j. term j < 2 ^ 48) (λ j. le_prop) a.term_fits b.term_fits i;
  seq_fits = is_prop→PathP (λ j. seq j < 2 ^ 62) (λ j. le_prop) a.seq_fits b.seq_fits i;
}

-- ids with the same change and the same slot are the same
pub id_by_parts : (v w : VersionId) → v.change ≡ w.change → v.slot ≡ w.slot → v ≡ w
id_by_parts v w change slot = λ i. record {
  change = change i;
  slot = slot i;
  slot_fits = is_prop→PathP (λ j. slot j < 64) (λ j. le_prop) v.slot_fits w.slot_fits i;
  term_counts = is_prop→PathP (λ j. 1 ≤ (change j).0.term) (λ j. le_prop) v.term_counts w.term_counts i;
  seq_counts = is_prop→PathP (λ j. 1 ≤ (change j).0.seq) (λ j. le_prop) v.seq_counts w.seq_counts i;
}

-- an id has sixteen bytes
pub length-id_bytes : (v : VersionId) → length (id_bytes v) ≡ 16
unfolding id_bytes
length-id_bytes v = refl

-- the words of an id's bytes
pub high_word-id_bytes : (v : VersionId) → high_word (id_bytes v) ≡ high_word_of v.change.0.term v.slot
unfolding id_bytes
high_word-id_bytes v =
    let fits = v.change.0.term_fits in
    let slot = v.slot_fits in
    high_word-bytes _ (low_word_of v.change.0.seq) (omega arith)

pub low_word-id_bytes : (v : VersionId) → low_word (id_bytes v) ≡ low_word_of v.change.0.seq
unfolding id_bytes
low_word-id_bytes v =
    let fits = v.change.0.seq_fits in
    low_word-bytes (high_word_of v.change.0.term v.slot) _ (omega arith)

-- the bytes of an id are in its layout
pub IsId-id_bytes : (v : VersionId) → IsId (id_bytes v)
IsId-id_bytes v =
    let slot_fits = v.slot_fits in
    let term_counts = v.term_counts in
    let seq_counts = v.seq_counts in
    let seq_fits = v.change.0.seq_fits in
    let high = high_word-id_bytes v in
    let low = low_word-id_bytes v in
    let words : AreIdWords (high_word (id_bytes v)) (low_word (id_bytes v)) = rw (high, low) record {
      version = omega arith;
      variant = omega arith;
      slot = omega arith;
      term = omega arith;
      seq = omega arith;
    } in
    (length-id_bytes v, words)

-- ids with the same bytes are the same
pub id_bytes-injective : (v w : VersionId) → id_bytes v ≡ id_bytes w → v ≡ w
id_bytes-injective v w same =
    let slot_v = v.slot_fits in
    let slot_w = w.slot_fits in
    let high = sym (high_word-id_bytes v) ∙ ap high_word same ∙ high_word-id_bytes w in
    let low = sym (low_word-id_bytes v) ∙ ap low_word same ∙ low_word-id_bytes w in
    let term : v.change.0.term ≡ w.change.0.term = omega arith in
    let seq : v.change.0.seq ≡ w.change.0.seq = omega arith in
    let ballot = ballot_by_parts v.change.0 w.change.0 term seq in
    let change : v.change ≡ w.change = λ i. record { 0 = ballot i } in
    id_by_parts v w change (omega arith)

-- each byte of a number fits
bytes-fit : (n : ℕ) → All (λ b. b < 256) (to_be_bytes w64 n)
bytes-fit n = grind (arith, common_steps)

-- each byte of an id fits
pub id_bytes-fit : (v : VersionId) → All (λ b. b < 256) (id_bytes v)
unfolding id_bytes
id_bytes-fit v =
    All-append (λ b. b < 256) (to_be_bytes w64 (high_word_of v.change.0.term v.slot)) (to_be_bytes w64 (low_word_of v.change.0.seq))
    (bytes-fit _) (bytes-fit _)

-- a text has 36 bytes
pub length-id_text : (v : VersionId) → length (id_text v) ≡ 36
unfolding id_text
length-id_text v = by_index_length 36 _

-- the text of an id is read as its bytes
pub parsed-id_text : (v : VersionId) → Some (id_bytes v) ≡ parsed (id_text v)
unfolding id_text
parsed-id_text v = parses_hyphenated lower (id_bytes v) (inl refl) (length-id_bytes v) (id_bytes-fit v)

-- ids with the same text are the same
pub id_text-injective : (v w : VersionId) → id_text v ≡ id_text w → v ≡ w
id_text-injective v w same =
    let read : Some (id_bytes v) ≡ Some (id_bytes w) = parsed-id_text v ∙ ap parsed same ∙ sym (parsed-id_text w) in
    id_bytes-injective v w (ap (λ (o : Option (List ℕ)). unwrap_or o []) read)
