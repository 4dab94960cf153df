-- The rows that the format takes are those of canonical records, one for each.
use Rattle.std.proofs.Common.{◌≡◌, List, ℕ, Option, true, refl, ap, ◌∙◌, arith}
use Rattle.std.specs.Option.{option_map}
use Rattle.std.proofs.lemmas.Bool.{eqb-true}
use Rattle.std.proofs.lemmas.Bool.Decides.{nat_tests}
use Rattle.stamp_id.specs.declared.stamp.Ballot.{Ballot}
use Rattle.stamp_id.specs.declared.stamp.ChangeId.{ChangeId}
use Rattle.stamp_id.proofs.IdLemmas.{ballot_by_parts, id_bytes-injective}
use Rattle.stamp_id.proofs.IdTests.{both_true}
use Rattle.stamp_id.proofs.IdText.{id_is_field, id_of_bytes}
use Rattle.sealed_record.proofs.Rows.{Matches, option_matches}
use Rattle.register_file.specs.Record.{IsContent, AddsPrint, IsCanonicalNext, IsCanonical}
use Rattle.register_file.specs.Rows.{StampRow, BaseRow, AddsRow, NextRow, FileRow, ballot_row, change_row, base_row, adds_row, next_row, row_of}
use Rattle.register_file.specs.Layout.{is_same_stamp}
use Rattle.register_file.proofs.Texts.{IsStampRow, IsBaseRow, IsAddsRow, IsNextRow, IsFileRow}

-- ---- a ballot or a change

ballot_fits : (b : Ballot) → IsStampRow (ballot_row b)
ballot_fits b = record { term = b.term_fits; seq = b.seq_fits }

ballot_same : (a b : Ballot) → ballot_row a ≡ ballot_row b → a ≡ b
ballot_same a b e = ballot_by_parts a b (ap (λ (s : StampRow). s.term) e) (ap (λ (s : StampRow). s.seq) e)

change_same : (a b : ChangeId) → change_row a ≡ change_row b → a ≡ b
change_same a b e = let same = ballot_same a.0 b.0 e in λ i. record { 0 = same i }

abbrev ballot_of : (s : StampRow) → IsStampRow s → Ballot
ballot_of s h = record { term = s.term; seq = s.seq; term_fits = h.term; seq_fits = h.seq }

abbrev change_of : (s : StampRow) → IsStampRow s → ChangeId
change_of s h = record { 0 = ballot_of s h }

-- the test of sameness
same_yes : (a b : ChangeId) → b ≡ a → is_same_stamp (change_row a) (change_row b) ≡ true
same_yes a b e =
    let term : b.0.term ≡ a.0.term = ap (λ (c : ChangeId). c.0.term) e in
    let seq : b.0.seq ≡ a.0.seq = ap (λ (c : ChangeId). c.0.seq) e in
    grind (arith, nat_tests)

same_true : (a b : ChangeId) → is_same_stamp (change_row a) (change_row b) ≡ true → b ≡ a
same_true a b e =
    let t = both_true _ _ e in
    let term : a.0.term ≡ b.0.term = eqb-true _ _ t.0 in
    let seq : a.0.seq ≡ b.0.seq = eqb-true _ _ t.1 in
    let ballot = ballot_by_parts b.0 a.0 (omega arith) (omega arith) in
    λ i. record { 0 = ballot i }

-- ---- the parts of a record

base_matches : Matches base_row (λ base. IsContent base.content) IsBaseRow
base_matches = record {
  into = λ base h. record { ballot = ballot_fits base.ballot; change = ballot_fits base.change.0; content = h };
  back = λ base h. h.content;
  same = λ a b e.
      let ballot : a.ballot ≡ b.ballot = ballot_same a.ballot b.ballot (ap (λ (r : BaseRow). r.ballot) e) in
      let change : a.change ≡ b.change = change_same a.change b.change (ap (λ (r : BaseRow). r.change) e) in
      let content : a.content ≡ b.content = ap (λ (r : BaseRow). r.content) e in
      λ i. record { ballot = ballot i; change = change i; content = content i };
  made = λ r h. (record { ballot = ballot_of r.ballot h.ballot; change = change_of r.change h.change; content = r.content }, refl);
}

adds_matches : Matches adds_row AddsPrint IsAddsRow
adds_matches = record {
  into = λ adds h. record { id = id_is_field adds.id; print = h };
  back = λ adds h. h.print;
  same = λ a b e.
      let id : a.id ≡ b.id = id_bytes-injective a.id b.id (ap (λ (r : AddsRow). r.id) e) in
      let print : a.print ≡ b.print = ap (λ (r : AddsRow). r.print) e in
      λ i. record { id = id i; print = print i };
  made = λ r h.
      let id = id_of_bytes r.id h.id in
      let with_id : List ℕ → AddsRow = λ id. record { id = id; print = r.print } in
      (record { id = id.0; print = r.print }, ap with_id id.1);
}

next_matches : (change : ChangeId) → Matches next_row (IsCanonicalNext change) (IsNextRow (change_row change))
next_matches change =
    let adds = option_matches adds_matches in
    record {
      into = λ n h. record {
        ballot = ballot_fits n.ballot;
        change = ballot_fits n.change.0;
        parent_fits = ballot_fits n.parent.0;
        parent_same = same_yes change n.parent h.parent;
        adds = adds.into n.adds h.adds;
        content = h.content;
      };
      back = λ n h. record { parent = same_true change n.parent h.parent_same; adds = adds.back n.adds h.adds; content = h.content };
      same = λ a b e.
          let ballot : a.ballot ≡ b.ballot = ballot_same a.ballot b.ballot (ap (λ (r : NextRow). r.ballot) e) in
          let own : a.change ≡ b.change = change_same a.change b.change (ap (λ (r : NextRow). r.change) e) in
          let parent : a.parent ≡ b.parent = change_same a.parent b.parent (ap (λ (r : NextRow). r.parent) e) in
          let adds_is : a.adds ≡ b.adds = adds.same a.adds b.adds (ap (λ (r : NextRow). r.adds) e) in
          let content : a.content ≡ b.content = ap (λ (r : NextRow). r.content) e in
          λ i. record { ballot = ballot i; change = own i; parent = parent i; adds = adds_is i; content = content i };
      made = λ r h.
          let made = adds.made r.adds h.adds in
          let with_adds : Option AddsRow → NextRow = λ a. record { ballot = r.ballot; change = r.change; parent = r.parent; adds = a; content = r.content } in
          (record { ballot = ballot_of r.ballot h.ballot; change = change_of r.change h.change; parent = change_of r.parent h.parent_fits; adds = made.0; content = r.content }, ap with_adds made.1);
    }

-- ---- a record

pub file_matches : Matches row_of IsCanonical IsFileRow
file_matches = record {
  into = λ file h. record { base = base_matches.into file.base h.base; next = (option_matches (next_matches file.base.change)).into file.next h.next };
  back = λ file h. record { base = base_matches.back file.base h.base; next = (option_matches (next_matches file.base.change)).back file.next h.next };
  same = λ a b e.
      let base : a.base ≡ b.base = base_matches.same a.base b.base (ap (λ (r : FileRow). r.base) e) in
      let next : a.next ≡ b.next = (option_matches (next_matches a.base.change)).same a.next b.next (ap (λ (r : FileRow). r.next) e) in
      λ i. record { base = base i; next = next i };
  made = λ r h.
      let change = change_of r.base.change h.base.change in
      let base = base_matches.made r.base h.base in
      let next = (option_matches (next_matches change)).made r.next h.next in
      let row : BaseRow → Option NextRow → FileRow = λ b n. record { base = b; next = n } in
      (record { base = base.0; next = next.0 }, ap (λ (b : BaseRow). row b (option_map next_row next.0)) base.1 ∙ ap (λ (n : Option NextRow). row r.base n) next.1);
}
