-- How each part of a record is spelled, field by field.
use Rattle.std.proofs.Common.{◌≡◌, ℕ, ◌^◌, ◌<◌, true, List, length, Option, refl, sym, ap, arith}
use Rattle.std.specs.Int.{w32}
use Rattle.std.proofs.lemmas.Bool.{ltb-true, lt-ltb}
use Rattle.field_reader.proofs.Parts.{IsSpelled}
use Rattle.field_reader.proofs.Series.{Kept}
use Rattle.field_reader.proofs.Chains.{bytes_kept, u32_kept, u64_kept, done_kept, then_field, told, ruled}
use Rattle.sealed_record.specs.Fields.{IfThere}
use Rattle.sealed_record.proofs.FieldProofs.{format_spelled, counted_spelled, optional_spelled}
use Rattle.stamp_id.proofs.IdText.{IsIdField, id_spelled}
use Rattle.register_file.specs.Rows.{StampRow, BaseRow, AddsRow, NextRow, FileRow}
use Rattle.register_file.specs.Layout.{is_term, is_seq, is_same_stamp, stamp, content, base, adds, next, register}
use Rattle.register_file.specs.Spelling.{stamp_bytes, content_bytes, base_bytes, adds_bytes, next_bytes, row_bytes}

-- ---- a ballot or a change

pub record IsStampRow (s : StampRow) : Type 0 where
  pub term : s.term < 2 ^ 48
  pub seq : s.seq < 2 ^ 62

abbrev stamp_of : ℕ → ℕ → StampRow
stamp_of term seq = record { term = term; seq = seq }

pub stamp_spelled : IsSpelled stamp (Kept IsStampRow stamp_bytes)
unfolding stamp
stamp_spelled = told (
    then_field (λ (s : StampRow). s.term) (ruled is_term u64_kept) (λ term.
    then_field (λ (s : StampRow). s.seq) (ruled is_seq u64_kept) (λ seq. done_kept (stamp_of term seq))
    (λ seq s p q. ap (λ (s : StampRow). s.seq) (sym q)))
    (λ term s p q. ap (λ (s : StampRow). s.term) (sym q.rest)))
    (λ s k. record { term = ltb-true _ _ k.part.1; seq = ltb-true _ _ k.rest.part.1 })
    (λ s k. record { part = (omega (arith, k.term), lt-ltb _ _ k.term); rest = record { part = (omega (arith, k.seq), lt-ltb _ _ k.seq); rest = refl } })
    (λ s. refl)

-- ---- a content

abbrev pub IsShort : List ℕ → Type 0
IsShort bytes = length bytes < 2 ^ 32

content_spelled : IsSpelled content (Kept IsShort content_bytes)
content_spelled = counted_spelled w32 (2 ^ 32) u32_kept

-- ---- a base

pub record IsBaseRow (b : BaseRow) : Type 0 where
  pub ballot : IsStampRow b.ballot
  pub change : IsStampRow b.change
  pub content : IsShort b.content

abbrev base_of : StampRow → StampRow → List ℕ → BaseRow
base_of b c k = record { ballot = b; change = c; content = k }

base_spelled : IsSpelled base (Kept IsBaseRow base_bytes)
unfolding base
base_spelled = told (
    then_field (λ (v : BaseRow). v.ballot) stamp_spelled (λ b.
    then_field (λ (v : BaseRow). v.change) stamp_spelled (λ c.
    then_field (λ (v : BaseRow). v.content) content_spelled (λ k. done_kept (base_of b c k))
    (λ k v p q. ap (λ (v : BaseRow). v.content) (sym q)))
    (λ c v p q. ap (λ (v : BaseRow). v.change) (sym q.rest)))
    (λ b v p q. ap (λ (v : BaseRow). v.ballot) (sym q.rest.rest)))
    (λ v k. record { ballot = k.part; change = k.rest.part; content = k.rest.rest.part })
    (λ v k. record { part = k.ballot; rest = record { part = k.change; rest = record { part = k.content; rest = refl } } })
    (λ v. refl)

-- ---- what a change adds

pub record IsAddsRow (a : AddsRow) : Type 0 where
  pub id : IsIdField a.id
  pub print : length a.print ≡ 32

abbrev adds_of : List ℕ → List ℕ → AddsRow
adds_of id print = record { id = id; print = print }

adds_spelled : IsSpelled adds (Kept IsAddsRow adds_bytes)
unfolding adds
adds_spelled = told (
    then_field (λ (v : AddsRow). v.id) id_spelled (λ id.
    then_field (λ (v : AddsRow). v.print) (bytes_kept 32) (λ print. done_kept (adds_of id print))
    (λ print v p q. ap (λ (v : AddsRow). v.print) (sym q)))
    (λ id v p q. ap (λ (v : AddsRow). v.id) (sym q.rest)))
    (λ v k. record { id = k.part; print = k.rest.part })
    (λ v k. record { part = k.id; rest = record { part = k.print; rest = refl } })
    (λ v. refl)

-- ---- a next

pub record IsNextRow (parent : StampRow) (n : NextRow) : Type 0 where
  pub ballot : IsStampRow n.ballot
  pub change : IsStampRow n.change
  pub parent_fits : IsStampRow n.parent
  pub parent_same : is_same_stamp parent n.parent ≡ true
  pub adds : IfThere IsAddsRow n.adds
  pub content : IsShort n.content

abbrev next_of : StampRow → StampRow → StampRow → Option AddsRow → List ℕ → NextRow
next_of b c p a k = record { ballot = b; change = c; parent = p; adds = a; content = k }

next_spelled : (parent : StampRow) → IsSpelled (next parent) (Kept (IsNextRow parent) next_bytes)
unfolding next
next_spelled parent = told (
    then_field (λ (v : NextRow). v.ballot) stamp_spelled (λ b.
    then_field (λ (v : NextRow). v.change) stamp_spelled (λ c.
    then_field (λ (v : NextRow). v.parent) (ruled (is_same_stamp parent) stamp_spelled) (λ p.
    then_field (λ (v : NextRow). v.adds) (optional_spelled adds_spelled) (λ a.
    then_field (λ (v : NextRow). v.content) content_spelled (λ k. done_kept (next_of b c p a k))
    (λ k v p q. ap (λ (v : NextRow). v.content) (sym q)))
    (λ a v p q. ap (λ (v : NextRow). v.adds) (sym q.rest)))
    (λ s v p q. ap (λ (v : NextRow). v.parent) (sym q.rest.rest)))
    (λ c v p q. ap (λ (v : NextRow). v.change) (sym q.rest.rest.rest)))
    (λ b v p q. ap (λ (v : NextRow). v.ballot) (sym q.rest.rest.rest.rest)))
    (λ v k.
    let p = k.rest.rest in
    let a = p.rest in
    record { ballot = k.part; change = k.rest.part; parent_fits = p.part.0; parent_same = p.part.1; adds = a.part; content = a.rest.part })
    (λ v k. record {
      part = k.ballot;
      rest = record {
        part = k.change;
        rest = record { part = (k.parent_fits, k.parent_same); rest = record { part = k.adds; rest = record { part = k.content; rest = refl } } };
      };
    })
    (λ v. refl)

-- ---- a record

pub record IsFileRow (r : FileRow) : Type 0 where
  pub base : IsBaseRow r.base
  pub next : IfThere (IsNextRow r.base.change) r.next

abbrev row_with : BaseRow → Option NextRow → FileRow
row_with b n = record { base = b; next = n }

pub file_spelled : IsSpelled register (Kept IsFileRow row_bytes)
unfolding register
file_spelled = told (
    then_field (λ (v : FileRow). 1) format_spelled (λ format.
    then_field (λ (v : FileRow). v.base) base_spelled (λ b.
    then_field (λ (v : FileRow). v.next) (optional_spelled (next_spelled b.change)) (λ n. done_kept (row_with b n))
    (λ n v p q. ap (λ (v : FileRow). v.next) (sym q)))
    (λ b v p q. ap (λ (v : FileRow). v.base) (sym q.rest)))
    (λ format v p q. p))
    (λ v k. record { base = k.rest.part; next = k.rest.rest.part })
    (λ v k. record { part = refl; rest = record { part = k.base; rest = record { part = k.next; rest = refl } } })
    (λ v. refl)
