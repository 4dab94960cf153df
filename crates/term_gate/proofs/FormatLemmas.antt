-- The table of formats is lawful.
use Rattle.std.proofs.Common.{◌≡◌, ℕ, ◌^◌, ◌<◌, List, length, refl, sym, ap, arith}
use Rattle.std.proofs.lemmas.Bool.{ltb-true, lt-ltb}
use Rattle.field_reader.proofs.Parts.{IsSpelled}
use Rattle.field_reader.proofs.Series.{Kept}
use Rattle.field_reader.proofs.Chains.{bytes_kept, u8_kept, u64_kept, done_kept, then_field, told, ruled}
use Rattle.sealed_record.specs.Laws.{IsLawful}
use Rattle.sealed_record.proofs.FieldProofs.{format_spelled}
use Rattle.sealed_record.proofs.Rows.{Matches, lawful_table}
use Rattle.term_gate.specs.Table.{Row, row_of, is_term, layout, bytes_of, IsCanonical, format_table}

-- a row of fields that fit
record IsRow (r : Row) : Type 0 where
  id : length r.id ≡ 16
  drives : r.drives < 2 ^ 8
  parity : r.parity < 2 ^ 8
  index : r.index < 2 ^ 8
  term : r.term < 2 ^ 48

-- the row of these fields
abbrev row_with : List ℕ → ℕ → ℕ → ℕ → ℕ → Row
row_with s d p i t = record { id = s; drives = d; parity = p; index = i; term = t }

-- the fields, one after the other, are spelled
spelled : IsSpelled layout (Kept IsRow bytes_of)
unfolding layout
spelled = told (
    then_field (λ (r : Row). 1) format_spelled (λ one.
    then_field (λ (r : Row). r.id) (bytes_kept 16) (λ s.
    then_field (λ (r : Row). r.drives) u8_kept (λ d.
    then_field (λ (r : Row). r.parity) u8_kept (λ p.
    then_field (λ (r : Row). r.index) u8_kept (λ i.
    then_field (λ (r : Row). r.term) (ruled is_term u64_kept) (λ t. done_kept (row_with s d p i t))
    (λ t r k q. ap (λ (r : Row). r.term) (sym q)))
    (λ i r k q. ap (λ (r : Row). r.index) (sym q.rest)))
    (λ p r k q. ap (λ (r : Row). r.parity) (sym q.rest.rest)))
    (λ d r k q. ap (λ (r : Row). r.drives) (sym q.rest.rest.rest)))
    (λ s r k q. ap (λ (r : Row). r.id) (sym q.rest.rest.rest.rest)))
    (λ one r k q. k))
    (λ r k. let a = k.rest in let b = a.rest in let c = b.rest in let d = c.rest in record { id = a.part; drives = b.part; parity = c.part; index = d.part; term = ltb-true _ _ d.rest.part.1 })
    (λ r k. record { part = refl; rest = record { part = k.id; rest = record { part = k.drives; rest = record { part = k.parity; rest = record { part = k.index; rest = record { part = (omega (arith, k.term), lt-ltb _ _ k.term); rest = refl } } } } } })
    (λ r. refl)

-- rows that fit are those of formats that are written
matches : Matches row_of IsCanonical IsRow
matches = record {
  into = λ f h. record { id = h.id; drives = h.drives; parity = h.parity; index = h.index; term = h.term };
  back = λ f h. record { id = h.id; drives = h.drives; parity = h.parity; index = h.index; term = h.term };
  same = λ a b e. λ i. record { id = (e i).id; drives = (e i).drives; parity = (e i).parity; index = (e i).index; term = (e i).term };
  made = λ r h. (record { id = r.id; drives = r.drives; parity = r.parity; index = r.index; term = r.term }, refl);
}

-- the table is lawful
pub format_lawful : IsLawful format_table
format_lawful = lawful_table format_table IsRow spelled matches
