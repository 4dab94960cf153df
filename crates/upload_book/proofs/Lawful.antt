-- The table of part records is lawful.
use Rattle.std.proofs.Common.{◌≡◌, ℕ, ◌^◌, ◌<◌, List, [], ◌++◌, length, refl, sym, ap, arith}
use Rattle.std.proofs.lemmas.Bool.{ltb-true, lt-ltb}
use Rattle.std.proofs.lemmas.List.{length-append}
use Rattle.std.specs.Int.{w64}
use Rattle.field_reader.specs.Spelling.{number_bytes}
use Rattle.field_reader.proofs.Parts.{IsSpelled}
use Rattle.field_reader.proofs.Series.{Kept}
use Rattle.field_reader.proofs.Chains.{bytes_kept, u64_kept, done_kept, then_field, told, ruled}
use Rattle.sealed_record.specs.Laws.{IsLawful}
use Rattle.sealed_record.proofs.Rows.{Matches, lawful_table}
use Rattle.stamp_id.specs.VersionId.{id_bytes}
use Rattle.stamp_id.proofs.IdLemmas.{id_bytes-injective, length-id_bytes}
use Rattle.stamp_id.proofs.IdText.{IsIdField, id_spelled, id_is_field, id_of_bytes}
use Rattle.call_types.specs.declared.version.PartRecord.{PartRecord}
use Rattle.upload_book.specs.declared.record.Spelled.{Spelled}
use Rattle.upload_book.specs.Table.{PartRow, row_of, is_moment, part, bytes_of, IsCanonical, part_table}

record IsRow (r : PartRow) : Type 0 where
  data_id : IsIdField r.data_id
  print : length r.print ≡ 32
  size : r.size < 2 ^ 64
  md5 : length r.md5 ≡ 16
  modified : r.modified < 253402300800

abbrev row_with : List ℕ → List ℕ → ℕ → List ℕ → ℕ → PartRow
row_with id print size md5 modified = record { data_id = id; print = print; size = size; md5 = md5; modified = modified }

spelled : IsSpelled part (Kept IsRow bytes_of)
unfolding part
spelled = told (
    then_field (λ (r : PartRow). r.data_id) id_spelled (λ id.
    then_field (λ (r : PartRow). r.print) (bytes_kept 32) (λ print.
    then_field (λ (r : PartRow). r.size) u64_kept (λ size.
    then_field (λ (r : PartRow). r.md5) (bytes_kept 16) (λ md5.
    then_field (λ (r : PartRow). r.modified) (ruled is_moment u64_kept) (λ modified. done_kept (row_with id print size md5 modified))
    (λ modified r k q. ap (λ (r : PartRow). r.modified) (sym q)))
    (λ md5 r k q. ap (λ (r : PartRow). r.md5) (sym q.rest)))
    (λ size r k q. ap (λ (r : PartRow). r.size) (sym q.rest.rest)))
    (λ print r k q. ap (λ (r : PartRow). r.print) (sym q.rest.rest.rest)))
    (λ id r k q. ap (λ (r : PartRow). r.data_id) (sym q.rest.rest.rest.rest)))
    (λ r k. let a = k.rest in let b = a.rest in let c = b.rest in let d = c.rest in record { data_id = k.part; print = a.part; size = b.part; md5 = c.part; modified = ltb-true _ _ d.part.1 })
    (λ r k. record { part = k.data_id; rest = record { part = k.print; rest = record { part = k.size; rest = record { part = k.md5; rest = record { part = (omega (arith, k.modified), lt-ltb _ _ k.modified); rest = refl } } } } })
    (λ r. refl)

same_part : (a b : PartRecord) → row_of a ≡ row_of b → a ≡ b
same_part a b e =
    let data_id : a.data_id ≡ b.data_id = id_bytes-injective a.data_id b.data_id (ap (λ (r : PartRow). r.data_id) e) in
    let print : a.print ≡ b.print = ap (λ (r : PartRow). r.print) e in
    let size : a.length ≡ b.length = ap (λ (r : PartRow). r.size) e in
    let md5 : a.md5 ≡ b.md5 = ap (λ (r : PartRow). r.md5) e in
    let modified : a.modified ≡ b.modified = ap (λ (r : PartRow). r.modified) e in
    λ i. record { data_id = data_id i; print = print i; length = size i; md5 = md5 i; modified = modified i }

abbrev pub spelled_of : PartRecord → Spelled
spelled_of p = record { 0 = p }

abbrev row : Spelled → PartRow
row s = row_of s.0

abbrev IsWritten : Spelled → Type 0
IsWritten s = IsCanonical s.0

matches : Matches row IsWritten IsRow
matches = record {
  into = λ s h. record { data_id = id_is_field s.0.data_id; print = h.print_sized; size = h.size_fits; md5 = h.md5_sized; modified = h.modified };
  back = λ s h. record { print_sized = h.print; size_fits = h.size; md5_sized = h.md5; modified = h.modified };
  same = λ a b e. let same = same_part a.0 b.0 e in λ i. record { 0 = same i };
  made = λ r h.
      let id = id_of_bytes r.data_id h.data_id in
      let with_id : List ℕ → PartRow = λ id. row_with id r.print r.size r.md5 r.modified in
      (spelled_of (record { data_id = id.0; print = r.print; length = r.size; md5 = r.md5; modified = r.modified }), ap with_id id.1);
}

pub part_lawful : IsLawful part_table
part_lawful = lawful_table part_table IsRow spelled matches

-- a record has 80 bytes
pub length_bytes : (p : PartRecord) → IsCanonical p → length (bytes_of (row_of p)) ≡ 80
unfolding number_bytes
length_bytes p h =
    let id = id_bytes p.data_id in
    let modified = number_bytes w64 p.modified ++ [] in
    let md5 = p.md5 ++ modified in
    let size = number_bytes w64 p.length ++ md5 in
    omega (arith, length-append id (p.print ++ size), length-append p.print size, length-append p.md5 modified, length-id_bytes p.data_id, h.print_sized, h.md5_sized)
