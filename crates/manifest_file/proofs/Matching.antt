-- The rows that the format takes are those of canonical manifests, one for each.
use Rattle.std.proofs.Common.{◌≡◌, ℕ, List, ap, arith}
use Rattle.std.proofs.lemmas.List.{length-map}
use Rattle.stamp_id.proofs.IdLemmas.{id_bytes-injective}
use Rattle.stamp_id.proofs.IdText.{id_is_field, id_of_bytes}
use Rattle.sealed_record.proofs.Rows.{Matches, list_matches}
use Rattle.manifest_file.specs.Canonical.{IsCanonicalPart, IsCanonical}
use Rattle.manifest_file.specs.Rows.{PartRow, ManifestRow, part_row, row_of}
use Rattle.manifest_file.proofs.Texts.{IsPartRow, IsManifestRow}

part_matches : (drives : ℕ) → Matches part_row (IsCanonicalPart drives) (IsPartRow drives)
part_matches drives = record {
  into = λ p h. record { id = id_is_field p.id; size = h.size; roots = (h.counted, h.roots) };
  back = λ p h. record { size = h.size; counted = h.roots.0; roots = h.roots.1 };
  same = λ a b e.
      let id : a.id ≡ b.id = id_bytes-injective a.id b.id (ap (λ (r : PartRow). r.id) e) in
      let size : a.length ≡ b.length = ap (λ (r : PartRow). r.size) e in
      let roots : a.roots ≡ b.roots = ap (λ (r : PartRow). r.roots) e in
      λ i. record { id = id i; length = size i; roots = roots i };
  made = λ r h.
      let id = id_of_bytes r.id h.id in
      let with_id : List ℕ → PartRow = λ id. record { id = id; size = r.size; roots = r.roots } in
      (record { id = id.0; length = r.size; roots = r.roots }, ap with_id id.1);
}

pub manifest_matches : Matches row_of IsCanonical IsManifestRow
manifest_matches = record {
  into = λ m h.
      let count = length-map m.parts part_row in
      record {
        name = h.name;
        drives = h.drives;
        parity = h.parity;
        some = omega (arith, count, h.some);
        few = omega (arith, count, h.few);
        parts = (list_matches (part_matches m.drives)).into m.parts h.parts;
      };
  back = λ m h.
      let count = length-map m.parts part_row in
      record {
        name = h.name;
        drives = h.drives;
        parity = h.parity;
        some = omega (arith, count, h.some);
        few = omega (arith, count, h.few);
        parts = (list_matches (part_matches m.drives)).back m.parts h.parts;
      };
  same = λ a b e.
      let name : a.name ≡ b.name = ap (λ (r : ManifestRow). r.name) e in
      let drives : a.drives ≡ b.drives = ap (λ (r : ManifestRow). r.drives) e in
      let parity : a.parity ≡ b.parity = ap (λ (r : ManifestRow). r.parity) e in
      let parts : a.parts ≡ b.parts = (list_matches (part_matches a.drives)).same a.parts b.parts (ap (λ (r : ManifestRow). r.parts) e) in
      λ i. record { name = name i; drives = drives i; parity = parity i; parts = parts i };
  made = λ r h.
      let parts = (list_matches (part_matches r.drives)).made r.parts h.parts in
      let with_parts : List PartRow → ManifestRow = λ ps. record { name = r.name; drives = r.drives; parity = r.parity; parts = ps } in
      (record { name = r.name; drives = r.drives; parity = r.parity; parts = parts.0 }, ap with_parts parts.1);
}
