-- How each part of a manifest is spelled, field by field.
use Rattle.std.proofs.Common.{◌≡◌, ℕ, ◌^◌, ◌<◌, ◌≤◌, true, leb, ltb, List, length, refl, sym, ap, arith}
use Rattle.std.specs.List.{AllByRecursion, flat_map}
use Rattle.std.specs.Int.{w16}
use Rattle.std.proofs.lemmas.Bool.{ltb-true, leb-true, le-leb}
use Rattle.std.proofs.lemmas.Bool.Decides.{nat_tests}
use Rattle.field_reader.proofs.Parts.{IsSpelled}
use Rattle.field_reader.proofs.Series.{Kept}
use Rattle.field_reader.proofs.Chains.{u8_kept, u16_kept, u64_kept, done_kept, then_field, told, ruled}
use Rattle.sealed_record.proofs.ByteLemmas.{byte_field_spelled}
use Rattle.sealed_record.proofs.FieldProofs.{format_spelled, counted_spelled, Items, items_spelled}
use Rattle.stamp_id.proofs.IdTests.{both_true}
use Rattle.stamp_id.proofs.IdText.{IsIdField, id_spelled}
use Rattle.manifest_file.specs.Canonical.{IsName, IsRoot}
use Rattle.manifest_file.specs.Rows.{PartRow, ManifestRow}
use Rattle.manifest_file.specs.Layout.{is_count, is_length, name, roots, part, parts, manifest}
use Rattle.manifest_file.specs.Spelling.{name_bytes, roots_bytes, part_bytes, row_bytes}

pub roots_spelled : (drives : ℕ) → IsSpelled (roots drives) (Kept (Items IsRoot drives) roots_bytes)
unfolding roots
roots_spelled drives = items_spelled (byte_field_spelled 32) drives

name_spelled : IsSpelled name (Kept IsName name_bytes)
name_spelled = counted_spelled w16 (2 ^ 16) u16_kept

-- ---- a part

pub record IsPartRow (drives : ℕ) (p : PartRow) : Type 0 where
  pub id : IsIdField p.id
  pub size : p.size ≤ 5368709120
  pub roots : Items IsRoot drives p.roots

abbrev part_of : List ℕ → ℕ → List (List ℕ) → PartRow
part_of i s r = record { id = i; size = s; roots = r }

part_spelled : (drives : ℕ) → IsSpelled (part drives) (Kept (IsPartRow drives) part_bytes)
unfolding part
part_spelled drives = told (
    then_field (λ (v : PartRow). v.id) id_spelled (λ i.
    then_field (λ (v : PartRow). v.size) (ruled is_length u64_kept) (λ s.
    then_field (λ (v : PartRow). v.roots) (roots_spelled drives) (λ r. done_kept (part_of i s r))
    (λ r v p q. ap (λ (v : PartRow). v.roots) (sym q)))
    (λ s v p q. ap (λ (v : PartRow). v.size) (sym q.rest)))
    (λ i v p q. ap (λ (v : PartRow). v.id) (sym q.rest.rest)))
    (λ v k. record { id = k.part; size = leb-true _ _ k.rest.part.1; roots = k.rest.rest.part })
    (λ v k. record { part = k.id; rest = record { part = (omega (arith, k.size), le-leb _ _ k.size); rest = record { part = k.roots; rest = refl } } })
    (λ v. refl)

parts_spelled : (drives count : ℕ) → IsSpelled (parts drives count) (Kept (Items (IsPartRow drives) count) (flat_map part_bytes))
unfolding parts
parts_spelled drives count = items_spelled (part_spelled drives) count

-- ---- a manifest

pub record IsManifestRow (m : ManifestRow) : Type 0 where
  pub name : IsName m.name
  pub drives : m.drives < 2 ^ 8
  pub parity : m.parity < 2 ^ 8
  pub some : 1 ≤ length m.parts
  pub few : length m.parts ≤ 10000
  pub parts : AllByRecursion (IsPartRow m.drives) m.parts

abbrev row_with : List ℕ → ℕ → ℕ → List PartRow → ManifestRow
row_with n d p ps = record { name = n; drives = d; parity = p; parts = ps }

count_true : (n : ℕ) → is_count n ≡ true → (1 ≤ n) × (n ≤ 10000)
count_true n e =
    let b = both_true (ltb 0 n) (leb n 10000) e in
    let some : 0 < n = ltb-true _ _ b.0 in
    (omega arith, leb-true _ _ b.1)

count_yes : (n : ℕ) → 1 ≤ n → n ≤ 10000 → is_count n ≡ true
count_yes n some few = grind (arith, nat_tests)

pub manifest_spelled : IsSpelled manifest (Kept IsManifestRow row_bytes)
unfolding manifest
manifest_spelled = told (
    then_field (λ (v : ManifestRow). 1) format_spelled (λ format.
    then_field (λ (v : ManifestRow). v.name) name_spelled (λ n.
    then_field (λ (v : ManifestRow). v.drives) u8_kept (λ d.
    then_field (λ (v : ManifestRow). v.parity) u8_kept (λ p.
    then_field (λ (v : ManifestRow). length v.parts) (ruled is_count u16_kept) (λ count.
    then_field (λ (v : ManifestRow). v.parts) (parts_spelled d count) (λ ps. done_kept (row_with n d p ps))
    (λ ps v k q. ap (λ (v : ManifestRow). v.parts) (sym q)))
    (λ count v k q. sym q.part.0))
    (λ p v k q. ap (λ (v : ManifestRow). v.parity) (sym q.rest.rest)))
    (λ d v k q. ap (λ (v : ManifestRow). v.drives) (sym q.rest.rest.rest)))
    (λ n v k q. ap (λ (v : ManifestRow). v.name) (sym q.rest.rest.rest.rest)))
    (λ format v k q. k))
    (λ v k.
    let d = k.rest.rest in
    let c = d.rest.rest in
    let counts = count_true (length v.parts) c.part.1 in
    record { name = k.rest.part; drives = d.part; parity = d.rest.part; some = counts.0; few = counts.1; parts = c.rest.part.1 })
    (λ v k. record {
      part = refl;
      rest = record {
        part = k.name;
        rest = record {
          part = k.drives;
          rest = record {
            part = k.parity;
            rest = record { part = (omega (arith, k.few), count_yes (length v.parts) k.some k.few); rest = record { part = (refl, k.parts); rest = refl } };
          };
        };
      };
    })
    (λ v. refl)
