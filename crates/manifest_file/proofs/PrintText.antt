-- The text under a print tells the drives, the parity and the parts.
use Rattle.std.proofs.Common.{◌≡◌, ℕ, ◌%◌, ◌^◌, ◌<◌, List, [], ◌∷◌, ◌++◌, length, Result, Ok, refl, sym, ap, ◌∙◌, arith}
use Rattle.std.specs.Prelude.{map}
use Rattle.std.specs.List.{AllByRecursion, flat_map}
use Rattle.std.specs.Int.{w8, w16, w64, to_be_bytes}
use Rattle.std.proofs.lemmas.List.{append-nil, length-map}
use Rattle.field_reader.specs.Format.{Format, ◌>>=◌, done, number, series, value_of}
use Rattle.field_reader.specs.Spelling.{IsBytes, number_bytes}
use Rattle.field_reader.proofs.Parts.{IsSpelled}
use Rattle.field_reader.proofs.Series.{Kept}
use Rattle.field_reader.proofs.Whole.{whole_again}
use Rattle.field_reader.proofs.Chains.{u8_kept, u16_kept, u64_kept, done_kept, then_field, told}
use Rattle.sealed_record.proofs.ByteLemmas.{bytes-none, bytes-append, bytes-w8, bytes-w16, bytes-w64, bytes-flat_map}
use Rattle.sealed_record.proofs.FieldProofs.{Items, items_spelled}
use Rattle.manifest_file.specs.declared.manifest.Manifest.{Manifest}
use Rattle.manifest_file.specs.declared.manifest.ManifestPart.{ManifestPart}
use Rattle.manifest_file.specs.Canonical.{IsRoot, IsCanonicalPart, IsCanonical}
use Rattle.manifest_file.specs.Layout.{roots}
use Rattle.manifest_file.specs.Spelling.{roots_bytes}
use Rattle.manifest_file.specs.Print.{Cut, cut_of, cut_bytes, print_text, TextsTellParts, TextsAreBytes}
use Rattle.manifest_file.proofs.Texts.{roots_spelled}

-- what a text tells
record PrintRow : Type 0 where
  drives : ℕ
  parity : ℕ
  cuts : List Cut

abbrev row_with : ℕ → ℕ → List Cut → PrintRow
row_with d p cs = record { drives = d; parity = p; cuts = cs }

abbrev row_text : PrintRow → List ℕ
row_text r = print_text r.drives r.parity r.cuts

-- ---- a part

record IsCut (drives : ℕ) (c : Cut) : Type 0 where
  size : c.0 < 2 ^ 64
  roots : Items IsRoot drives c.1

abbrev cut_with : ℕ → List (List ℕ) → Cut
cut_with s r = (s, r)

abbrev cut_format : ℕ → Format Cut
cut_format drives = number w64 >>= λ s. roots drives >>= λ r. done (cut_with s r)

cut_spelled : (drives : ℕ) → IsSpelled (cut_format drives) (Kept (IsCut drives) cut_bytes)
cut_spelled drives = told (
    then_field (λ (c : Cut). c.0) u64_kept (λ s.
    then_field (λ (c : Cut). c.1) (roots_spelled drives) (λ r. done_kept (cut_with s r))
    (λ r c p q. ap (λ (c : Cut). c.1) (sym q)))
    (λ s c p q. ap (λ (c : Cut). c.0) (sym q.rest)))
    (λ c k. record { size = k.part; roots = k.rest.part })
    (λ c k. record { part = k.size; rest = record { part = k.roots; rest = refl } })
    (λ c. ap (λ (x : List ℕ). number_bytes w64 c.0 ++ x) (append-nil (roots_bytes c.1)))

-- ---- a text

record IsPrintRow (r : PrintRow) : Type 0 where
  drives : r.drives < 2 ^ 8
  parity : r.parity < 2 ^ 8
  few : length r.cuts < 2 ^ 16
  cuts : AllByRecursion (IsCut r.drives) r.cuts

abbrev print_format : Format PrintRow
print_format =
    number w8 >>= λ d.
    number w8 >>= λ p.
    number w16 >>= λ count.
    series count (λ before. cut_format d) [] >>= λ cs.
    done (row_with d p cs)

text_spelled : IsSpelled print_format (Kept IsPrintRow row_text)
text_spelled = told (
    then_field (λ (v : PrintRow). v.drives) u8_kept (λ d.
    then_field (λ (v : PrintRow). v.parity) u8_kept (λ p.
    then_field (λ (v : PrintRow). length v.cuts) u16_kept (λ count.
    then_field (λ (v : PrintRow). v.cuts) (items_spelled (cut_spelled d) count) (λ cs. done_kept (row_with d p cs))
    (λ cs v k q. ap (λ (v : PrintRow). v.cuts) (sym q)))
    (λ count v k q. sym q.part.0))
    (λ p v k q. ap (λ (v : PrintRow). v.parity) (sym q.rest.rest)))
    (λ d v k q. ap (λ (v : PrintRow). v.drives) (sym q.rest.rest.rest)))
    (λ v k. let c = k.rest.rest in record { drives = k.part; parity = k.rest.part; few = c.part; cuts = c.rest.part.1 })
    (λ v k. record { part = k.drives; rest = record { part = k.parity; rest = record { part = k.few; rest = record { part = (refl, k.cuts); rest = refl } } } })
    (λ v. refl)

-- ---- the law

abbrev of_row : PrintRow → Result PrintRow ℕ
of_row r = Ok r

row_is : (a b : PrintRow) → of_row a ≡ of_row b → a ≡ b
row_is a b e = cc

texts_tell : (a b : PrintRow) → IsPrintRow a → IsPrintRow b → row_text a ≡ row_text b → a ≡ b
texts_tell a b is_a is_b same =
    let found_a = whole_again print_format (Kept IsPrintRow row_text) text_spelled (row_text a) a (record { keeps = is_a; is = refl }) in
    let found_b = whole_again print_format (Kept IsPrintRow row_text) text_spelled (row_text b) b (record { keeps = is_b; is = refl }) in
    row_is a b (sym found_a ∙ ap (value_of print_format) same ∙ found_b)

cuts_from : (drives : ℕ) (ps : List ManifestPart) → AllByRecursion (IsCanonicalPart drives) ps → AllByRecursion (IsCut drives) (map cut_of ps)
cuts_from drives [] all = tt
cuts_from drives (p ∷ ps) all =
    let size = all.0.size in
    let first : IsCut drives (cut_of p) = record { size = omega arith; roots = (all.0.counted, all.0.roots) } in
    (first, cuts_from drives ps all.1)

abbrev print_row : Manifest → PrintRow
print_row m = row_with m.drives m.parity (map cut_of m.parts)

row_from : (m : Manifest) → IsCanonical m → IsPrintRow (print_row m)
row_from m h =
    let few = h.few in
    record { drives = h.drives; parity = h.parity; few = omega (arith, length-map m.parts cut_of); cuts = cuts_from m.drives m.parts h.parts }

pub tells_parts : TextsTellParts
tells_parts a b canonical_a canonical_b same =
    let rows = texts_tell (print_row a) (print_row b) (row_from a canonical_a) (row_from b canonical_b) same in
    (ap (λ (r : PrintRow). r.drives) rows, ap (λ (r : PrintRow). r.parity) rows, ap (λ (r : PrintRow). r.cuts) rows)

-- the text as it is fed
pub fed_text : (d p : ℕ) (parts : List ManifestPart) → d < 2 ^ 8 → p < 2 ^ 8 → d ∷ p ∷ (to_be_bytes w16 (length parts) ++ flat_map cut_bytes (map cut_of parts)) ≡ print_text d p (map cut_of parts)
unfolding number_bytes
fed_text d p parts d_fits p_fits =
    let one : d % 256 ≡ d = omega arith in
    let two : p % 256 ≡ p = omega arith in
    rw (one, two, length-map parts cut_of, append-nil (flat_map cut_bytes (map cut_of parts))) refl

-- ---- the text is made of bytes

roots_are_bytes : (rs : List (List ℕ)) → AllByRecursion IsRoot rs → IsBytes (roots_bytes rs)
roots_are_bytes rs all = bytes-flat_map IsRoot (λ root. root) (λ root h. h.1) rs all

cut_is_bytes : (drives : ℕ) (c : Cut) → IsCut drives c → IsBytes (cut_bytes c)
cut_is_bytes drives c h = bytes-append (number_bytes w64 c.0) (roots_bytes c.1) (bytes-w64 c.0) (roots_are_bytes c.1 h.roots.1)

pub texts_are_bytes : TextsAreBytes
texts_are_bytes m h =
    let cuts = map cut_of m.parts in
    let all = bytes-flat_map (IsCut m.drives) cut_bytes (cut_is_bytes m.drives) cuts (row_from m h).cuts in
    let parts = bytes-append (flat_map cut_bytes cuts) [] all bytes-none in
    let count = bytes-append (number_bytes w16 (length cuts)) (flat_map cut_bytes cuts ++ []) (bytes-w16 _) parts in
    let parity = bytes-append (number_bytes w8 m.parity) _ (bytes-w8 _) count in
    bytes-append (number_bytes w8 m.drives) _ (bytes-w8 _) parity
