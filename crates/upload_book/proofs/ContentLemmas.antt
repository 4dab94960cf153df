-- Contents and the rows that they are of.
use Rattle.std.proofs.Common.{◌≡◌, ℕ, Bool, true, false, cond, ◌==◌, List, [], ◌∷◌, length, Option, Some, None, refl, sym, ap, ◌∙◌, arith}
use Rattle.std.proofs.Math.Dec.{eqb-suc-zero}
use Rattle.field_reader.specs.Format.{place_of, fault_at}
use Rattle.sealed_record.proofs.LawProofs.{faultless, injective}
use Rattle.call_types.specs.declared.version.PartRecord.{PartRecord}
use Rattle.upload_book.specs.declared.record.Spelled.{Spelled}
use Rattle.upload_book.specs.Table.{IsCanonical, part, row_of, bytes_of, part_table}
use Rattle.upload_book.specs.Content.{content_of, content_fault, IsCanonicalRow}
use Rattle.upload_book.specs.Laws.{ContentsHaveNoFault, FaultlessIsContent, ContentIsInjective}
use Rattle.upload_book.proofs.Lawful.{spelled_of, part_lawful, length_bytes}

not_nothing : (there : PartRecord) → IsCanonical there → [] ≡ bytes_of (row_of there) → ⊥
not_nothing there canonical e = omega (arith, ap length e, length_bytes there canonical)

-- the fault of a content of so many bytes
abbrev fault_of_size : List ℕ → ℕ → Option ℕ
fault_of_size content size = cond (size == 0) None (fault_at part content)

pub contents_no_fault : ContentsHaveNoFault
contents_no_fault None canonical = refl
contents_no_fault (Some there) canonical =
    ap (fault_of_size (bytes_of (row_of there))) (length_bytes there canonical) ∙ ap place_of (part_lawful.read (spelled_of there) canonical)

-- a content with a byte has the fault that the format finds
fault_is : (b : ℕ) (rest : List ℕ) → content_fault (b ∷ rest) ≡ fault_at part (b ∷ rest)
fault_is b rest = ap (λ (none : Bool). cond none None (fault_at part (b ∷ rest))) (eqb-suc-zero (length rest))

pub faultless_content : FaultlessIsContent
faultless_content [] bytes e = (None, tt, refl)
faultless_content (b ∷ rest) bytes e =
    let found = faultless part_table part_lawful (b ∷ rest) bytes (sym (fault_is b rest) ∙ e) in
    (Some found.0.0, found.1, found.2)

abbrev part_in : Spelled → Option PartRecord
part_in s = Some s.0

pub content_injective : ContentIsInjective
content_injective None None canonical_a canonical_b e = refl
content_injective None (Some b) canonical_a canonical_b e = absurd (not_nothing b canonical_b e)
content_injective (Some a) None canonical_a canonical_b e = absurd (not_nothing a canonical_a (sym e))
content_injective (Some a) (Some b) canonical_a canonical_b e = ap part_in (injective part_table part_lawful (spelled_of a) (spelled_of b) canonical_a canonical_b e)

-- ---- what a content with a byte is read as

something : (content : List ℕ) → (length content == 0) ≡ false → content ≡ [] → ⊥
something content some none =
    let empty : (length content == 0) ≡ true = ap (λ (x : List ℕ). length x == 0) none in
    let apart : false ≡ true = sym some ∙ empty in
    absurd cc

pub read_only : (content : List ℕ) (read : Spelled) → (length content == 0) ≡ false → ((s : Spelled) → IsCanonical s.0 → content ≡ bytes_of (row_of s.0) → read ≡ s)
    → (row : Option PartRecord) → IsCanonicalRow row → content ≡ content_of row → part_in read ≡ row
read_only content read some only None canonical e = absurd (something content some e)
read_only content read some only (Some there) canonical e = ap part_in (only (spelled_of there) canonical e)

pub none_only : (content : List ℕ) → (length content == 0) ≡ false → ((s : Spelled) → IsCanonical s.0 → content ≡ bytes_of (row_of s.0) → ⊥)
    → (row : Option PartRecord) → IsCanonicalRow row → content ≡ content_of row → ⊥
none_only content some only None canonical e = something content some e
none_only content some only (Some there) canonical e = only (spelled_of there) canonical e
