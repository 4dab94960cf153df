-- Contents and the rows that they are of.
use Rattle.std.proofs.Common.{◌≡◌, ℕ, Bool, true, cond, ◌==◌, List, [], ◌∷◌, length, Option, Some, None, refl, sym, ap, ◌∙◌, arith}
use Rattle.std.proofs.Math.Dec.{eqb-suc-zero}
use Rattle.std.proofs.lemmas.Bool.{eqb-true}
use Rattle.field_reader.specs.Format.{place_of, fault_at}
use Rattle.field_reader.specs.Spelling.{number_bytes}
use Rattle.sealed_record.specs.Table.{spelling_of}
use Rattle.sealed_record.proofs.LawProofs.{faultless, injective}
use Rattle.bucket_book.specs.declared.record.BucketRecord.{BucketRecord}
use Rattle.bucket_book.specs.Table.{bucket, bucket_table}
use Rattle.bucket_book.specs.Content.{content_of, content_fault, IsCanonicalRow}
use Rattle.bucket_book.specs.Laws.{ContentsHaveNoFault, FaultlessIsContent, ContentIsInjective}
use Rattle.bucket_book.proofs.Lawful.{bucket_lawful}

-- a record has nine bytes
pub length-spelling : (there : BucketRecord) → length (spelling_of bucket_table there) ≡ 9
unfolding number_bytes
length-spelling there = refl

pub not_nothing : (there : BucketRecord) → [] ≡ spelling_of bucket_table there → ⊥
not_nothing there e = omega (arith, ap length e, length-spelling there)

pub contents_no_fault : ContentsHaveNoFault
unfolding number_bytes
contents_no_fault None canonical = refl
contents_no_fault (Some there) canonical = ap place_of (bucket_lawful.read there canonical)

-- a content with a byte has the fault that the format finds
fault_is : (b : ℕ) (rest : List ℕ) → content_fault (b ∷ rest) ≡ fault_at bucket (b ∷ rest)
fault_is b rest = ap (λ (none : Bool). cond none None (fault_at bucket (b ∷ rest))) (eqb-suc-zero (length rest))

pub faultless_content : FaultlessIsContent
faultless_content [] bytes e = (None, tt, refl)
faultless_content (b ∷ rest) bytes e =
    let found = faultless bucket_table bucket_lawful (b ∷ rest) bytes (sym (fault_is b rest) ∙ e) in
    (Some found.0, found.1, found.2)

abbrev some_of : BucketRecord → Option BucketRecord
some_of there = Some there

pub content_injective : ContentIsInjective
content_injective None None canonical_a canonical_b e = refl
content_injective None (Some b) canonical_a canonical_b e = absurd (not_nothing b e)
content_injective (Some a) None canonical_a canonical_b e = absurd (not_nothing a (sym e))
content_injective (Some a) (Some b) canonical_a canonical_b e = ap some_of (injective bucket_table bucket_lawful a b canonical_a canonical_b e)

-- no byte is the content of no bucket alone
pub empty_only : (content : List ℕ) → (length content == 0) ≡ true → (row : Option BucketRecord) → IsCanonicalRow row → content ≡ content_of row → None ≡ row
empty_only content none None canonical e = refl
empty_only content none (Some there) canonical e = absurd (omega (arith, eqb-true _ _ none, ap length e, length-spelling there))
