-- How many bytes a record's file can have.
use Rattle.std.proofs.Common.{◌≡◌, ℕ, ◌+◌, ◌*◌, ◌^◌, ◌≤◌, ◌++◌, length, Option, Some, None, arith}
use Rattle.std.specs.Option.{option_map}
use Rattle.std.proofs.Math.Nat.{le-min}
use Rattle.std.specs.Int.{w32}
use Rattle.std.proofs.lemmas.List.{length-append, append-nil}
use Rattle.field_reader.specs.Spelling.{number_bytes}
use Rattle.seal_file.proofs.SealedLemmas.{length-sealed}
use Rattle.sealed_record.specs.Fields.{optional_bytes, IfThere}
use Rattle.stamp_id.specs.VersionId.{id_bytes}
use Rattle.stamp_id.proofs.IdLemmas.{length-id_bytes}
use Rattle.stamp_id.specs.declared.stamp.ChangeId.{ChangeId}
use Rattle.register_file.specs.declared.record.RegFile.{RegFile}
use Rattle.register_file.specs.declared.record.Next.{Next}
use Rattle.register_file.specs.declared.record.Adds.{Adds}
use Rattle.register_file.specs.Lengths.{ContentsFit, FilesAreNoLonger}
use Rattle.register_file.specs.Record.{AddsPrint, IsCanonicalNext, IsCanonical}
use Rattle.register_file.specs.Rows.{adds_row, next_row}
use Rattle.register_file.specs.Spelling.{adds_bytes, next_bytes, spelling, register_kind}

-- what a change adds, with its flag
pub adds_size : (a : Adds) → AddsPrint a → length (optional_bytes adds_bytes (Some (adds_row a))) ≡ 49
unfolding number_bytes
adds_size a h = rw (append-nil a.print) (omega (arith, h, length-id_bytes a.id, length-append (id_bytes a.id) a.print))

adds_short : (o : Option Adds) → IfThere AddsPrint o → length (optional_bytes adds_bytes (option_map adds_row o)) ≤ 49
unfolding number_bytes
adds_short None h = omega arith
adds_short (Some a) h = omega (arith, adds_size a h)

-- a next, with its flag
pub next_size : (n : Next) → length (optional_bytes next_bytes (Some (next_row n))) ≡ 53 + length (optional_bytes adds_bytes (option_map adds_row n.adds)) + length n.content
unfolding number_bytes
next_size n =
    let adds = optional_bytes adds_bytes (option_map adds_row n.adds) in
    rw (append-nil n.content) (omega (arith, length-append adds (number_bytes w32 (length n.content) ++ n.content)))

next_short : (most : ℕ) (o : Option Next) → IfThere (λ next. IfThere AddsPrint next.adds × (length next.content ≤ most)) o → length (optional_bytes next_bytes (option_map next_row o)) ≤ 102 + most
unfolding number_bytes
next_short most None h = omega arith
next_short most (Some n) h = omega (arith, next_size n, adds_short n.adds h.0, h.1)

-- a record
pub spelling_size : (file : RegFile) → length (spelling file) ≡ 37 + length file.base.content + length (optional_bytes next_bytes (option_map next_row file.next))
unfolding number_bytes
spelling_size file =
    let next = optional_bytes next_bytes (option_map next_row file.next) in
    rw (append-nil file.base.content, append-nil next) (omega (arith, length-append file.base.content next))

next_fits : (most : ℕ) (change : ChangeId) (o : Option Next) → IfThere (IsCanonicalNext change) o → IfThere (λ next. length next.content ≤ most) o → IfThere (λ next. IfThere AddsPrint next.adds × (length next.content ≤ most)) o
next_fits most change None h fits = tt
next_fits most change (Some n) h fits = (h.adds, fits)

next_below : (change : ChangeId) (o : Option Next) → IfThere (IsCanonicalNext change) o → IfThere (λ next. length next.content ≤ 2 ^ 32) o
next_below change None h = tt
next_below change (Some n) h = omega (arith, h.content)

spelling_short : (most : ℕ) (file : RegFile) → IsCanonical file → ContentsFit most file → length (spelling file) ≤ 139 + 2 * most
spelling_short most file canonical fits =
    let short = next_short most file.next (next_fits most file.base.change file.next canonical.next fits.next) in
    omega (arith, spelling_size file, short, fits.base)

pub files_no_longer : FilesAreNoLonger
files_no_longer most file canonical fits =
    let sealed = length-sealed register_kind (spelling file) in
    let short = spelling_short most file canonical fits in
    let below = spelling_short (2 ^ 32) file canonical (record { base = omega (arith, canonical.base); next = next_below file.base.change file.next canonical.next }) in
    le-min (omega arith) (omega arith)
