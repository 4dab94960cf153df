-- What a drive that serves is read and written with.
use Rattle.std.proofs.Common.{◌≡◌, ◌<◌, ◌≤◌, ℕ, zero, suc, List, Option, None, Some, length, refl, sym, ap, subst, ◌∙◌, inl, inr, arith, length-append}
use Rattle.std.specs.Prelude.{IsTrue}
use Rattle.std.specs.Int.{IsBitSet}
use Rattle.fault_base.specs.Counts.{Rose, last_count}
use Rattle.call_types.specs.declared.why.FileKind.TheVariants.{Format, Register, Manifest, Shard}
use Rattle.call_types.specs.declared.why.Why.{Why}
use Rattle.call_types.specs.declared.why.Why.TheVariants.{Good, Failed, Damaged, Behind, Lacks}
use Rattle.drive_base.specs.DriveSet.{count_in}
use Rattle.drive_base.specs.View.{DriveView, GoesOn}
use Rattle.drive_base.proofs.SetLemmas.{next_counts}
use Rattle.field_reader.specs.Format.{fault_at, place_of}
use Rattle.field_reader.specs.Spelling.{number_bytes}
use Rattle.file_access.specs.Writing.{WriteCause}
use Rattle.seal_file.proofs.SealedLemmas.{length-sealed, no_damage, sealed-injective}
use Rattle.seal_file.specs.declared.damage.Damage.{Damage}
use Rattle.seal_file.specs.declared.damage.Damage.TheVariants.{Short, Digest, Kind, Spelling, Long}
use Rattle.sealed_record.specs.Answers.{HasFault}
use Rattle.sealed_record.specs.Table.{spelling_of}
use Rattle.sealed_record.proofs.LawProofs.{files_injective}
use Rattle.term_gate.specs.Complete.{Serves, Shows, ShowsNone}
use Rattle.term_gate.specs.Formats.{IsFormatDamage, format_name}
use Rattle.term_gate.specs.Reading.{DriveIsRead}
use Rattle.term_gate.specs.Table.{IsCanonical, bytes_of, format_file, format_kind, format_table, row_of}
use Rattle.term_gate.specs.Writing.{DriveIsWritten}
use Rattle.term_gate.specs.declared.record.Format.{Format as DriveFormat}
use Rattle.term_gate.proofs.FormatLemmas.{format_lawful}
use Rattle.term_gate.proofs.TermLemmas.{none_found, same_bytes}

-- a count that stands below the last one didn't rise
not_risen : (before after old new : ℕ) → new ≡ old → old < last_count → old ≤ before → Rose before after → after ≤ new → ⊥
not_risen before after old new stands low from rose to = elim rose.1 [
  | inl more ↦ omega (arith, stands, from, to, more)
  | inr last ↦ omega (arith, stands, low, to, last)
]

-- a format file has 64 bytes
length_body : (f : DriveFormat) → IsCanonical f → length (bytes_of (row_of f)) ≡ 28
unfolding number_bytes
length_body f canonical = let id = canonical.id in simp length-append (omega (arith, id))

length_format : (f : DriveFormat) → IsCanonical f → length (format_file f) ≡ 64
length_format f canonical =
    let whole = length-sealed format_kind (bytes_of (row_of f)) in
    let body = length_body f canonical in omega (arith, whole, body)

-- the spelling of a format has no fault
no_fault : (f : DriveFormat) (place : ℕ) → IsCanonical f → HasFault format_kind format_table (format_file f) place → ⊥
no_fault f place canonical has =
    let same : spelling_of format_table f ≡ has.body = (sealed-injective format_kind format_kind (spelling_of format_table f) has.body refl has.seals).1 in
    let none : fault_at format_table.format (spelling_of format_table f) ≡ None = ap place_of (format_lawful.read f canonical) in
    let some : fault_at format_table.format (spelling_of format_table f) ≡ Some place = ap (fault_at format_table.format) same ∙ has.fault in
    cc

-- a format file isn't too long
not_long : (f : DriveFormat) (n : ℕ) → IsCanonical f → 64 < n → n ≡ length (format_file f) → ⊥
not_long f n canonical long is = let exact = length_format f canonical in omega (arith, long, is, exact)

-- a format file isn't damaged
undamaged : (f : DriveFormat) (damage : Damage) → IsCanonical f → IsFormatDamage (format_file f) damage → ⊥
undamaged f (Short n) canonical (inl long) = long
undamaged f (Digest stored computed) canonical (inl long) = long
undamaged f (Kind found) canonical (inl long) = long
undamaged f (Spelling at) canonical (inl long) = long
undamaged f (Long n) canonical (inl long) = not_long f n canonical long.0 long.1
undamaged f damage canonical (inr (inl unsealed)) = no_damage format_kind (spelling_of format_table f) damage refl unsealed
undamaged f damage canonical (inr (inr (place, fault, is))) = no_fault f place canonical fault

-- a drive that serves is read with the format that it shows
pub read_shown : (f : Option DriveFormat) (why : Why) (g : DriveFormat) (old new : DriveView) → DriveIsRead f why old new → Serves old new → Shows g old
    → (f ≡ Some g) × (why ≡ Good)
read_shown (Some f) why g old new read serves shows =
    let same : format_file f ≡ format_file g = same_bytes (old.files.shown format_name) (format_file f) (format_file g) (read.3 serves.tells) shows.shown in
    (ap (λ (x : DriveFormat). Some x) (files_injective format_table format_lawful format_kind f g read.2 shows.canonical same), read.0)
read_shown None Good g old new read serves shows = absurd read
read_shown None (Failed before after) g old new read serves shows =
    absurd (not_risen before after old.count new.count serves.stands serves.low read.0 read.1 read.2)
read_shown None (Damaged damage) g old new read serves shows =
    let told = read.1 serves.tells in
    let same : told.0 ≡ format_file g = same_bytes (old.files.shown format_name) told.0 (format_file g) told.1 shows.shown in
    absurd (undamaged g damage shows.canonical (subst (λ (b : List ℕ). IsFormatDamage b damage) same told.2))
read_shown None (Behind ballot) g old new read serves shows = absurd read
read_shown None (Lacks Format) g old new read serves shows = absurd (none_found (old.files.shown format_name) (format_file g) (read.1 serves.tells) shows.shown)
read_shown None (Lacks Register) g old new read serves shows = absurd read
read_shown None (Lacks Manifest) g old new read serves shows = absurd read
read_shown None (Lacks Shard) g old new read serves shows = absurd read

-- a drive that serves and shows no format is read so
pub read_none : (f : Option DriveFormat) (why : Why) (old new : DriveView) → DriveIsRead f why old new → Serves old new → ShowsNone old → why ≡ Lacks Format
read_none (Some f) why old new read serves none = absurd (none_found (old.files.shown format_name) (format_file f) none (read.3 serves.tells))
read_none None Good old new read serves none = absurd read
read_none None (Failed before after) old new read serves none =
    absurd (not_risen before after old.count new.count serves.stands serves.low read.0 read.1 read.2)
read_none None (Damaged damage) old new read serves none =
    let told = read.1 serves.tells in absurd (none_found (old.files.shown format_name) told.0 none told.1)
read_none None (Behind ballot) old new read serves none = absurd read
read_none None (Lacks Format) old new read serves none = refl
read_none None (Lacks Register) old new read serves none = absurd read
read_none None (Lacks Manifest) old new read serves none = absurd read
read_none None (Lacks Shard) old new read serves none = absurd read

-- a drive that serves takes a write
cause_good : (why : Why) (old new : DriveView) → WriteCause Format (IsTrue old.tells) why old.count new.count → Serves old new → why ≡ Good
cause_good Good old new cause serves = refl
cause_good (Failed before after) old new cause serves =
    absurd (not_risen old.count new.count old.count new.count serves.stands serves.low (omega arith) cause.2 (omega arith))
cause_good (Damaged damage) old new cause serves = absurd cause
cause_good (Behind ballot) old new cause serves = absurd cause
cause_good (Lacks kind) old new cause serves = absurd (cause.1 serves.tells)

pub written_good : (file : List ℕ) (term passed : ℕ) (other : Why) (k : ℕ) (why : Why) (old new : DriveView)
    → DriveIsWritten file term passed other k why old new → (IsBitSet passed k → other ≡ Good) → Serves old new → why ≡ Good
written_good file term passed other k why old new (inl over) is serves = over.letter ∙ is over.in_it
written_good file term passed other k why old new (inr (apart, written)) is serves = cause_good why old new written.cause serves

-- a drive that serves over two calls does over each
pub serves_first : (old mid new : DriveView) → GoesOn old mid → GoesOn mid new → Serves old new → Serves old mid
serves_first old mid new one two serves = record {
  tells = serves.tells;
  stands = omega (arith, one.count, two.count, serves.stands);
  low = serves.low;
}

pub serves_then : (old mid new : DriveView) → GoesOn old mid → GoesOn mid new → Serves old new → Serves mid new
serves_then old mid new one two serves = record {
  tells = subst IsTrue (sym one.tells) serves.tells;
  stands = omega (arith, one.count, two.count, serves.stands);
  low = omega (arith, one.count, two.count, serves.stands, serves.low);
}

-- a set of all drives counts them all
pub all_in : (mask n : ℕ) → ((k : ℕ) → k < n → IsBitSet mask k) → count_in mask n ≡ n
all_in mask zero all = refl
all_in mask (suc n) all = elim (next_counts mask n) [
  | inl a ↦ let before = all_in mask n (λ k lt. all k (omega (arith, lt))) in omega (arith, a.0, before)
  | inr b ↦ absurd (b.1 (all n (omega arith)))
]
