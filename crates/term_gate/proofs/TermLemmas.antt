-- A new term is above all terms that enough drives kept.
use Rattle.std.proofs.Common.{◌≡◌, ◌≢◌, ◌<◌, ◌≤◌, ◌+◌, ℕ, zero, suc, List, Option, None, Some, length, refl, sym, ap, subst, ◌∙◌, inl, inr, arith}
use Rattle.std.specs.Prelude.{IsTrue}
use Rattle.std.specs.Int.{IsBitSet}
use Rattle.std.specs.Str.{bytes_eq}
use Rattle.std.proofs.lemmas.Bool.Decides.{nat_tests}
use Rattle.std.proofs.lemmas.Map.{update_same}
use Rattle.std.proofs.lemmas.Slice.Eq.{bytes_eq-Decides}
use Rattle.call_types.specs.declared.why.FileKind.TheVariants.{Format, Register, Manifest, Shard}
use Rattle.call_types.specs.declared.why.Why.{Why}
use Rattle.call_types.specs.declared.why.Why.TheVariants.{Good, Failed, Damaged, Behind, Lacks}
use Rattle.drive_base.specs.DriveSet.{count_in}
use Rattle.drive_base.specs.HonestDamage.{IsHonestAt}
use Rattle.drive_base.specs.Plan.{data_drives, write_drives}
use Rattle.drive_base.specs.View.{DriveView, view_at}
use Rattle.drive_base.specs.declared.plan.SetPlan.{SetPlan}
use Rattle.drive_base.proofs.SetLemmas.{large_sets_meet, next_counts}
use Rattle.file_access.specs.Writing.{WriteLeaves}
use Rattle.seal_file.proofs.SealedLemmas.{no_damage}
use Rattle.seal_file.specs.Sealing.{IsDamage}
use Rattle.sealed_record.specs.Table.{spelling_of}
use Rattle.sealed_record.proofs.LawProofs.{files_injective}
use Rattle.term_gate.specs.Deciding.{AllAnswered, IsTop, term_of}
use Rattle.term_gate.specs.Formats.{IsUnsealed, format_name, format_of, loose_format_name}
use Rattle.term_gate.specs.Opening.{CountGood}
use Rattle.term_gate.specs.Reading.{AreRead, DriveIsRead, format_at, why_at}
use Rattle.term_gate.specs.Table.{IsCanonical, format_file, format_kind, format_table}
use Rattle.term_gate.specs.Terms.{EachHonest, EachTells, IsKept, KeepsTerm}
use Rattle.term_gate.specs.Writing.{AreWritten, DriveIsWritten, file_for}
use Rattle.term_gate.specs.declared.record.Format.{Format as DriveFormat}
use Rattle.term_gate.proofs.FormatLemmas.{format_lawful}

-- a set that counts has a drive
pub some_in : (mask n : ℕ) → 1 ≤ count_in mask n → (k : ℕ) × (k < n) × IsBitSet mask k
some_in mask zero some = absurd (omega (arith, some))
some_in mask (suc n) some = elim (next_counts mask n) [
  | inl a ↦ (n, omega arith, a.1)
  | inr b ↦ let same = b.0 in let found = some_in mask n (omega (arith, same, some)) in (found.0, omega (arith, found.1), found.2)
]

-- a set that has a drive counts
pub counts_some : (mask n k : ℕ) → k < n → IsBitSet mask k → 1 ≤ count_in mask n
counts_some mask zero k lt set = absurd (omega (arith, lt))
counts_some mask (suc n) k lt set = elim (next_counts mask n) [
  | inl a ↦ let one = a.0 in omega (arith, one)
  | inr b ↦
      let same = b.0 in
      let apart : k ≢ n = λ e. b.1 (subst (IsBitSet mask) e set) in
      let before = counts_some mask n k (omega (arith, lt, apart)) set in omega (arith, same, before)
]

-- reads and writes of a set meet
overlap : (n p : ℕ) → 4 ≤ n → p + p ≤ n → n < write_drives n p + data_drives n p
overlap n p four half = grind (arith, nat_tests)

-- some drive must take a write
some_written : (n p : ℕ) → 4 ≤ n → p + p ≤ n → 1 ≤ write_drives n p
some_written n p four half = grind (arith, nat_tests)

-- of two bytes under a name there is one
pub same_bytes : (found : Option (List ℕ)) (a b : List ℕ) → found ≡ Some a → found ≡ Some b → a ≡ b
same_bytes found a b e f = cc

pub none_found : (found : Option (List ℕ)) (a : List ℕ) → found ≡ None → found ≡ Some a → ⊥
none_found found a e f = cc

-- a drive with a good letter shows its format
read_good : (f : Option DriveFormat) (why : Why) (old new : DriveView) → DriveIsRead f why old new → why ≡ Good
    → (g : DriveFormat) × (f ≡ Some g) × IsCanonical g × (IsTrue old.tells → old.files.shown format_name ≡ Some (format_file g))
read_good (Some g) why old new is good = (g, refl, is.2, is.3)
read_good None Good old new is good = absurd is
read_good None (Failed before after) old new is good = absurd (let apart : Failed before after ≡ Good = good in cc)
read_good None (Damaged damage) old new is good = absurd (let apart : Damaged damage ≡ Good = good in cc)
read_good None (Behind ballot) old new is good = absurd is
read_good None (Lacks kind) old new is good = absurd (let apart : Lacks kind ≡ Good = good in cc)

-- a drive that lacks its format shows none
pub read_lacks : (f : Option DriveFormat) (why : Why) (old new : DriveView) → DriveIsRead f why old new → why ≡ Lacks Format → IsTrue old.tells
    → old.files.shown format_name ≡ None
read_lacks (Some g) why old new is lacks told = absurd (let apart : Good ≡ Lacks Format = sym is.0 ∙ lacks in cc)
read_lacks None Good old new is lacks told = absurd is
read_lacks None (Failed before after) old new is lacks told = absurd (let apart : Failed before after ≡ Lacks Format = lacks in cc)
read_lacks None (Damaged damage) old new is lacks told = absurd (let apart : Damaged damage ≡ Lacks Format = lacks in cc)
read_lacks None (Behind ballot) old new is lacks told = absurd is
read_lacks None (Lacks Format) old new is lacks told = is.1 told
read_lacks None (Lacks Register) old new is lacks told = absurd is
read_lacks None (Lacks Manifest) old new is lacks told = absurd is
read_lacks None (Lacks Shard) old new is lacks told = absurd is

-- a format that is shown, on a drive whose damage is honest, has no lesser term than the drive keeps
seen_term : (used : ℕ) (drive : DriveView) (g : DriveFormat) → IsCanonical g → drive.files.shown format_name ≡ Some (format_file g)
    → IsHonestAt IsUnsealed format_name drive.files → KeepsTerm used drive → used ≤ g.term
seen_term used drive g canonical shown (inl same) keeps =
    let files : format_file g ≡ format_file keeps.found = same_bytes (drive.files.shown format_name) (format_file g) (format_file keeps.found) shown
    (same ∙ keeps.kept) in
    let equal : g ≡ keeps.found = files_injective format_table format_lawful format_kind g keeps.found canonical keeps.canonical files in
    subst (λ (f : DriveFormat). used ≤ f.term) (sym equal) keeps.least
seen_term used drive g canonical shown (inr (bytes, is, (damage, damaged))) keeps =
    let same : bytes ≡ format_file g = same_bytes (drive.files.shown format_name) bytes (format_file g) is shown in
    absurd (no_damage format_kind (spelling_of format_table g) damage refl (subst (λ (b : List ℕ). IsDamage format_kind b damage) same damaged))

-- a drive that shows no format keeps none
pub lacks_none : (used : ℕ) (drive : DriveView) → drive.files.shown format_name ≡ None → IsHonestAt IsUnsealed format_name drive.files → KeepsTerm used drive → ⊥
lacks_none used drive shown (inl same) keeps = none_found (drive.files.shown format_name) (format_file keeps.found) shown (same ∙ keeps.kept)
lacks_none used drive shown (inr (bytes, is, why)) keeps = none_found (drive.files.shown format_name) bytes shown is

-- where one drive has a good letter and keeps a term, the top is not below that
below_top : (formats : List (Option DriveFormat)) (whys : List Why) (top used k : ℕ) (old new : List DriveView) → EachTells old → EachHonest old
    → AreRead formats whys old new → IsTop formats top → k < length old → why_at whys k ≡ Good → KeepsTerm used (view_at old k) → used ≤ top
below_top formats whys top used k old new tell honest read top_is lt good keeps =
    let found = read_good (format_at formats k) (why_at whys k) (view_at old k) (view_at new k) (read.drives.each k lt) good in
    let least = seen_term used (view_at old k) found.0 found.2 (found.3 (tell k lt tt)) (honest k lt) keeps in
    let most : found.0.term ≤ top = subst (λ (f : Option DriveFormat). term_of f ≤ top) found.1 (top_is.none_above k (omega (arith, lt, read.counted))) in
    omega (arith, least, most)

-- where enough formats are good, no term that enough drives keep is above the top
pub above_read : (set : SetPlan) (formats : List (Option DriveFormat)) (whys : List Why) (top used good : ℕ) (old new : List DriveView)
    → 4 ≤ set.drives → set.parity + set.parity ≤ set.drives → length old ≡ set.drives
    → EachTells old → EachHonest old → AreRead formats whys old new → IsTop formats top → CountGood whys good → data_drives set.drives set.parity ≤ good
    → IsKept set used old → used ≤ top
above_read set formats whys top used good old new four half long tell honest read top_is counts enough kept =
    let n : length whys ≡ length old = read.lettered in
    let over = overlap set.drives set.parity four half in
    let many : data_drives set.drives set.parity ≤ count_in counts.mask (length old) =
    subst (λ (m : ℕ). data_drives set.drives set.parity ≤ count_in counts.mask m) n (omega (arith, enough, counts.count_is)) in
    let met = large_sets_meet (length old) kept.holders counts.mask (omega (arith, over, many, kept.enough, long)) in
    let lt = met.1 in
    below_top formats whys top used met.0 old new tell honest read top_is lt ((counts.good.bits met.0 (omega (arith, lt, n))).0 met.3) (kept.each met.0 lt met.2)

-- where each drive has a good format or none, no term that enough drives keep is above the top
pub above_answered : (set : SetPlan) (formats : List (Option DriveFormat)) (whys : List Why) (top used : ℕ) (old new : List DriveView)
    → 4 ≤ set.drives → set.parity + set.parity ≤ set.drives
    → EachTells old → EachHonest old → AreRead formats whys old new → IsTop formats top → AllAnswered whys
    → IsKept set used old → used ≤ top
above_answered set formats whys top used old new four half tell honest read top_is answered kept =
    let some = some_written set.drives set.parity four half in
    let held = some_in kept.holders (length old) (omega (arith, some, kept.enough)) in
    let k = held.0 in
    let lt = held.1 in
    let keeps = kept.each k lt held.2 in
    elim (answered k (omega (arith, lt, read.lettered))) [
      | inl good ↦ below_top formats whys top used k old new tell honest read top_is lt good keeps
      | inr lacks ↦ absurd (lacks_none used (view_at old k)
          (read_lacks (format_at formats k) (why_at whys k) (view_at old k) (view_at new k) (read.drives.each k lt) lacks (tell k lt tt)) (honest k lt) keeps)
    ]

-- a format that was put in place is kept
written_kept : (set : SetPlan) (term k : ℕ) (why : Why) (old new : DriveView) → IsCanonical (format_of set k term) → why ≡ Good
    → WriteLeaves why (loose_format_name term k) format_name (file_for set k term) old.files new.files → KeepsTerm term new
written_kept set term k Good old new canonical good leaves = record {
  found = format_of set k term;
  canonical = canonical;
  kept = ap (λ (named : List ℕ → Option (List ℕ)). named format_name) leaves.kept
      ∙ update_same bytes_eq old.files.kept format_name (Some (file_for set k term)) format_name ((bytes_eq-Decides format_name format_name).1 refl);
  least = omega arith;
}
written_kept set term k (Failed before after) old new canonical good leaves = absurd (let apart : Failed before after ≡ Good = good in cc)
written_kept set term k (Damaged damage) old new canonical good leaves = absurd leaves
written_kept set term k (Behind ballot) old new canonical good leaves = absurd leaves
written_kept set term k (Lacks kind) old new canonical good leaves = absurd (let apart : Lacks kind ≡ Good = good in cc)

drive_kept : (set : SetPlan) (term passed k : ℕ) (why : Why) (old new : DriveView) → IsCanonical (format_of set k term) → IsTrue old.tells → why ≡ Good
    → DriveIsWritten (file_for set k term) term passed (Lacks Format) k why old new → KeepsTerm term new
drive_kept set term passed k why old new canonical told good (inl over) = absurd (let apart : Good ≡ Lacks Format = sym good ∙ over.letter in cc)
drive_kept set term passed k why old new canonical told good (inr (apart, written)) = written_kept set term k why old new canonical good (written.leaves told)

-- where enough drives took a term, they keep it
pub term_kept : (set : SetPlan) (term passed taken : ℕ) (whys : List Why) (old new : List DriveView) → EachTells old
    → AreWritten set term passed (Lacks Format) whys old new → CountGood whys taken → write_drives set.drives set.parity ≤ taken → IsKept set term new
term_kept set term passed taken whys old new tell wrote counts enough = record {
  holders = counts.mask;
  enough = subst (λ (m : ℕ). write_drives set.drives set.parity ≤ count_in counts.mask m) (wrote.lettered ∙ sym wrote.drives.long)
      (omega (arith, enough, counts.count_is));
  each = λ k lt bit.
      let here : k < length old = omega (arith, lt, wrote.drives.long) in
      drive_kept set term passed k (why_at whys k) (view_at old k) (view_at new k) (wrote.canonical k here) (tell k here tt)
      ((counts.good.bits k (omega (arith, here, wrote.lettered))).0 bit) (wrote.drives.each k here);
}
