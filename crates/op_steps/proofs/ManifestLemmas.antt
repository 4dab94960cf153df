-- The manifest of a pending change's data, on data drives that serve: each holder among them has a good letter, and these are counted.
use Rattle.std.proofs.Common.{◌≡◌, ◌∙◌, ◌⊎◌, ◌<◌, ◌≤◌, ◌+◌, ◌^◌, ℕ, zero, suc, List, [], ◌∷◌, Some, None, length, cond, bit_and, nat_lt, ap, sym, subst, inl, inr, refl, arith}
use Rattle.std.specs.Prelude.{Bool, true, false, IsTrue, count_by, slice_index_or}
use Rattle.std.specs.Int.{IsBitSet}
use Rattle.std.specs.List.{range_with_len}
use Rattle.std.proofs.lemmas.List.Sums.{sum_by-cons}
use Rattle.std.proofs.lemmas.Option.{none-some}
use Rattle.sha2.specs.Sha256.{sha256}
use Rattle.seal_file.specs.declared.damage.Damage.{Damage}
use Rattle.seal_file.specs.declared.damage.Damage.TheVariants.{Digest, Kind, Long, Short, Spelling}
use Rattle.seal_file.proofs.SealedLemmas.{no_damage, sealed-injective}
use Rattle.field_reader.specs.Format.{fault_at, place_of}
use Rattle.call_types.specs.Good.{good_count, is_good}
use Rattle.call_types.specs.declared.why.FileKind.TheVariants.{Format, Manifest as TheManifest, Register, Shard}
use Rattle.call_types.specs.declared.why.Why.{Why}
use Rattle.call_types.specs.declared.why.Why.TheVariants.{Behind, Damaged, Failed, Good, Lacks}
use Rattle.drive_base.specs.declared.drive.Drive.{Ghosts}
use Rattle.drive_base.specs.DriveSet.{count_in, is_in}
use Rattle.drive_base.specs.Files.{Files}
use Rattle.drive_base.specs.declared.plan.SetPlan.{SetPlan}
use Rattle.fault_base.specs.Counts.{Rose}
use Rattle.file_access.specs.Reading.{FailedWhile, IsTooLong}
use Rattle.manifest_file.specs.Layout.{manifest}
use Rattle.manifest_file.specs.Print.{text_under}
use Rattle.manifest_file.specs.Spelling.{file_of, manifest_kind, spelling}
use Rattle.manifest_file.specs.Table.{ManifestsAreNoLonger}
use Rattle.manifest_file.specs.declared.manifest.Manifest.{Manifest}
use Rattle.manifest_file.specs.declared.manifest.TheConstants.{LONGEST_FILE}
use Rattle.manifest_file.proofs.LawProofs.{files_injective, spelling_found}
use Rattle.body_print.specs.Names.{manifest_name}
use Rattle.register_file.specs.declared.record.Adds.{Adds}
use Rattle.register_core.specs.LaneWrites.{letter_at}
use Rattle.register_core.specs.Manifests.{AreManifestLetters, IsManifestDamage, ManifestLetter, NamesSet, Verifies}
use Rattle.register_core.proofs.SeenLemmas.{element}

-- a count that rose within a call rose over it
pub rose_wider : (before after old new : ℕ) → FailedWhile before after old new → Rose old new
rose_wider before after old new (low, rose, high) = (
  omega (arith, low, rose.0, high),
  elim rose.1 [
    | inl up ↦ inl (omega (arith, low, up, high))
    | inr top ↦ inr (omega (arith, top, high))
  ],
)

pub too_long_is : (most : ℕ) (file : List ℕ) (damage : Damage) → IsTooLong most file damage → most < length file
too_long_is most file (Short n) long = absurd long
too_long_is most file (Digest stored computed) long = absurd long
too_long_is most file (Kind kind) long = absurd long
too_long_is most file (Spelling place) long = absurd long
too_long_is most file (Long n) long = omega (arith, long.0, long.1)

-- the file of a manifest that verifies has no damage
pub undamaged : ManifestsAreNoLonger LONGEST_FILE → (set : SetPlan) (print : List ℕ) (m : Manifest) (damage : Damage) → Verifies set print m
    → IsManifestDamage set print (file_of m) damage → ⊥
undamaged lengths set print m damage verifies (inl long) =
    let more = too_long_is LONGEST_FILE (file_of m) damage long in
    let few = set.few_drives in
    let same = verifies.names.drives in
    let most = lengths m verifies.canonical (omega (arith, few, same)) in
    absurd (omega (arith, more, most))
undamaged lengths set print m damage verifies (inr (within, inl damaged)) = no_damage manifest_kind (spelling m) damage refl damaged
undamaged lengths set print m damage verifies (inr (within, inr (inl (body, place, seals, fault, is)))) =
    let same : spelling m ≡ body = (sealed-injective manifest_kind manifest_kind (spelling m) body refl seals).1 in
    let none : fault_at manifest (spelling m) ≡ None = ap place_of (spelling_found m verifies.canonical) in
    let some : fault_at manifest (spelling m) ≡ Some place = subst (λ (b : List ℕ). fault_at manifest b ≡ Some place) (sym same) fault in
    none-some place (sym none ∙ some)
undamaged lengths set print m damage verifies (inr (within, inr (inr (inl (other, canonical, seals, apart, is))))) =
    let same : m ≡ other = files_injective m other verifies.canonical canonical seals in
    apart (subst (λ (x : Manifest). print ≡ sha256 (text_under x)) same verifies.printed)
undamaged lengths set print m damage verifies (inr (within, inr (inr (inr (other, canonical, seals, apart, is))))) =
    let same : m ≡ other = files_injective m other verifies.canonical canonical seals in
    apart (subst (NamesSet set) same verifies.names)

-- a data drive that serves and shows such a file has a good letter
letter_good : ManifestsAreNoLonger LONGEST_FILE → (set : SetPlan) (adds : Adds) (why : Why) (out : Type 0) (tells : Bool) (files : Files) (old new : ℕ) (m : Manifest)
    → ManifestLetter set adds why out tells files old new → (out → ⊥) → IsTrue tells → (Rose old new → ⊥)
    → files.shown (manifest_name adds.id) ≡ Some (file_of m) → Verifies set adds.print m → why ≡ Good
letter_good lengths set adds Good out tells files old new m is in_use told calm shown verifies = refl
letter_good lengths set adds (Failed before after) out tells files old new m is in_use told calm shown verifies =
    absurd (calm (rose_wider before after old new is.1))
letter_good lengths set adds (Damaged damage) out tells files old new m is in_use told calm shown verifies =
    let found = is.2 told in
    let both : Some found.0 ≡ Some (file_of m) = sym found.1 ∙ shown in
    let same : found.0 ≡ file_of m = cc in
    absurd (undamaged lengths set adds.print m damage verifies (subst (λ (f : List ℕ). IsManifestDamage set adds.print f damage) same found.2))
letter_good lengths set adds (Behind ballot) out tells files old new m is in_use told calm shown verifies = absurd is
letter_good lengths set adds (Lacks Format) out tells files old new m is in_use told calm shown verifies = absurd (in_use is.0)
letter_good lengths set adds (Lacks TheManifest) out tells files old new m is in_use told calm shown verifies =
    absurd (none-some (file_of m) (sym (is.2 told) ∙ shown))
letter_good lengths set adds (Lacks Register) out tells files old new m is in_use told calm shown verifies = absurd is
letter_good lengths set adds (Lacks Shard) out tells files old new m is in_use told calm shown verifies = absurd is

-- what a test adds to a count
abbrev one_if : Bool → ℕ
one_if b = cond b 1 0

counts : (b : Bool) → ((b ≡ true) × (one_if b ≡ 1)) ⊎ ((b ≡ false) × (one_if b ≡ 0))
counts true = inl (refl, refl)
counts false = inr (refl, refl)

bit_set : (n : ℕ) → nat_lt 0 n ≡ true → (n ≡ 0) → ⊥
bit_set zero above = absurd (let no : false ≡ true = above in cc)
bit_set (suc n) above = λ e. absurd (omega (arith, e))

-- the drives of two sets are together no more than the good letters and all drives, where those in both have good letters
both_from : (one other : ℕ) (whys : List Why) (from : ℕ)
    → ((k : ℕ) → k < length whys → IsBitSet one (from + k) → IsBitSet other (from + k) → letter_at whys k ≡ Good)
    → count_by (is_in one) (range_with_len from (length whys)) + count_by (is_in other) (range_with_len from (length whys)) ≤ good_count whys + length whys
both_from one other [] from good = omega arith
both_from one other (why ∷ whys) from good =
    let first = sum_by-cons (λ k. one_if (is_in one k)) from (range_with_len (from + 1) (length whys)) in
    let second = sum_by-cons (λ k. one_if (is_in other k)) from (range_with_len (from + 1) (length whys)) in
    let letters = sum_by-cons (λ w. one_if (is_good w)) why whys in
    let rest = both_from one other whys (from + 1) (λ k low bit also.
    let same : from + 1 + k ≡ from + suc k = omega arith in
    good (suc k) (omega arith) (subst (IsBitSet one) same bit) (subst (IsBitSet other) same also)) in
    elim (counts (is_in one from)) [
      | inl has ↦ elim (counts (is_in other from)) [
        | inl also ↦
            let same : from ≡ from + 0 = omega arith in
            let is : why ≡ Good = good zero (omega arith) (subst (IsBitSet one) same (bit_set (bit_and one (2 ^ from)) has.0))
            (subst (IsBitSet other) same (bit_set (bit_and other (2 ^ from)) also.0)) in
            let more : one_if (is_good why) ≡ 1 = ap (λ (w : Why). one_if (is_good w)) is in
            let h = has.1 in let a = also.1 in omega arith
        | inr lacks ↦ let h = has.1 in let l = lacks.1 in omega arith
      ]
      | inr lacks ↦ elim (counts (is_in other from)) [
        | inl also ↦ let l = lacks.1 in let a = also.1 in omega arith
        | inr none ↦ let l = lacks.1 in let a = none.1 in omega arith
      ]
    ]

pub both_count : (n one other : ℕ) (whys : List Why) → length whys ≡ n
    → ((k : ℕ) → k < n → IsBitSet one k → IsBitSet other k → letter_at whys k ≡ Good)
    → count_in one n + count_in other n ≤ good_count whys + n
both_count n one other whys long good = subst (λ (m : ℕ). count_in one m + count_in other m ≤ good_count whys + m) long
    (both_from one other whys 0 (λ k low bit also.
    let same : 0 + k ≡ k = omega arith in
    good k (omega (arith, long, low)) (subst (IsBitSet one) same bit) (subst (IsBitSet other) same also)))

module _ {D : Type 0} (ghosts : Ghosts D) where
  -- data drives that serve and show a manifest, among those of another set that keep it
  abbrev pub ShowManifest : SetPlan → Adds → ℕ → ℕ → Manifest → List D → List D → Type 0
  ShowManifest set adds serving holding m old new = (k : ℕ) (d : D) → k < set.drives → IsBitSet serving k → IsBitSet holding k
      → (IsBitSet set.out k → ⊥) × IsTrue (ghosts.tells (slice_index_or old k d)) × (Rose (ghosts.count (slice_index_or old k d)) (ghosts.count (slice_index_or new k d)) → ⊥)
      × ((ghosts.files (slice_index_or old k d)).shown (manifest_name adds.id) ≡ Some (file_of m)) × Verifies set adds.print m

  pub holders_counted : ManifestsAreNoLonger LONGEST_FILE → (set : SetPlan) (adds : Adds) (whys : List Why) (serving holding : ℕ) (m : Manifest) (old new : List D)
      → length old ≡ set.drives → AreManifestLetters ghosts set adds whys old new → ShowManifest set adds serving holding m old new
      → count_in serving set.drives + count_in holding set.drives ≤ good_count whys + set.drives
  holders_counted lengths set adds whys serving holding m old new long letters show =
      both_count set.drives serving holding whys (letters.counted ∙ long) (λ k low bit also.
      let here : k < length old = omega (arith, long, low) in
      let d = element old k here in
      let s = show k d low bit also in
      letter_good lengths set adds (letter_at whys k) (IsBitSet set.out k) (ghosts.tells (slice_index_or old k d)) (ghosts.files (slice_index_or old k d))
      (ghosts.count (slice_index_or old k d)) (ghosts.count (slice_index_or new k d)) m (letters.each k d here) s.0 s.1 s.2 s.3 s.4)
