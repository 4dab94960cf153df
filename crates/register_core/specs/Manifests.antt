-- The manifests of a pending change's data, on the data drives.
use Rattle.std.specs.Prelude.{◌≡◌, ◌≢◌, ◌⊎◌, ◌+◌, ◌<◌, ◌≤◌, ℕ, Bool, IsTrue, List, length, Some, None, slice_index_or, true, false, Result, Ok, Err}
use Rattle.std.specs.Int.{IsBitSet}
use Rattle.sha2.specs.Sha256.{sha256}
use Rattle.seal_file.specs.Sealing.{sealed, IsDamage}
use Rattle.seal_file.specs.declared.damage.Damage.{Damage}
use Rattle.seal_file.specs.declared.damage.Damage.TheVariants.{Digest, Spelling}
use Rattle.field_reader.specs.Format.{fault_at}
use Rattle.call_types.specs.declared.why.FileKind.TheVariants.{Format, Register, Manifest as TheManifest, Shard}
use Rattle.call_types.specs.declared.why.Why.{Why}
use Rattle.call_types.specs.declared.why.Why.TheVariants.{Good, Failed, Damaged, Behind, Lacks}
use Rattle.drive_base.specs.declared.drive.Drive.{Ghosts}
use Rattle.drive_base.specs.Files.{Files}
use Rattle.drive_base.specs.declared.plan.SetPlan.{SetPlan}
use Rattle.file_access.specs.Reading.{FailedWhile, IsTooLong}
use Rattle.manifest_file.specs.Canonical.{IsCanonical}
use Rattle.manifest_file.specs.Layout.{manifest}
use Rattle.manifest_file.specs.Print.{text_under}
use Rattle.manifest_file.specs.Spelling.{manifest_kind, spelling, file_of}
use Rattle.manifest_file.specs.declared.manifest.Manifest.{Manifest}
use Rattle.manifest_file.specs.declared.manifest.TheConstants.{LONGEST_FILE}
use Rattle.body_print.specs.Names.{manifest_name}
use Rattle.register_file.specs.declared.record.Adds.{Adds}
use Rattle.register_core.specs.LaneWrites.{letter_at}
use Rattle.file_access.specs.declared.fault.FetchFault.{FetchFault}
use Rattle.file_access.specs.declared.fault.FetchFault.TheVariants.{Because, NoMemory}

-- a manifest names a set's number of drives, and a parity that such a set can have
pub record NamesSet (set : SetPlan) (m : Manifest) : Type 0 where
  pub drives : m.drives ≡ set.drives
  pub some_parity : 1 ≤ m.parity
  pub half_at_most : m.parity + m.parity ≤ m.drives

-- a manifest verifies: it is canonical, has the print, and names the set's numbers
pub record Verifies (set : SetPlan) (print : List ℕ) (m : Manifest) : Type 0 where
  pub canonical : IsCanonical m
  pub printed : print ≡ sha256 (text_under m)
  pub names : NamesSet set m

-- the damage of a file, of a length that a manifest can have, that should be a manifest that verifies: it isn't sealed, its body is no manifest's, or it
-- is a manifest with another print, or one of other numbers, which is told at its end
abbrev pub IsDamageWithin : SetPlan → List ℕ → List ℕ → Damage → Type 0
IsDamageWithin set print file damage =
    IsDamage manifest_kind file damage
    ⊎ ((body : List ℕ) × (place : ℕ) × (file ≡ sealed manifest_kind body) × (fault_at manifest body ≡ Some place) × (damage ≡ Spelling place))
    ⊎ ((m : Manifest) × IsCanonical m × (file ≡ file_of m) × (print ≢ sha256 (text_under m)) × (damage ≡ Digest print (sha256 (text_under m))))
    ⊎ ((m : Manifest) × IsCanonical m × (file ≡ file_of m) × (NamesSet set m → ⊥) × (damage ≡ Spelling (length (spelling m))))

-- the same of a file of any length
abbrev pub IsManifestDamage : SetPlan → List ℕ → List ℕ → Damage → Type 0
IsManifestDamage set print file damage = IsTooLong LONGEST_FILE file damage
    ⊎ ((length file ≤ LONGEST_FILE) × IsDamageWithin set print file damage)

-- the letter of a data drive: its manifest of this id verifies, or why none does
abbrev pub ManifestLetter : SetPlan → Adds → Why → Type 0 → Bool → Files → ℕ → ℕ → Type 0
ManifestLetter set adds Good out tells files old new = (out → ⊥) × (new ≡ old)
    × (IsTrue tells → (m : Manifest) × (files.shown (manifest_name adds.id) ≡ Some (file_of m)) × Verifies set adds.print m)
ManifestLetter set adds (Failed before after) out tells files old new = (out → ⊥) × FailedWhile before after old new
ManifestLetter set adds (Damaged damage) out tells files old new = (out → ⊥) × (new ≡ old)
    × (IsTrue tells → (file : List ℕ) × (files.shown (manifest_name adds.id) ≡ Some file) × IsManifestDamage set adds.print file damage)
ManifestLetter set adds (Behind _) out tells files old new = ⊥
ManifestLetter set adds (Lacks Format) out tells files old new = out × (new ≡ old)
ManifestLetter set adds (Lacks TheManifest) out tells files old new = (out → ⊥) × (new ≡ old) × (IsTrue tells → files.shown (manifest_name adds.id) ≡ None)
ManifestLetter set adds (Lacks Register) out tells files old new = ⊥
ManifestLetter set adds (Lacks Shard) out tells files old new = ⊥

-- a manifest names the set's numbers, or not
abbrev pub TellsOf : SetPlan → Manifest → Bool → Type 0
TellsOf set m true = NamesSet set m
TellsOf set m false = NamesSet set m → ⊥

-- only a damage is told, and the file has it
abbrev pub IsDamagedSo : SetPlan → List ℕ → List ℕ → Why → Type 0
IsDamagedSo set print file Good = ⊥
IsDamagedSo set print file (Failed _ _) = ⊥
IsDamagedSo set print file (Damaged damage) = IsManifestDamage set print file damage
IsDamagedSo set print file (Behind _) = ⊥
IsDamagedSo set print file (Lacks _) = ⊥

-- a file is that of a manifest that verifies, or what is wrong with it
abbrev pub LettersOf : {T : Type 0} → SetPlan → List ℕ → List ℕ → Result T FetchFault → Type 0
LettersOf set print file (Ok _) = (m : Manifest) × (file ≡ file_of m) × Verifies set print m
LettersOf set print file (Err (Because why)) = IsDamagedSo set print file why
LettersOf set print file (Err NoMemory) = Unit {0}

-- the letter of a data drive, or there was not enough memory, and no count rose
abbrev pub ReadsManifest : {T : Type 0} → SetPlan → Adds → Type 0 → Result T FetchFault → Bool → Files → ℕ → ℕ → Type 0
ReadsManifest set adds out (Ok _) tells files old new = ManifestLetter set adds Good out tells files old new
ReadsManifest set adds out (Err (Because why)) tells files old new = ManifestLetter set adds why out tells files old new
ReadsManifest set adds out (Err NoMemory) tells files old new = (out → ⊥) × (new ≡ old)

module _ {D : Type 0} (ghosts : Ghosts D) where
  -- the letter of data drive k, before and after it was read
  abbrev pub ReadsManifestOn : {T : Type 0} → SetPlan → Adds → ℕ → Result T FetchFault → D → D → Type 0
  ReadsManifestOn set adds k result old new =
      ReadsManifest set adds (IsBitSet set.out k) result (ghosts.tells old) (ghosts.files old) (ghosts.count old) (ghosts.count new)

  -- the letter of each data drive; a drive that is out isn't called
  pub record AreManifestLetters (set : SetPlan) (adds : Adds) (whys : List Why) (old new : List D) : Type 0 where
    pub counted : length whys ≡ length old
    pub each : (k : ℕ) (default : D) → k < length old → ManifestLetter set adds (letter_at whys k) (IsBitSet set.out k)
        (ghosts.tells (slice_index_or old k default)) (ghosts.files (slice_index_or old k default))
        (ghosts.count (slice_index_or old k default)) (ghosts.count (slice_index_or new k default))
    pub stay : (k : ℕ) (default : D) → IsBitSet set.out k → slice_index_or new k default ≡ slice_index_or old k default
