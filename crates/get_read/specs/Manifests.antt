-- What the steps of reading a manifest answer.
use Rattle.std.specs.Prelude.{◌≡◌, ℕ, List, Result, Ok, Err}
use Rattle.call_types.specs.declared.why.Why.{Why}
use Rattle.call_types.specs.declared.why.Why.TheVariants.{Good, Failed, Damaged, Behind, Lacks}
use Rattle.manifest_file.specs.Canonical.{IsCanonical}
use Rattle.manifest_file.specs.Spelling.{file_of}
use Rattle.manifest_file.specs.declared.manifest.Manifest.{Manifest as ManifestRecord}
use Rattle.get_read.specs.Causes.{Wanted, Serves, IsUnserved}
use Rattle.file_access.specs.declared.fault.FetchFault.{FetchFault}
use Rattle.file_access.specs.declared.fault.FetchFault.TheVariants.{Because, NoMemory}

-- only a damage is told, and the file has it
abbrev pub IsDamagedSo : Wanted → List ℕ → Why → Type 0
IsDamagedSo wanted file Good = ⊥
IsDamagedSo wanted file (Failed _ _) = ⊥
IsDamagedSo wanted file (Damaged damage) = IsUnserved wanted file damage
IsDamagedSo wanted file (Behind _) = ⊥
IsDamagedSo wanted file (Lacks _) = ⊥

-- a manifest that serves and has this file, or what is wrong with the file
abbrev pub IsServed : Wanted → List ℕ → Result ManifestRecord FetchFault → Type 0
IsServed wanted file (Ok m) = IsCanonical m × (file ≡ file_of m) × Serves wanted m
IsServed wanted file (Err (Because why)) = IsDamagedSo wanted file why
IsServed wanted file (Err NoMemory) = Unit {0}
