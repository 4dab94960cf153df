-- What the steps of reading a lane answer.
use Rattle.std.specs.Prelude.{◌≡◌, ℕ, Bool, List, Some, None, Result, Ok, Err}
use Rattle.call_types.specs.declared.why.Why.{Why}
use Rattle.call_types.specs.declared.why.Why.TheVariants.{Good, Failed, Damaged, Behind, Lacks}
use Rattle.drive_base.specs.Files.{Files}
use Rattle.file_access.specs.declared.fault.FetchFault.{FetchFault}
use Rattle.file_access.specs.declared.fault.FetchFault.TheVariants.{Because, NoMemory}
use Rattle.register_file.specs.Record.{IsCanonical}
use Rattle.register_file.specs.Spelling.{file_of}
use Rattle.register_file.specs.declared.record.RegFile.{RegFile}
use Rattle.register_core.specs.Looks.{LaneIsRead}
use Rattle.register_core.specs.Records.{IsRegisterDamage}

-- the record of a lane, or why there is none; memory was wanting only where no count rose
abbrev pub ReadsLane : ℕ → List ℕ → Result RegFile FetchFault → Type 0 → Bool → Files → ℕ → ℕ → Type 0
ReadsLane most name (Ok file) out tells files old new = LaneIsRead most name (Some file) Good out tells files old new
ReadsLane most name (Err (Because why)) out tells files old new = LaneIsRead most name None why out tells files old new
ReadsLane most name (Err NoMemory) out tells files old new = (out → ⊥) × (new ≡ old)

-- only a damage is told, and the bytes have it
abbrev pub IsDamagedSo : ℕ → List ℕ → Why → Type 0
IsDamagedSo most bytes Good = ⊥
IsDamagedSo most bytes (Failed _ _) = ⊥
IsDamagedSo most bytes (Damaged damage) = IsRegisterDamage most bytes damage
IsDamagedSo most bytes (Behind _) = ⊥
IsDamagedSo most bytes (Lacks _) = ⊥

-- the canonical record whose file the bytes are, or what is wrong with them
abbrev pub OpensFile : ℕ → List ℕ → Result RegFile FetchFault → Type 0
OpensFile most bytes (Ok file) = IsCanonical file × (bytes ≡ file_of file)
OpensFile most bytes (Err (Because why)) = IsDamagedSo most bytes why
OpensFile most bytes (Err NoMemory) = Unit {0}
