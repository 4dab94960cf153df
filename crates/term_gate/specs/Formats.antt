-- The formats of a set's drives, their names, and what is wrong with a file that should have one.
use Rattle.std.specs.Prelude.{◌≡◌, ◌⊎◌, ℕ, ◌+◌, ◌/◌, ◌%◌, List, [], ◌∷◌, ◌++◌, codes, drop, Option}
use Rattle.std.specs.Int.{w64, to_be_bytes}
use Rattle.hex.specs.Hex.{encode_lower}
use Rattle.drive_base.specs.declared.plan.SetPlan.{SetPlan}
use Rattle.file_access.specs.Reading.{IsTooLong}
use Rattle.seal_file.specs.Sealing.{IsDamage}
use Rattle.seal_file.specs.declared.damage.Damage.{Damage}
use Rattle.seal_file.specs.declared.damage.Damage.TheVariants.{Spelling}
use Rattle.sealed_record.specs.Answers.{HasFault}
use Rattle.term_gate.specs.Table.{format_kind, format_table}
use Rattle.term_gate.specs.declared.record.Format.{Format as DriveFormat}

-- the name of a format file
abbrev pub format_name : List ℕ
format_name = codes "format"

-- the loose name of a format file: an `f`, the term in 12 hex digits, and the drive's index in two decimal digits
abbrev pub loose_format_name : ℕ → ℕ → List ℕ
loose_format_name term index = codes "f" ++ encode_lower (drop 2 (to_be_bytes w64 term)) ++ (48 + index / 10) ∷ (48 + index % 10) ∷ []

-- the format of a drive of a set, with a term
abbrev pub format_of : SetPlan → ℕ → ℕ → DriveFormat
format_of set k term = record { id = set.id; drives = set.drives; parity = set.parity; index = k; term = term }

-- a format is that of a drive of a set, whatever its term
pub record IsOf (set : SetPlan) (k : ℕ) (f : DriveFormat) : Type 0 where
  pub id : f.id ≡ set.id
  pub drives : f.drives ≡ set.drives
  pub parity : f.parity ≡ set.parity
  pub index : f.index ≡ k

-- the damage of bytes that should be a format file: they are too many, or they are no sealed file, or seal a body that spells no format
abbrev pub IsFormatDamage : List ℕ → Damage → Type 0
IsFormatDamage bytes damage = IsTooLong 64 bytes damage
    ⊎ (IsDamage format_kind bytes damage ⊎ ((place : ℕ) × HasFault format_kind format_table bytes place × (damage ≡ Spelling place)))

-- bytes that are no sealed file of a format, whatever is kept
abbrev pub IsUnsealed : Option (List ℕ) → List ℕ → Type 0
IsUnsealed kept bytes = (damage : Damage) × IsDamage format_kind bytes damage
