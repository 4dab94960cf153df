-- The record of a lane, by what a drive has under a register's name.
use Rattle.std.specs.Prelude.{◌≡◌, ◌⊎◌, ◌≤◌, ℕ, List, Option, Some, None, length}
use Rattle.std.specs.Option.{is_some, option_map}
use Rattle.stamp_id.specs.VersionId.{id_bytes}
use Rattle.seal_file.specs.Sealing.{IsDamage}
use Rattle.seal_file.specs.declared.damage.Damage.{Damage}
use Rattle.seal_file.specs.declared.damage.Damage.TheVariants.{Spelling}
use Rattle.drive_base.specs.HonestDamage.{HonestDamage}
use Rattle.file_access.specs.Reading.{IsTooLong}
use Rattle.register_file.specs.Table.{HasFault}
use Rattle.register_file.specs.Record.{IsCanonical}
use Rattle.register_file.specs.Spelling.{register_kind, file_of}
use Rattle.register_file.specs.declared.record.RegFile.{RegFile}
use Rattle.register_file.specs.declared.record.Base.{Base}
use Rattle.register_file.specs.declared.record.Next.{Next}
use Rattle.register_file.specs.declared.record.Adds.{Adds}
use Rattle.stamp_id.specs.Rank.{rank_of, change_of}
use Rattle.stamp_id.specs.declared.stamp.Ballot.{Ballot}
use Rattle.vote_core.specs.Lane.{Added, Lane, blank_lane, Base as LaneBase, Next as LaneNext}
use Rattle.vote_core.specs.declared.row.Row.{Row}
use Rattle.vote_core.specs.declared.row.Row.TheVariants.{Bad, Good}
use Rattle.vote_core.specs.declared.row.NextRow.{NextRow}

-- a base, as the theory of lanes has it
abbrev pub base_of : Base → LaneBase
base_of base = record { ballot = rank_of base.ballot; change = change_of base.change; content = base.content }

-- the data that a change adds
abbrev pub added_of : Adds → Added
added_of adds = record { id = id_bytes adds.id; print = adds.print }

-- a next
abbrev pub next_of : Next → LaneNext
next_of next = record {
  ballot = rank_of next.ballot;
  change = change_of next.change;
  parent = change_of next.parent;
  adds = option_map added_of next.adds;
  content = next.content;
}

-- the record of a file
abbrev pub lane_of : RegFile → Lane
lane_of file = record { base = base_of file.base; next = option_map next_of file.next }

-- what is had under a register's name is this file; where nothing is had, it is the record of a lane without a file
abbrev pub StandsFor : Option (List ℕ) → RegFile → Type 0
StandsFor None file = lane_of file ≡ blank_lane
StandsFor (Some bytes) file = bytes ≡ file_of file

-- the same of a record
abbrev pub HasLane : Option (List ℕ) → Lane → Type 0
HasLane bytes lane = (file : RegFile) × IsCanonical file × StandsFor bytes file × (lane ≡ lane_of file)

-- what is shown under a register's name is this file, of at most so many bytes; where nothing is shown, it is the record of a lane without a file
abbrev pub ShowsFile : ℕ → Option (List ℕ) → RegFile → Type 0
ShowsFile most None file = lane_of file ≡ blank_lane
ShowsFile most (Some bytes) file = (bytes ≡ file_of file) × (length bytes ≤ most)

-- the damage of bytes that should be a register's file of at most so many bytes: they are more, or they are no sealed file, or seal a body that spells
-- no record
abbrev pub IsRegisterDamage : ℕ → List ℕ → Damage → Type 0
IsRegisterDamage most bytes damage = IsTooLong most bytes damage
    ⊎ ((length bytes ≤ most) × (IsDamage register_kind bytes damage ⊎ ((place : ℕ) × HasFault bytes place × (damage ≡ Spelling place))))

-- bytes that are no sealed file of a register, whatever is kept
abbrev pub IsUnsealed : Option (List ℕ) → List ℕ → Type 0
IsUnsealed kept bytes = (damage : Damage) × IsDamage register_kind bytes damage

-- damage is honest: what is shown is what is kept, or bytes that are no sealed file
abbrev pub IsHonest : Option (List ℕ) → Option (List ℕ) → Type 0
IsHonest kept shown = HonestDamage IsUnsealed kept shown

-- what is on its way, as a row
abbrev pub row_of_next : Next → NextRow
row_of_next next = record { ballot = next.ballot; change = next.change; adds = is_some next.adds }

-- the row of what was read of a lane
abbrev pub row_of : Option RegFile → Row
row_of None = Bad
row_of (Some file) = Good file.base.ballot file.base.change (option_map row_of_next file.next)

-- the base that a mark makes of a next
abbrev pub marked_base : Next → Base
marked_base next = record { ballot = next.ballot; change = next.change; content = next.content }

-- a pending change under another ballot, over a base
abbrev pub again_of : Base → Ballot → Next → Next
again_of base ballot found = record { ballot = ballot; change = found.change; parent = base.change; adds = found.adds; content = found.content }

-- the record of a base without a next
abbrev pub settled_file : Base → RegFile
settled_file base = record { base = base; next = None }

-- the record of a base with a next
abbrev pub prepared_file : Base → Next → RegFile
prepared_file base next = record { base = base; next = Some next }
