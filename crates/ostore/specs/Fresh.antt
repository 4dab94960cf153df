-- A rig in memory before its first run.
use Rattle.std.specs.Prelude.{◌≡◌, false, [], All, Vec, None}
use Rattle.std.specs.Global.{Global}
use Rattle.audit_trail.specs.MemAudit.{MemoryAudit}
use Rattle.drive_base.specs.Files.{no_files}
use Rattle.drive_memory.specs.MemDrive.{fault_count, files_of, fuse_of, is_lost, starved_count}
use Rattle.drive_memory.specs.declared.drive.MemDrive.{MemDrive}
use Rattle.slot_core.specs.declared.slot.SlotParts.{SlotParts}
use Rattle.ostore.specs.declared.rig.Rig.{Rig}

-- a drive has no file, has counted nothing, and fails for want of memory alone
pub record IsFreshDrive (drive : MemDrive) : Type 0 where
  pub files : files_of drive ≡ no_files
  pub faults : fault_count drive ≡ 0
  pub starved : starved_count drive ≡ 0
  pub present : is_lost drive ≡ false
  pub fuse : fuse_of drive ≡ None

-- the lanes of a slot are fresh, and its audit has no entry
pub record IsFreshSlot (parts : SlotParts MemDrive MemoryAudit) : Type 0 where
  pub lanes : All IsFreshDrive parts.lanes.items
  pub audit : parts.audit.entries ≡ []

-- each drive of a rig is fresh, and no audit has an entry
pub record IsFreshRig (rig : Rig MemDrive MemoryAudit) : Type 0 where
  pub slots : All IsFreshSlot rig.slots.items
  pub rows : All (λ (row : Vec MemDrive Global). All IsFreshDrive row.items) rig.data.items
