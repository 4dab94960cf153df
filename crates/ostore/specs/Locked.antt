-- A rig over folders whose root isn't locked: another process may have it.
use Rattle.std.specs.Prelude.{◌≡◌, All, Bool, false, true, Vec}
use Rattle.std.specs.Global.{Global}
use Rattle.drive_file.specs.FileDrive.{is_lost}
use Rattle.drive_file.specs.declared.drive.FileDrive.{FileDrive}
use Rattle.slot_core.specs.declared.slot.SlotParts.{SlotParts}
use Rattle.ostore.specs.declared.rig.Rig.{Rig}

-- where the root isn't locked, every call of a drive fails
abbrev pub FailsUnlocked : {F : Type 0} → Bool → FileDrive F → Type 0
FailsUnlocked locked drive = locked ≡ false → is_lost drive ≡ true

-- so it is of each lane of a slot
abbrev pub LanesFailUnlocked : {F A : Type 0} → Bool → SlotParts (FileDrive F) A → Type 0
LanesFailUnlocked locked parts = All (FailsUnlocked locked) parts.lanes.items

-- and of each lane and data drive of a rig
pub record RigFailsUnlocked {F A : Type 0} (locked : Bool) (rig : Rig (FileDrive F) A) : Type 0 where
  pub slots : All (LanesFailUnlocked locked) rig.slots.items
  pub rows : All (λ (row : Vec (FileDrive F) Global). All (FailsUnlocked locked) row.items) rig.data.items
