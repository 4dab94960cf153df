-- A rig whose drives have a way round each.
use Rattle.std.specs.Prelude.{◌≡◌, List, [], ◌∷◌, Vec, map}
use Rattle.std.specs.Global.{Global}
use Rattle.drive_base.specs.View.{DriveView, views}
use Rattle.drive_base.specs.declared.drive.Drive.{Ghosts}
use Rattle.slot_core.specs.declared.slot.SlotParts.{SlotParts}
use Rattle.ostore.specs.declared.rig.Rig.{Rig}

-- what a new way round a drive shows: what the drive shows, but for the calls, of which none was made by it
abbrev pub way_round : {D : Type 0} → Ghosts D → D → DriveView
way_round ghosts drive = record { tells = ghosts.tells drive; files = ghosts.files drive; count = ghosts.count drive; trail = [] }

-- what the lanes of a slot show, what new ways round them do, and the slot's audit
abbrev pub lanes_shown : {D A : Type 0} → Ghosts D → SlotParts D A → List DriveView
lanes_shown ghosts parts = views ghosts parts.lanes.items

abbrev pub lanes_round : {D A : Type 0} → Ghosts D → SlotParts D A → List DriveView
lanes_round ghosts parts = map (way_round ghosts) parts.lanes.items

abbrev pub audit_in : {D A : Type 0} → SlotParts D A → A
audit_in parts = parts.audit

module _ {D W : Type 0} (ghosts : Ghosts D) (ways : Ghosts W) where
  -- ways show what these drives show, and no call was made by them
  abbrev pub ShowSame : List D → List W → Type 0
  ShowSame drives now = views ways now ≡ map (way_round ghosts) drives

  -- slots, in their order, with a way round each lane, and their audits
  pub record AreSlotsOver {A : Type 0} (was : List (SlotParts D A)) (now : List (SlotParts W A)) : Type 0 where
    pub lanes : map (lanes_shown ways) now ≡ map (lanes_round ghosts) was
    pub audits : map audit_in now ≡ map audit_in was

  -- a rig with a way round each drive of its slots and of its one row of data drives
  pub record IsRigOver {A : Type 0} (was : Rig D A) (now : Rig W A) : Type 0 where
    pub set : now.set ≡ was.set
    pub slots : AreSlotsOver was.slots.items now.slots.items
    pub row : Vec D Global
    pub rows : was.data.items ≡ row ∷ []
    pub row_now : Vec W Global
    pub rows_now : now.data.items ≡ row_now ∷ []
    pub disks : ShowSame row.items row_now.items
