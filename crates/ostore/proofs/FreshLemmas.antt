-- A rig of fresh memory drives holds.
use Rattle.std.proofs.Common.{◌≡◌, ◌∙◌, List, [], ◌∷◌, length, slice_index_or, sym, ap, subst, refl, arith}
use Rattle.std.proofs.lemmas.List.Elements.{All-get_or}
use Rattle.std.specs.Global.{Global}
use Rattle.std.specs.Prelude.{All, Err, IfOk, IsTrue, Ok, Result, Vec}
use Rattle.audit_trail.specs.MemAudit.{MemoryAudit}
use Rattle.drive_base.specs.Files.{Files}
use Rattle.drive_base.specs.declared.drive.Drive.{Ghosts}
use Rattle.drive_base.specs.declared.plan.SetPlan.{SetPlan}
use Rattle.drive_memory.specs.MemDrive.{files_of}
use Rattle.drive_memory.specs.declared.drive.MemDrive.{MemDrive}
use Rattle.slot_core.specs.declared.slot.SlotParts.{SlotParts}
use Rattle.slot_data.specs.Disks.{Disks}
use Rattle.store_shared.specs.Holders.{AreBare, BareRigHolds, IsBare, RigHolds, RigIsBare, nothing_done}
use Rattle.store_shared.specs.declared.pass.StoreParts.{StoreParts}
use Rattle.ostore.specs.Fresh.{IsFreshDrive, IsFreshRig, IsFreshSlot}
use Rattle.ostore.specs.Lives.{Holds}
use Rattle.ostore.specs.Rigs.{IsRigOf}
use Rattle.ostore.specs.declared.rig.Rig.{Rig}

module _ (ghosts : Ghosts MemDrive) (told : (d : MemDrive) → IsTrue (ghosts.tells d)) (held : (d : MemDrive) → ghosts.files d ≡ files_of d) where
  -- a fresh drive is bare
  bare_drive : (d : MemDrive) → IsFreshDrive d → IsBare ghosts d
  bare_drive d fresh =
      let same = held d ∙ fresh.files in (
        told d,
        record {
          kept = λ name. ap (λ (f : Files). f.kept name) same;
          shown = λ name. ap (λ (f : Files). f.shown name) same;
          loose = λ name. ap (λ (f : Files). f.loose name) same;
        },
      )

  -- so are fresh drives of a set
  bare_drives : (set : SetPlan) (drives : List MemDrive) → length drives ≡ set.drives → All IsFreshDrive drives → AreBare ghosts set drives
  bare_drives set drives count all = record {
    count = count;
    each = λ k d inside. bare_drive (slice_index_or drives k d) (All-get_or IsFreshDrive drives k d inside all);
  }

  -- and the lanes and data drives of a fresh rig
  bare_parts : (set : SetPlan) (rig : Rig MemDrive MemoryAudit) (row : Vec MemDrive Global) → rig.data.items ≡ row ∷ [] → IsRigOf set rig → IsFreshRig rig
      → length row.items ≡ set.drives → RigIsBare ghosts set (record { slots = rig.slots; disks = row })
  bare_parts set rig row rows is fresh long =
      let in_rows : All (λ (r : Vec MemDrive Global). All IsFreshDrive r.items) (row ∷ []) =
      subst (λ (l : List (Vec MemDrive Global)). All (λ (r : Vec MemDrive Global). All IsFreshDrive r.items) l) rows fresh.rows in
      record {
        disks = bare_drives set row.items long (All-get_or (λ (r : Vec MemDrive Global). All IsFreshDrive r.items) (row ∷ []) 0 row (omega arith) in_rows);
        lanes = λ k of there.
            let at = slice_index_or rig.slots.items k of in
            let slot : IsFreshSlot at = All-get_or IsFreshSlot rig.slots.items k of there.0 fresh.slots in
            subst (λ (p : SlotParts MemDrive MemoryAudit). AreBare ghosts set p.lanes.items) (there.1 of)
            (bare_drives set at.lanes.items (is.lanes k of there.0) slot.lanes);
      }

  pub fresh_holds : BareRigHolds MemoryAudit ghosts → (set : SetPlan) (rig : Rig MemDrive MemoryAudit) → IsRigOf set rig → IsFreshRig rig
      → (unseen : Disks) → Holds ghosts 0 0 unseen (nothing_done set) rig
  fresh_holds bare_holds set rig is fresh unseen =
      let row = is.row.row in
      let parts : StoreParts MemDrive MemoryAudit = record { slots = rig.slots; disks = row } in
      let holds = bare_holds set unseen parts (bare_parts set rig row is.row.rows is fresh is.row.disks) in
      record {
        parts = parts;
        are = record { slots = refl; disks = is.row.rows };
        holds = subst (λ (s : SetPlan). RigHolds ghosts s 0 0 unseen (nothing_done set) parts) (sym is.set_is) holds;
      }

  -- so it is where there was memory for one
  pub fresh_result : {E : Type 0} → BareRigHolds MemoryAudit ghosts → (set : SetPlan) (made : Result (Rig MemDrive MemoryAudit) E)
      → IfOk made (λ rig. IsRigOf set rig) → IfOk made (λ rig. IsFreshRig rig)
      → IfOk made (λ rig. (unseen : Disks) → Holds ghosts 0 0 unseen (nothing_done set) rig)
  fresh_result bare_holds set (Ok rig) is fresh = fresh_holds bare_holds set rig is fresh
  fresh_result bare_holds set (Err why) is fresh = tt
