-- Lanes and data drives with ways round them.
use Rattle.std.proofs.Common.{◌≡◌, ◌∙◌, ◌<◌, ℕ, List, [], ◌∷◌, ap, length, map, subst, sym}
use Rattle.std.specs.Global.{Global}
use Rattle.std.specs.Prelude.{All, IfOk, Result, Ok, Err, Vec}
use Rattle.std.proofs.lemmas.List.{length-map}
use Rattle.std.proofs.lemmas.List.Elements.{All-map}
use Rattle.drive_base.specs.View.{DriveView, view}
use Rattle.drive_base.specs.declared.drive.Drive.{Ghosts}
use Rattle.slot_core.specs.declared.slot.SlotParts.{SlotParts}
use Rattle.ostore.specs.Rigs.{HasLanes, IsRigOf}
use Rattle.ostore.specs.Ways.{AreSlotsOver, IsRigOver, ShowSame, lanes_round, lanes_shown, way_round}
use Rattle.ostore.specs.declared.rig.Rig.{Rig}
use Rattle.ostore.proofs.WorkerLemmas.{all_of_map}

module _ {D W : Type 0} (ghosts : Ghosts D) (ways : Ghosts W) where
  -- ways are as many as the drives that they show
  pub as_many_ways : (drives : List D) (now : List W) → ShowSame ghosts ways drives now → length now ≡ length drives
  as_many_ways drives now same = sym (length-map now (view ways)) ∙ (ap length same ∙ length-map drives (way_round ghosts))

  module _ {A : Type 0} where
    -- slots with ways round their lanes are as many, and have as many lanes
    pub as_many_slots : (was : List (SlotParts D A)) (now : List (SlotParts W A)) → AreSlotsOver ghosts ways was now → length now ≡ length was
    as_many_slots was now over = sym (length-map now (lanes_shown ways)) ∙ (ap length over.lanes ∙ length-map was (lanes_round ghosts))

    pub lanes_long : (was : List (SlotParts D A)) (now : List (SlotParts W A)) (n : ℕ) → AreSlotsOver ghosts ways was now → All (HasLanes n) was → All (HasLanes n) now
    lanes_long was now n over all =
        let shown = All-map (λ (s : List DriveView). length s ≡ n) (lanes_round ghosts) was (λ k d below. length-map _ (way_round ghosts) ∙ all k d below) in
        let here = subst (All (λ (s : List DriveView). length s ≡ n)) (sym over.lanes) shown in
        λ k d below. sym (length-map _ (view ways)) ∙ all_of_map (λ (s : List DriveView). length s ≡ n) (lanes_shown ways) now here k d below

    -- a rig over these slots and this row is one over the rig that had them
    pub rig_over : {E : Type 0} (rig : Rig D A) (disks : Vec D Global) (home : List (SlotParts W A)) (row : Vec W Global) (result : Result (Rig W A) E)
        → rig.data.items ≡ disks ∷ [] → AreSlotsOver ghosts ways rig.slots.items home → ShowSame ghosts ways disks.items row.items
        → IfOk result (IsRigOf rig.set) → IfOk result (λ after. after.slots.items ≡ home) → IfOk result (λ after. after.data.items ≡ row ∷ [])
        → IfOk result (IsRigOver ghosts ways rig)
    rig_over rig disks home row (Ok after) rows over same is slots row_is = record {
      set = is.set_is;
      slots = subst (AreSlotsOver ghosts ways rig.slots.items) (sym slots) over;
      row = disks;
      rows = rows;
      row_now = row;
      rows_now = row_is;
      disks = same;
    }
    rig_over rig disks home row (Err e) rows over same is slots row_is = tt

-- how many drives the first row of a rig has
abbrev pub first_long : {D : Type 0} → List (Vec D Global) → ℕ
first_long [] = 0
first_long (row ∷ rows) = length row.items
