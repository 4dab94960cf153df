-- A survey of a rig with one row.
use Rattle.std.proofs.Common.{◌≡◌, ◌∙◌, ℕ, ◌≤◌, List, [], ◌∷◌, ◌++◌, Option, Some, None, refl, sym, ap, subst, length, take, drop, get_or, arith}
use Rattle.std.proofs.lemmas.List.{take-append-le, take_all}
use Rattle.std.specs.Global.{Global}
use Rattle.std.specs.Prelude.{Vec, slice_set}
use Rattle.std.specs.Vec.{with_item, with_items}
use Rattle.drive_base.specs.View.{AllOnlyRead, views}
use Rattle.drive_base.specs.declared.drive.Drive.{Ghosts}
use Rattle.io_base.specs.Trail.{TakeCall}
use Rattle.serve_loop.specs.Deeds.{wires}
use Rattle.serve_loop.specs.Sending.{SinkView}
use Rattle.ostore.specs.Surveying.{Surveyed, Tells}
use Rattle.ostore.specs.declared.rig.Ended.{Ended}
use Rattle.ostore.specs.declared.rig.Rig.{Rig}

-- a vector with as many items written over all of its own has these
items_again : {X Z : Type 0} (v : Vec X Z) (now : List X) → length now ≡ length v.items → (with_items v now).items ≡ now
items_again v now same =
    let counted : v.len ≡ length v.items = v.ok.0 in
    let few : v.len ≤ length now = omega arith in
    let many : length now ≤ v.len = omega arith in
    rw take-append-le (take_all v.len now many)

-- a run that read the one row of a rig, told a survey of it and handed the rig back surveyed it
pub surveyed : {D A : Type 0} (ghosts : Ghosts D) (rig : Rig D A) (ended : Ended D A (Unit {0})) (row first : Vec D Global) (lent now : List D)
    (status : ℕ) (left : Option (List ℕ)) (takes : List TakeCall) (sink sink_after : SinkView) (read_faults faults faults_after : ℕ)
    → rig.data.items ≡ row ∷ [] → first ≡ get_or rig.data.items 0 first → lent ≡ first.items → length now ≡ length lent
    → ended.status ≡ status → ended.rig ≡ Some record { set = rig.set; slots = rig.slots; «data» = with_item rig.data 0 (with_items first now) }
    → ended.opening ≡ None → ended.line ≡ None → ended.starved ≡ 0
    → AllOnlyRead (views ghosts lent) (views ghosts now)
    → Tells rig.set status (views ghosts lent) (views ghosts now) sink sink_after faults faults_after
    → Surveyed ghosts rig ended (wires (record { left = left; takes = takes }) sink read_faults faults) (wires (record { left = left; takes = takes }) sink_after read_faults faults_after)
surveyed {D} {A} ghosts rig ended row first lent now status left takes sink sink_after read_faults faults faults_after
    rows is_first is_lent same is_status is_rig opening line starved only tells =
    let is_row : first ≡ row = is_first ∙ ap (λ (all : List (Vec D Global)). get_or all 0 first) rows in
    let of_row : lent ≡ row.items = is_lent ∙ ap (λ (v : Vec D Global). v.items) is_row in
    let again : now ≡ (with_items first now).items = sym (items_again first now (same ∙ ap (λ (all : List D). length all) is_lent)) in
    record {
      rig_after = record { set = rig.set; slots = rig.slots; «data» = with_item rig.data 0 (with_items first now) };
      rig_is = is_rig;
      opening = opening;
      line = line;
      starved = starved;
      left = refl;
      takes = refl;
      reads = refl;
      looked = record {
        set_is = refl;
        slots = refl;
        row = row;
        rows = rows;
        row_after = with_items first now;
        rows_after = ap (λ (all : List (Vec D Global)). slice_set all 0 (with_items first now)) rows;
        only = subst (λ (old : List D). AllOnlyRead (views ghosts old) (views ghosts (with_items first now).items)) of_row
            (subst (λ (new : List D). AllOnlyRead (views ghosts lent) (views ghosts new)) again only);
      };
      tells = subst
          (λ (s : ℕ). Tells rig.set s (views ghosts row.items) (views ghosts (with_items first now).items) sink sink_after faults faults_after) (sym is_status)
          (subst (λ (old : List D). Tells rig.set status (views ghosts old) (views ghosts (with_items first now).items) sink sink_after faults faults_after) of_row
          (subst (λ (new : List D). Tells rig.set status (views ghosts lent) (views ghosts new) sink sink_after faults faults_after) again tells));
    }
