-- A rig of a set.
use Rattle.std.proofs.Common.{◌≡◌, ◌++◌, List, [], ◌∷◌, length, zero, suc, subst, sym, arith}
use Rattle.std.proofs.lemmas.List.Elements.{All-append, All-get_or}
use Rattle.std.specs.Global.{Global}
use Rattle.std.specs.Prelude.{All, Vec}
use Rattle.drive_base.specs.declared.plan.SetPlan.{SetPlan}
use Rattle.ostore.specs.Rigs.{HasLanes, IsRigOf}
use Rattle.ostore.specs.declared.rig.Rig.{Rig}

-- 64 slots with their lanes and one row of drives are a rig of the set
pub rig_of : {D A : Type 0} (set : SetPlan) (rig : Rig D A) (row : Vec D Global) → rig.set ≡ set → length rig.slots.items ≡ 64
    → All (HasLanes set.drives) rig.slots.items → rig.data.items ≡ row ∷ [] → length row.items ≡ set.drives → IsRigOf set rig
rig_of set rig row set_is count lanes rows disks = record {
  set_is = set_is;
  slots = count;
  lanes = λ k d within. All-get_or (HasLanes set.drives) rig.slots.items k d within lanes;
  row = record { row = row; rows = rows; disks = disks };
}

-- what holds of one element holds of a list of it alone
one_holds : {X : Type 0} (P : X → Type 0) (x : X) → P x → All P (x ∷ [])
one_holds P x holds zero d inside = holds
one_holds P x holds (suc k) d inside = absurd (omega (arith, inside))

-- what holds of each element of a list and of one more holds of each with that one behind them
pub all_pushed : {X : Type 0} (P : X → Type 0) (xs : List X) (x : X) (new : List X) → new ≡ xs ++ x ∷ [] → All P xs → P x → All P new
all_pushed P xs x new is all holds = subst (λ l. All P l) (sym is) (All-append P xs (x ∷ []) all (one_holds P x holds))
