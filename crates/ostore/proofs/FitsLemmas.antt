-- A rig that fits words.
use Rattle.std.proofs.Common.{List, subst}
use Rattle.std.specs.Prelude.{String}
use Rattle.drive_base.specs.declared.plan.SetPlan.{SetPlan}
use Rattle.command_line.proofs.PlanLemmas.{says_one}
use Rattle.ostore.specs.Program.{Fits}
use Rattle.ostore.specs.Rigs.{IsRigOf}
use Rattle.command_line.specs.Words.{Says}
use Rattle.command_line.specs.declared.plan.Plan.{Plan}
use Rattle.ostore.specs.declared.rig.Rig.{Rig}

-- a rig of a plan's set fits the words that say the plan
pub fits_words : {Y D A : Type 0} (words : List (String Y)) (plan : Plan) (rig : Rig D A) → Says words plan → IsRigOf plan.set rig → Fits words rig
fits_words words plan rig says is other says_other =
    subst (λ (set : SetPlan). IsRigOf set rig) (says_one words plan other says says_other).set is
