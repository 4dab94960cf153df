-- What follows from what an opening answers and leaves.
use Rattle.std.specs.Prelude.{◌≡◌, ◌⊎◌, ℕ, ◌+◌, ◌<◌, ◌≤◌, IfOk, IsTrue, List, length, Result, Err}
use Rattle.std.specs.Int.{IsBitSet}
use Rattle.drive_base.specs.HonestDamage.{IsHonestAt}
use Rattle.drive_base.specs.View.{DriveView, view_at}
use Rattle.drive_base.specs.declared.plan.SetPlan.{SetPlan}
use Rattle.term_gate.specs.Complete.{CanMake, CanOpen}
use Rattle.term_gate.specs.Formats.{IsUnsealed, format_name}
use Rattle.term_gate.specs.Opening.{Opens}
use Rattle.term_gate.specs.Terms.{EachHonest, EachTells, IsKept, KeepsTerm}
use Rattle.term_gate.specs.declared.opening.Opened.{Opened}
use Rattle.term_gate.specs.declared.refusal.OpenRefusal.{OpenRefusal}
use Rattle.term_gate.specs.declared.refusal.OpenRefusal.TheVariants.{NoMemory}

-- a plan of four drives or more, of which at most half are parity, for so many drives
pub record IsPlanFor (set : SetPlan) (drives : List DriveView) : Type 0 where
  pub four : 4 ≤ set.drives
  pub half : set.parity + set.parity ≤ set.drives
  pub long : length drives ≡ set.drives

-- an opening that can succeed is refused for want of memory alone
abbrev pub OpeningIsComplete : Type 0
OpeningIsComplete = (set : SetPlan) (refusal : OpenRefusal) (old new : List DriveView) → IsPlanFor set old → Opens set (Err refusal) old new
    → CanOpen set old new ⊎ CanMake set old new → refusal ≡ NoMemory

-- a term that enough drives keep is kept by as many after each opening, also one that is refused: over drives that tell, with honest damage
abbrev pub TermsStay : Type 0
TermsStay = (set : SetPlan) (result : Result Opened OpenRefusal) (old new : List DriveView) → IsPlanFor set old → Opens set result old new
    → EachTells old → EachHonest old → (used : ℕ) → IsKept set used old → IsKept set used new

-- a drive that tells, keeps a format and shows it honestly keeps one after each opening, also one that is refused, and isn't out of a set that was opened
abbrev pub FormatsStay : Type 0
FormatsStay = (set : SetPlan) (result : Result Opened OpenRefusal) (old new : List DriveView) → length old ≡ set.drives → Opens set result old new
    → (k : ℕ) → k < length old → IsTrue (view_at old k).tells → KeepsTerm 0 (view_at old k) → IsHonestAt IsUnsealed format_name (view_at old k).files
    → KeepsTerm 0 (view_at new k) × IfOk result (λ opened. IsBitSet opened.out k → ⊥)
