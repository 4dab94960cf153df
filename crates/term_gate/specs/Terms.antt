-- Terms that the drives of a set keep, and what a new one is to them.
use Rattle.std.specs.Prelude.{◌≡◌, ℕ, ◌<◌, ◌≤◌, List, Some, length}
use Rattle.std.specs.Int.{IsBitSet}
use Rattle.drive_base.specs.DriveSet.{count_in}
use Rattle.drive_base.specs.HonestDamage.{IsHonestAt}
use Rattle.drive_base.specs.Plan.{write_drives}
use Rattle.drive_base.specs.View.{AllTell, DriveView, view_at}
use Rattle.drive_base.specs.declared.plan.SetPlan.{SetPlan}
use Rattle.term_gate.specs.Formats.{IsUnsealed, format_name}
use Rattle.term_gate.specs.Table.{IsCanonical, format_file}
use Rattle.term_gate.specs.declared.opening.Opened.{Opened}
use Rattle.term_gate.specs.declared.record.Format.{Format as DriveFormat}

-- a drive keeps a format with a term not below this one
pub record KeepsTerm (term : ℕ) (drive : DriveView) : Type 0 where
  pub found : DriveFormat
  pub canonical : IsCanonical found
  pub kept : drive.files.kept format_name ≡ Some (format_file found)
  pub least : term ≤ found.term

-- as many drives as must take a write keep a format with a term not below this one
pub record IsKept (set : SetPlan) (term : ℕ) (drives : List DriveView) : Type 0 where
  pub holders : ℕ
  pub enough : write_drives set.drives set.parity ≤ count_in holders (length drives)
  pub each : (k : ℕ) → k < length drives → IsBitSet holders k → KeepsTerm term (view_at drives k)

-- each drive tells what it holds
abbrev pub EachTells : List DriveView → Type 0
EachTells drives = AllTell (λ k. Unit {0}) drives

-- damage of the formats is honest: each is shown as it is kept, or as bytes that are no sealed file
abbrev pub EachHonest : List DriveView → Type 0
EachHonest drives = (k : ℕ) → k < length drives → IsHonestAt IsUnsealed format_name (view_at drives k).files

-- A new term, over drives that tell what they hold: as many drives as must take a write keep it, and where damage is honest it is above each term that
-- so many kept before. A term was used by an earlier life, by a ballot or by an id only where so many drives keep it or a greater one; so it is above
-- all of these.
pub record IsFresh (set : SetPlan) (opened : Opened) (old new : List DriveView) : Type 0 where
  pub kept : EachTells old → IsKept set opened.term new
  pub above : EachTells old → EachHonest old → (used : ℕ) → IsKept set used old → used < opened.term
