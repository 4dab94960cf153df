-- What a survey finds.
use Rattle.std.specs.Prelude.{◌≡◌, ℕ, ◌<◌, List, Option, Some, None, length, slice_index_or}
use Rattle.call_types.specs.declared.why.Why.{Why}
use Rattle.call_types.specs.declared.why.Why.TheVariants.{Good, Failed, Damaged, Behind, Lacks}
use Rattle.drive_base.specs.View.{DriveView}
use Rattle.drive_base.specs.declared.plan.SetPlan.{SetPlan}
use Rattle.term_gate.specs.Deciding.{IsTop}
use Rattle.term_gate.specs.Formats.{IsOf}
use Rattle.term_gate.specs.Reading.{AreRead, format_at, why_at}
use Rattle.term_gate.specs.declared.record.Format.{Format as DriveFormat}
use Rattle.term_gate.specs.declared.seen.Seen.{Seen}
use Rattle.term_gate.specs.declared.seen.Seen.TheVariants as seen

-- what is found on a drive without a good format, by its letter
abbrev pub seen_without : Why → Seen
seen_without Good = seen.Absent
seen_without (Failed _ _) = seen.Failed
seen_without (Damaged _) = seen.Damaged
seen_without (Behind _) = seen.Absent
seen_without (Lacks _) = seen.Absent

-- what is found on a drive: its format in the set, another one, or none
abbrev pub IsSeen : SetPlan → ℕ → Option DriveFormat → Why → Seen → Type 0
IsSeen set k (Some f) why seen.Good = IsOf set k f
IsSeen set k (Some f) why seen.Absent = ⊥
IsSeen set k (Some f) why seen.Damaged = ⊥
IsSeen set k (Some f) why seen.Failed = ⊥
IsSeen set k (Some f) why seen.Other = IsOf set k f → ⊥
IsSeen set k None why found = found ≡ seen_without why

-- what is found on each drive
pub record AreSeen (set : SetPlan) (formats : List (Option DriveFormat)) (whys : List Why) (seens : List Seen) : Type 0 where
  pub counted : length seens ≡ set.drives
  pub each : (k : ℕ) → k < set.drives → IsSeen set k (format_at formats k) (why_at whys k) (slice_index_or seens k seen.Absent)

-- what a survey tells, by what was read of the drives
pub record Surveys (set : SetPlan) (seens : List Seen) (term : ℕ) (old new : List DriveView) : Type 0 where
  pub formats : List (Option DriveFormat)
  pub whys : List Why
  pub read : AreRead formats whys old new
  pub seen : AreSeen set formats whys seens
  pub top : IsTop formats term
